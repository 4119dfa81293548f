use Rattle.std.proofs.Common.{refl, arith}
use Rattle.bins.proofs.SmallBins.{small_inserted, small_words, start_place}
use Rattle.bins.proofs.bins.Bins.insert_small.Goals as goal

pub push-requires : goal.push-requires
push-requires g c = let r = c.requires.linked in let f = r.2.is in record {
  links = record {
    prev = record { small = omega (arith, f.high, f.long); word = f.granted _ (omega arith) (omega (arith, f.long)) (omega (arith, f.aligned)) };
    next = record { small = omega (arith, f.high, f.long); word = f.granted _ (omega arith) (omega (arith, f.long)) (omega (arith, f.aligned)) };
  };
  behind = λ not. (start_place r.1 r.2 c.requires.small refl refl not).0;
  other = λ not. (start_place r.1 r.2 c.requires.small refl refl not).1;
}

pub returns-clause-inserted : goal.returns-clause-inserted
returns-clause-inserted g c = record {
  linked = λ index linked fresh.
      rw c.push.ensures.work.regions (small_inserted linked fresh c.requires.small refl refl c.push.ensures.pushed c.set_newest.ensures);
  words = λ index linked fresh.
      small_words linked fresh c.requires.small refl refl c.push.ensures.pushed c.set_newest.ensures;
  asks = c.push.ensures.work.asks;
}
