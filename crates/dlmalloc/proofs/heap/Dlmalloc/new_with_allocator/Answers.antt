use Rattle.dlmalloc.proofs.Names.{[], refl, arith}
use Rattle.dlmalloc.proofs.heap.Dlmalloc.new_with_allocator.Goals as goal

pub returns-clause-sound : goal.returns-clause-sound
returns-clause-sound g c = record {
  granularity = ((16, refl), omega arith);
  segments = tt;
  apart = tt;
  told = refl;
  none = λ empty. refl;
  no_victim = λ none. refl;
  victim = λ some. absurd (some refl);
}

pub returns-clause-linked : goal.returns-clause-linked
returns-clause-linked g c = record {
  index = λ n. [];
  linked = c.new.ensures (g.A.Links.regions c.args.system) (g.A.Links.word c.args.system);
  holds = record {
    all = λ at size free other out. absurd (cc);
    free = λ at size none. absurd none;
    no_victim = λ at size none. absurd none;
    not_loose = λ at size none. absurd none;
  };
}
