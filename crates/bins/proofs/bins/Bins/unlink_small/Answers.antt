use Rattle.std.proofs.Common.{refl, arith}
use Rattle.bins.proofs.Pulled.{prev_place, next_place, places_apart, small_unlinked, pulled_words}
use Rattle.bins.proofs.bins.Bins.unlink_small.Goals as goal

pub overflow_add-chunk : goal.overflow_add-chunk
overflow_add-chunk g c = let r = c.requires.linked in let own = r.1.chunks.each c.args.size c.args.chunk r.2 in omega (arith, own.high, own.long)

pub load_counted-prev-requires : goal.load_counted-prev-requires
load_counted-prev-requires g c = let r = c.requires.linked in let own = r.1.chunks.each c.args.size c.args.chunk r.2 in
    own.granted _ (omega arith) (omega (arith, own.long)) (omega (arith, own.aligned))

pub overflow_add-chunk-2 : goal.overflow_add-chunk-2
overflow_add-chunk-2 g c = let r = c.requires.linked in let own = r.1.chunks.each c.args.size c.args.chunk r.2 in omega (arith, own.high, own.long)

pub load_counted-next-requires : goal.load_counted-next-requires
load_counted-next-requires g c = let r = c.requires.linked in let own = r.1.chunks.each c.args.size c.args.chunk r.2 in
    own.granted _ (omega arith) (omega (arith, own.long)) (omega (arith, own.aligned))

pub pull-requires : goal.pull-requires
pull-requires g c =
    let r = c.requires.linked in let small = c.requires.small in
    let prev = c.load_counted-prev.ensures.value in let next = c.load_counted-next.ensures.value in
    record {
      front = λ not. prev_place c.args.size c.args.chunk r.1 r.2 small prev next refl not;
      back = λ not. next_place c.args.size c.args.chunk r.1 r.2 small prev next refl not;
      other = λ p n. places_apart c.args.size c.args.chunk r.1 r.2 small prev next refl p n;
    }

pub returns-clause-unlinked : goal.returns-clause-unlinked
returns-clause-unlinked g c = record {
  linked = λ index linked is.
      rw c.pull.ensures.work.regions (small_unlinked c.args.size c.args.chunk linked is c.requires.small
      c.load_counted-prev.ensures.value c.load_counted-next.ensures.value refl c.pull.ensures.pulled c.set_less.ensures);
  words = λ index linked is.
      pulled_words c.args.size c.args.chunk linked is c.requires.small
      c.load_counted-prev.ensures.value c.load_counted-next.ensures.value refl c.pull.ensures.pulled c.set_less.ensures;
  asks = c.pull.ensures.work.asks;
}
