use Rattle.std.proofs.Common.{inl, inr, ◌+◌, refl, arith}
use Rattle.dlmalloc_chunks.specs.Bins.{least_size}
use Rattle.bins.specs.Index.{from}
use Rattle.bins.specs.Linked.{low_of}
use Rattle.bins.proofs.TreeRanges.{mono, low_least}
use Rattle.bins.proofs.LeastLarge.{read, none_between, none_above, lesser_fit, some_there}
use Rattle.bins.proofs.bins.Bins.least_behind.Goals as goal

pub least_of-requires : goal.least_of-requires
least_of-requires g c =
    let r = c.requires.linked in
    record {
      readable = (
        (from (least_size c.in-Some.next) r.0),
        (
          low_of c.in-Some.next,
          (read r.1 c.in-Some.next c.in-Some.ensures.1 refl refl c.bin_levels-levels.ensures),
        ),
      );
    }

pub returns-in-None-clause-fit : goal.returns-in-None-clause-fit
returns-in-None-clause-fit g c = λ index linked. none_above linked (c.args.bin + 1) (omega arith) c.in-None.ensures

pub returns-in-Some-clause-fit : goal.returns-in-Some-clause-fit
returns-in-Some-clause-fit g c =
    λ index linked. elim (c.least_of.ensures.fit (from (least_size c.in-Some.next) index) (low_of c.in-Some.next)
    (read linked c.in-Some.next c.in-Some.ensures.1 refl refl c.bin_levels-levels.ensures)) [
      | inl none ↦ absurd (some_there linked c.in-Some.next c.in-Some.ensures.1 c.in-Some.ensures.2 refl refl c.bin_levels-levels.ensures none.0)
      | inr lesser ↦ lesser_fit linked c.in-Some.next (least_size (c.args.bin + 1))
          (inl (none_between linked (c.args.bin + 1) c.in-Some.next c.in-Some.ensures.0 c.in-Some.ensures.1 c.in-Some.ensures.3))
          lesser (inr (low_least c.in-Some.next)) (inl (mono (c.args.bin + 1) c.in-Some.next c.in-Some.ensures.0))
    ]
