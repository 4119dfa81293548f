use Rattle.std.proofs.Common.{ap, ◌∙◌, set, false, length, true, List, Bool, ◌/◌}
use Rattle.std.proofs.lemmas.List.{length-replicate}
use Rattle.meminterval.specs.Tree.{entries}
use Rattle.address_space.proofs.NewSpace.{new_kept}
use Rattle.address_space.proofs.space.Space.new.Goals as goal

pub invariant_of-result : goal.invariant_of-result
invariant_of-result c = record {
  kept = new_kept (record { words = c.make_root.new.frames; root = c.in-Some.root; free = c.make_root.new.pool; runs = entries c.new-3.result })
      c.args.frames (ap entries c.new-3.ensures) c.ranges.frames.fits (ap (λ n. n / 512) c.in-Some.ensures.made.size ∙ c.in_ok-memory.ensures.count)
      (c.in-Some.ensures.frame.taken.1 ∙ ap (λ (flags : List Bool). set flags c.in-Some.root false) c.in_ok-pool.ensures.free)
      (c.in-Some.ensures.frame.flags ∙ (ap length c.in_ok-pool.ensures.free ∙ length-replicate c.args.frames true))
      c.in-Some.ensures.known c.in-Some.ensures.made.below c.in-Some.ensures.made.tree c.in-Some.ensures.made.unmapped
      c.in-Some.ensures.made.no_large;
}
