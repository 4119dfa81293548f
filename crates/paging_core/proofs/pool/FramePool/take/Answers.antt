use Rattle.std.proofs.Common.{◌≡◌, true}
use Rattle.paging_core.specs.Pool.{is_frame_free}
use Rattle.paging_core.proofs.Made.{free_below}
use Rattle.paging_core.proofs.Runs.{taken_counted, run_in, read_count, count_some}
use Rattle.paging_core.proofs.pool.FramePool.take.Goals as goal

pub remove-requires : goal.remove-requires
remove-requires c = rw c.self.view_is (free_below c.args.self.now c.args.number c.requires)

pub remove-requires-2 : goal.remove-requires-2
remove-requires-2 c =
    run_in c.self.inside.free c.self.inside.whole c.self.inside.counts.items c.args.number c.self.invariant
    (rw c.self.view_is (free_below c.args.self.now c.args.number c.requires))

pub overflow_sub-left : goal.overflow_sub-left
overflow_sub-left c =
    let was : is_frame_free c.self.inside.free c.args.number ≡ true = rw c.self.view_is c.requires in
    count_some c.self.inside.free c.self.inside.whole c.self.inside.counts.items c.args.number c.index.result.now c.self.invariant was
    (read_count c.self.inside.free c.self.inside.whole c.self.inside.counts.items c.args.number c.index.result.now c.self.invariant
    (free_below c.self.inside.free c.args.number was) c.index.ensures)

pub invariant_of-self : goal.invariant_of-self
invariant_of-self c =
    let was : is_frame_free c.self.inside.free c.args.number ≡ true = rw c.self.view_is c.requires in
    rw (c.remove.ensures, c.remove-2.ensures)
    (taken_counted c.self.inside.free c.self.inside.whole c.self.inside.counts.items c.args.number c.index.result.now c.self.invariant was
    (read_count c.self.inside.free c.self.inside.whole c.self.inside.counts.items c.args.number c.index.result.now c.self.invariant
    (free_below c.self.inside.free c.args.number was) c.index.ensures))
