use Rattle.std.proofs.Common.{◌∙◌, sym, ap}
use Rattle.paging_core.specs.Pool.{free_count}
use Rattle.paging_core.proofs.Made.{none_free}
use Rattle.paging_core.proofs.pool.FramePoolFrameAllocatorSize4KiB.allocate_frame.Goals as goal

pub returns-in_err-number-clause-count : goal.returns-in_err-number-clause-count
returns-in_err-number-clause-count c =
    rw c.from_residual.ensures (ap free_count (sym c.self.view_is) ∙ none_free c.self.inside.free c.in_err-number.ensures.lowest)
