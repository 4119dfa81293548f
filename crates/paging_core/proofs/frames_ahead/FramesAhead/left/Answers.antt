use Rattle.std.proofs.Common.{◌∙◌, ◌-◌, ap, sym, arith}
use Rattle.paging_core.specs.Pool.{free_count}
use Rattle.paging_core.proofs.Ahead.{ahead_left}
use Rattle.paging_core.proofs.frames_ahead.FramesAhead.left.Goals as goal

pub returns : goal.returns
returns c =
    sym (ahead_left (c.self.inside.end - c.self.inside.next) c.self.inside.next c.self.inside.end (omega (arith, c.self.invariant.0)))
    ∙ ap free_count c.self.view_is
