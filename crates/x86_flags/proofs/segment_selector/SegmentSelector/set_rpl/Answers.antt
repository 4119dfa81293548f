use Rattle.std.proofs.Common.{arith}
use Rattle.x86_flags.proofs.Levels.{selector-set}
use Rattle.x86_flags.proofs.segment_selector.SegmentSelector.set_rpl.Goals as goal

pub returns : goal.returns
returns c = selector-set c.args.self.now.0 c.args.rpl (omega arith)
