use Rattle.x86_flags.proofs.Levels.{selector-new}
use Rattle.x86_flags.proofs.segment_selector.SegmentSelector.new.Goals as goal

pub returns : goal.returns
returns c = selector-new c.args.index c.args.rpl
