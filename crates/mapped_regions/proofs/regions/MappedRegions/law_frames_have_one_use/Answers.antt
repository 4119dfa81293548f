use Rattle.mapped_regions.specs.Shown.{paged_view}
use Rattle.mapped_regions.proofs.FrameUse.{one_use}
use Rattle.mapped_regions.proofs.regions.MappedRegions.law_frames_have_one_use.Goals as goal

pub returns-clause-frames : goal.returns-clause-frames
returns-clause-frames c = one_use (paged_view c.args.self.now) c.args.self.now.mapped c.count.ensures.laid
