use Rattle.paged_systems.proofs.paged_system.PagedSystem.plan.Goals as goal

pub has_frames-requires : goal.has_frames-requires
has_frames-requires c = c.in-Some.ensures.range.1
