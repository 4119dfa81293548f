use Rattle.paged_systems.proofs.NewSystem.{new_is}
use Rattle.mapped_regions.specs.Shown.{paged_view}
use Rattle.paged_systems.proofs.paged_system.PagedSystem.new.Goals as goal

pub new-requires-clause-window : goal.new-requires-clause-window
new-requires-clause-window c = (c.requires.window.whole, c.requires.window.canonical)

pub returns : goal.returns
returns c = new_is (paged_view c.in_ok-regions.regions) c.args.base c.args.pages c.args.frames c.requires.window
    c.in_ok-regions.regions.mapped c.in_ok-regions.ensures
