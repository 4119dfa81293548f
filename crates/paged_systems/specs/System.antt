-- What contracts see of a paged system.
use Rattle.std.specs.Prelude.{ℕ, ◌+◌}
use Rattle.paging_core.specs.Pool.{free_count}
use Rattle.machine_model.specs.Machine.{Paged}
use Rattle.mapped_regions.specs.Shown.{paged_view}
use Rattle.paged_systems.specs.declared.paged_system.PagedSystem.{PagedSystem}

-- what the definitions see of a system
abbrev pub paged : PagedSystem → Paged
paged system = paged_view system.regions

-- the frames that hold no page of a region: those that are free, and the tables
abbrev pub pageless_frames : Paged → ℕ
pageless_frames p = free_count p.free + p.tables
