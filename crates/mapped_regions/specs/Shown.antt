-- What contracts see of mapped regions.
use Rattle.std.specs.Prelude.{◌≡◌, Result, OnErr}
use Rattle.machine_model.specs.Machine.{Paged}
use Rattle.mapped_regions.specs.declared.regions.MappedRegions.{MappedRegions}

-- what the definitions see of mapped regions
abbrev pub paged_view : MappedRegions → Paged
paged_view mapped = record { base = mapped.base; pages = mapped.pages; words = mapped.frames; root = mapped.root; free = mapped.pool; tables = mapped.tables; joins = mapped.joins; regions = mapped.regions; slots = mapped.slots.items }

-- an error changes nothing
abbrev pub KeptIfErr : {A E : Type 0} → Result A E → MappedRegions → MappedRegions → Type 0
KeptIfErr result old new = OnErr result (paged_view new ≡ paged_view old)
