-- When a region of the user is mapped or unmapped, and why it is not: the causes in their order.
use Rattle.std.specs.Prelude.{ℕ, ◌/◌, Bool, not, ◌&&◌, IsTrue, IsFalse}
use Rattle.std.specs.List.{list_any}
use Rattle.machine_model.specs.Place.{meets_any}
use Rattle.machine_model.specs.Machine.{Paged}
pub use Rattle.machine_model.specs.Room.{user_region}
use Rattle.mapped_regions.specs.Regions.{is_at, meets_heap}
use Rattle.mapped_regions.specs.declared.map_fault.MapFault.{MapFault}
use Rattle.mapped_regions.specs.declared.map_fault.MapFault.TheVariants as Map
use Rattle.mapped_regions.specs.declared.map_fault.UnmapFault.{UnmapFault}
use Rattle.mapped_regions.specs.declared.map_fault.UnmapFault.TheVariants as Unmap
use Rattle.mapped_regions.specs.Mapped.{IsPageRange, HasFrames, CanMap}

-- a number of pages from an address on meet a region of the heap
abbrev pub meets_any_heap : Paged → ℕ → ℕ → Bool
meets_any_heap p start pages = list_any (meets_heap start pages) p.regions

-- there is a region of the user with just these pages
abbrev pub has_user_region : Paged → ℕ → ℕ → Bool
has_user_region p start pages = list_any (λ region. not region.heap && is_at start pages region) p.regions

-- memory may be wanting if there is none of the other causes
abbrev pub IsMapRefused : Paged → ℕ → ℕ → MapFault → Type 0
IsMapRefused p start pages Map.BadRange = ¬ (IsPageRange start pages)
IsMapRefused p start pages Map.HeapRegion = IsPageRange start pages × IsTrue (meets_any_heap p start pages)
IsMapRefused p start pages Map.Overlap = IsPageRange start pages × IsFalse (meets_any_heap p start pages) × IsTrue (meets_any start pages p.regions)
IsMapRefused p start pages Map.NoFrames = IsPageRange start pages × IsFalse (meets_any start pages p.regions) × ¬ (HasFrames p (start / 4096) pages)
IsMapRefused p start pages Map.OutOfMemory = CanMap p start pages

-- when `unmap` gives each refusal
abbrev pub IsUnmapRefused : Paged → ℕ → ℕ → UnmapFault → Type 0
IsUnmapRefused p start pages Unmap.BadRange = ¬ (IsPageRange start pages)
IsUnmapRefused p start pages Unmap.HeapRegion = IsPageRange start pages × IsTrue (meets_any_heap p start pages)
IsUnmapRefused p start pages Unmap.UnknownRegion = IsPageRange start pages × IsFalse (meets_any_heap p start pages) × IsFalse (has_user_region p start pages)

-- none of the causes holds: just one region of the user has these pages
pub record CanUnmap (p : Paged) (start pages : ℕ) : Type 0 where
  pub range : IsPageRange start pages
  pub there : IsTrue (has_user_region p start pages)
