-- What is done beside the heap.
use Rattle.std.specs.Prelude.{◌≡◌, ℕ}
use Rattle.heap_memory.specs.Regions.{IsWordOf}
use Rattle.paging_core.specs.declared.page_table.Rights.{Rights}
use Rattle.machine_model.specs.Machine.{Paged}
use Rattle.mapped_regions.specs.declared.map_fault.MapFault.{MapFault}
use Rattle.mapped_regions.specs.declared.map_fault.UnmapFault.{UnmapFault}
use Rattle.mapped_regions.specs.Mapped.{word_reached, CanMap, IsRegionJoined, IsLeft}
use Rattle.mapped_regions.specs.UserRegions.{user_region, IsMapRefused, IsUnmapRefused, CanUnmap}
use Rattle.paged_systems.specs.Words.{grants_of}

-- The heap's regions stay, and every word of them: on these a heap over the system rests.
pub record KeepsHeapWords (old new : Paged) : Type 0 where
  pub regions : grants_of new ≡ grants_of old
  pub words : (at : ℕ) → IsWordOf (grants_of old) at → word_reached new at ≡ word_reached old at

-- Pages were mapped as a region of the user, as they could be.
pub record IsUserMapped (old new : Paged) (start pages : ℕ) (rights : Rights) : Type 0 where
  pub can : CanMap old start pages
  pub joined : IsRegionJoined old new (user_region start pages rights)

-- Pages were not mapped, for this cause, and nothing was changed.
pub record IsMapDenied (old new : Paged) (start pages : ℕ) (fault : MapFault) : Type 0 where
  pub why : IsMapRefused old start pages fault
  pub same : new ≡ old

-- The region of the user that has just these pages was unmapped.
pub record IsUserUnmapped (old new : Paged) (start pages : ℕ) : Type 0 where
  pub can : CanUnmap old start pages
  pub left : IsLeft old new start pages

-- No region was unmapped, for this cause, and nothing was changed.
pub record IsUnmapDenied (old new : Paged) (start pages : ℕ) (fault : UnmapFault) : Type 0 where
  pub why : IsUnmapRefused old start pages fault
  pub same : new ≡ old
