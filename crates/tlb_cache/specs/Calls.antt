-- What the calls of a system with a cache have done.
use Rattle.std.specs.Prelude.{◌≡◌, ℕ, List}
use Rattle.paging_core.specs.declared.page_table.Rights.{Rights}
use Rattle.x86_instructions.specs.declared.tlb.FlushCommand.{FlushCommand}
use Rattle.paged_systems.specs.System.{paged}
use Rattle.mapped_regions.specs.Mapped.{CanMap, IsRegionJoined, IsLeft}
use Rattle.mapped_regions.specs.UserRegions.{user_region, CanUnmap}
use Rattle.tlb_cache.specs.Cache.{AgreesWithTables, left_by_all}
use Rattle.tlb_cache.specs.Cached.{Flushes, flush_of}
use Rattle.tlb_cache.specs.declared.cached_system.CachedSystem.{CachedSystem}

-- The pages from an address on are a region that could be mapped, and joined the others.
pub record IsRegionMapped (old new : CachedSystem) (start pages : ℕ) (rights : Rights) : Type 0 where
  pub can : CanMap (paged old.system) start pages
  pub joined : IsRegionJoined (paged old.system) (paged new.system) (user_region start pages rights)

-- The pages from an address on were a region that could be unmapped, and left the others. The commands flush them, and the cache has
-- obeyed each.
pub record IsRegionFlushed (old new : CachedSystem) (start pages : ℕ) (list : List FlushCommand) : Type 0 where
  pub can : CanUnmap (paged old.system) start pages
  pub left : IsLeft (paged old.system) (paged new.system) start pages
  pub commands : list ≡ flush_of old.cpu start pages
  pub covered : Flushes list start pages
  pub flushed : new.tlb ≡ record old.tlb { entries = left_by_all (flush_of old.cpu start pages) old.tlb.entries }

-- The processor is as it was, and each entry is what a walk finds.
pub record IsStillCached (old new : CachedSystem) : Type 0 where
  pub cpu : new.cpu ≡ old.cpu
  pub agrees : AgreesWithTables (paged new.system).words (paged new.system).root new.tlb.entries
