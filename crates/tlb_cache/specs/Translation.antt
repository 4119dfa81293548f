-- What a cache answers of a page.
use Rattle.std.specs.Prelude.{◌≡◌, ℕ, ◌<◌, List, Contains, Option, IfSome, IsSome, option_map}
use Rattle.paging_core.specs.Memory.{frame_count}
use Rattle.paging_core.specs.Walk.{walk_of, mapped_place}
use Rattle.paging_core.specs.declared.page_walk.Mapped.{Mapped}
use Rattle.tlb_cache.specs.Cache.{Cache, AgreesWithTables, kept}

-- The answer is that of an entry of the page, and the cache is as it was.
pub record IsKeptAnswer (old new : Cache) (page : ℕ) (mapped : Option Mapped) : Type 0 where
  pub answers : IfSome mapped (λ place. Contains old.entries (record { page = page; mapped = place }))
  pub found : IsSome mapped
  pub stays : new ≡ old

-- The answer is that of a walk, and the cache keeps it as its newest entry.
pub record IsWalkedAnswer (words : List ℕ) (root : ℕ) (old new : Cache) (page : ℕ) (mapped : Option Mapped) : Type 0 where
  pub walked : option_map mapped_place mapped ≡ walk_of words root page
  pub joined : new ≡ kept old page mapped

-- The answer is what a walk finds, at a frame that exists, and so is each entry.
pub record IsTrueAnswer (words : List ℕ) (root : ℕ) (new : Cache) (page : ℕ) (mapped : Option Mapped) : Type 0 where
  pub same : option_map mapped_place mapped ≡ walk_of words root page
  pub below : IfSome mapped (λ place. place.frame < frame_count words)
  pub agrees : AgreesWithTables words root new.entries
