-- Pages that are mapped anew. `old` are the tables before, `new` after.
use Rattle.std.specs.Prelude.{◌≡◌, ℕ, ◌+◌, ◌*◌, ◌/◌, ◌^◌, ◌<◌, ◌≤◌, Result, Ok, Err}
use Rattle.paging_core.specs.Address.{IsCanonicalRange}
use Rattle.paging_core.specs.Missing.{missing_of}
use Rattle.paging_core.specs.Pool.{free_count}
use Rattle.paging_core.specs.Mapping.{IsRangeAdded}
use Rattle.paging_core.specs.PageBits.{bits_of}
use Rattle.paging_core.specs.declared.page_table.Rights.{Rights}
use Rattle.address_space.specs.declared.space_fault.SpaceFault.{SpaceFault}
use Rattle.address_space.specs.declared.space_fault.SpaceFault.TheVariants.{BadRange, Overlap, NoRoom, NoFrames, OutOfMemory}
use Rattle.address_space.specs.PageMap.{IsMap, mapped, IsGoodRange, IsGoodWindow, AreNoneMapped, IsPagePlace, HasNoPagePlace}
use Rattle.address_space.specs.Space.{Tables, page_map_of}

-- there are frames for `pages` pages from the page `first` on, and for the tables that they miss
abbrev pub HasFrames : Tables → ℕ → ℕ → Type 0
HasFrames t first pages = pages + missing_of t.words t.root first pages ≤ free_count t.free

-- pages in one canonical half of which none is mapped, and for which there are frames
pub record CanMapPages (t : Tables) (first pages : ℕ) : Type 0 where
  pub range : IsCanonicalRange first pages
  pub within : first + pages ≤ 2 ^ 52
  pub clear : AreNoneMapped (page_map_of t) first pages
  pub frames : HasFrames t first pages

-- The map has the pages, and nothing else is changed. The page tables got them, and the tables that they missed: no
-- other frame was taken.
pub record ArePagesMapped (old new : Tables) (first pages : ℕ) (rights : Rights) : Type 0 where
  pub map : IsMap (page_map_of new) (mapped first pages rights (page_map_of old))
  pub root : new.root ≡ old.root
  pub added : IsRangeAdded old.words new.words old.free new.free old.root first pages (bits_of rights)

-- When each answer is given. Want of memory is free if there is no other cause.
abbrev pub IsMapAnswer : Tables → ℕ → ℕ → Result (Unit {0}) SpaceFault → Type 0
IsMapAnswer t start pages (Ok done) = IsGoodRange start pages × AreNoneMapped (page_map_of t) (start / 4096) pages × HasFrames t (start / 4096) pages
IsMapAnswer t start pages (Err BadRange) = IsGoodRange start pages → ⊥
IsMapAnswer t start pages (Err Overlap) = IsGoodRange start pages × (AreNoneMapped (page_map_of t) (start / 4096) pages → ⊥)
IsMapAnswer t start pages (Err NoFrames) = IsGoodRange start pages × AreNoneMapped (page_map_of t) (start / 4096) pages × (HasFrames t (start / 4096) pages → ⊥)
IsMapAnswer t start pages (Err OutOfMemory) = IsGoodRange start pages × AreNoneMapped (page_map_of t) (start / 4096) pages × HasFrames t (start / 4096) pages
IsMapAnswer t start pages (Err fault) = ⊥

-- When a call that maps pages at their lowest place in a window gets each answer.
abbrev pub IsPlaceAnswer : Tables → ℕ → ℕ → ℕ → Result ℕ SpaceFault → Type 0
IsPlaceAnswer t low high pages (Ok at) =
    IsGoodWindow low high × (0 < pages) × ((page : ℕ) × (at ≡ 4096 * page) × IsPagePlace (page_map_of t).rights (low / 4096) (high / 4096) pages page × HasFrames t page pages)
IsPlaceAnswer t low high pages (Err BadRange) = IsGoodWindow low high → 0 < pages → ⊥
IsPlaceAnswer t low high pages (Err NoRoom) = IsGoodWindow low high × (0 < pages) × HasNoPagePlace (page_map_of t).rights (low / 4096) (high / 4096) pages
IsPlaceAnswer t low high pages (Err NoFrames) =
    IsGoodWindow low high × (0 < pages) × ((page : ℕ) × IsPagePlace (page_map_of t).rights (low / 4096) (high / 4096) pages page × (HasFrames t page pages → ⊥))
IsPlaceAnswer t low high pages (Err OutOfMemory) =
    IsGoodWindow low high × (0 < pages) × ((page : ℕ) × IsPagePlace (page_map_of t).rights (low / 4096) (high / 4096) pages page × HasFrames t page pages)
IsPlaceAnswer t low high pages (Err fault) = ⊥
