-- What is kept while regions are mapped, and how they join and leave. `old` is what is seen before, `new` after.
use Rattle.std.specs.Prelude.{◌≡◌, ℕ, ◌+◌, ◌*◌, ◌/◌, ◌%◌, ◌^◌, ◌<◌, ◌≤◌, true, false, IsTrue, IsFalse, IsSome, List, [], length, Option, Some, None}
use Rattle.std.specs.Option.{option_map}
use Rattle.std.specs.List.{AllByRecursion, AllByRecursion-prop}
use Rattle.std.proofs.Props.{props}
use Rattle.paging_core.specs.Address.{is_canonical, IsCanonicalRange}
use Rattle.paging_core.specs.Memory.{frame_count, word_at}
use Rattle.paging_core.specs.Area.{Whole}
use Rattle.paging_core.specs.Pool.{is_frame_free, FreeBelow, free_count}
use Rattle.paging_core.specs.Runs.{IsRunFree}
use Rattle.paging_core.specs.Walk.{reach, large_of, walk_of, reached, Place}
use Rattle.paging_core.specs.PageBits.{bits_of, bits_at}
use Rattle.paging_core.specs.Tree.{IsTree, IsUnmet}
use Rattle.paging_core.specs.Missing.{missing_of}
use Rattle.machine_model.specs.declared.region.Region.{Region}
use Rattle.machine_model.specs.State.{end_of_region, is_within, total_pages}
use Rattle.machine_model.specs.Place.{meets_any, with_region}
use Rattle.machine_model.specs.Room.{heap_rights}
use Rattle.page_ranges.specs.RangeUnmapping.{cuts_large_page}
use Rattle.machine_model.specs.Slots.{IsSlot, IsSlotOf, slot_number, is_whole_in}
use Rattle.machine_model.specs.Machine.{Paged, HasGotPages, ArePagesGone}
use Rattle.mapped_regions.specs.Regions.{IsRegionBoundary, kind_at, without_region, cut_regions}
use Rattle.mapped_regions.specs.FrameUse.{AreFramesFree}

-- whole pages from an address on: at least one, and all in one canonical half
abbrev pub IsPageRange : ℕ → ℕ → Type 0
IsPageRange start pages = (start % 4096 ≡ 0) × IsCanonicalRange (start / 4096) pages

-- A region has whole pages; one of the heap lies in the window, which has `window` pages from `base` on, with the
-- heap's rights.
pub record IsRegion (base window : ℕ) (region : Region) : Type 0 where
  pub range : IsPageRange region.start region.pages
  pub from : region.heap ≡ true → base ≤ region.start
  pub within : region.heap ≡ true → end_of_region region ≤ base + 4096 * window
  pub rights : region.heap ≡ true → region.rights ≡ heap_rights

-- The tables form a tree; the walk finds a page exactly where a region has it, with the region's rights, of type 0,
-- as usual memory, and not global; each slot that one entry maps lies whole in a region; and each frame is free, or the
-- walk meets it, as a table or as that of a page.
pub record IsMapped (p : Paged) : Type 0 where
  pub window : IsPageRange p.base p.pages
  pub tree : IsTree p.words p.root p.free
  pub known : FreeBelow p.free (frame_count p.words)
  pub flags : length p.free ≡ frame_count p.words
  pub root_in : p.root < frame_count p.words
  pub few_frames : frame_count p.words < 2 ^ 32
  pub count : p.tables + free_count p.free + total_pages p.regions ≡ frame_count p.words
  pub regions : AllByRecursion (IsRegion p.base p.pages) p.regions
  pub found :
      (page : ℕ) → IsTrue (is_canonical (page * 4096)) →
      option_map bits_at (walk_of p.words p.root page) ≡ option_map (λ kind. bits_of kind.1) (kind_at p.regions (4096 * page))
  pub larges : (slot : ℕ) → IsSlot slot → IsSome (large_of p.words p.root (slot_number slot)) → IsTrue (is_whole_in p.regions slot)
  pub accounted : (frame : ℕ) → frame < frame_count p.words → IsUnmet Whole p.words p.root frame → is_frame_free p.free frame ≡ true

-- nothing is mapped, and all frames but that of the root are free
pub record IsEmpty (p : Paged) (base pages frames : ℕ) : Type 0 where
  pub base_is : p.base ≡ base
  pub pages_is : p.pages ≡ pages
  pub regions_is : p.regions ≡ []
  pub tables_is : p.tables ≡ 1
  pub frames_are : frame_count p.words ≡ frames
  pub free_frames : free_count p.free + 1 ≡ frames
  pub no_tables : (level number : ℕ) → 0 < level → reach p.words p.root level number ≡ None
  pub no_larges : (number : ℕ) → large_of p.words p.root number ≡ None
  pub no_slots : p.slots ≡ []
  pub unmapped : (page : ℕ) → walk_of p.words p.root page ≡ None

-- there are frames for `pages` pages from a page on, and for the tables that they lack
abbrev pub HasFrames : Paged → ℕ → ℕ → Type 0
HasFrames p page pages = pages + missing_of p.words p.root page pages ≤ free_count p.free

-- `pages` pages from an address on can be mapped: they meet no region, and there are frames for them
pub record CanMap (p : Paged) (start pages : ℕ) : Type 0 where
  pub range : IsPageRange start pages
  pub clear : IsFalse (meets_any start pages p.regions)
  pub frames : HasFrames p (start / 4096) pages

-- If a slot lies whole among a number of pages from an address on, had no table, and is not mapped by one entry now, no
-- run of frames is free that it could have.
abbrev pub AreRunsUsed : Paged → Paged → ℕ → ℕ → Type 0
AreRunsUsed old new start pages =
    (slot : ℕ) → IsSlotOf start pages slot → reach old.words old.root 3 (slot_number slot) ≡ None → large_of new.words new.root (slot_number slot) ≡ None →
    (run : ℕ) → IsRunFree new.free run → ⊥

-- A region joined the others. Its pages are mapped with its rights, each at a new frame that reads as 0, with the
-- tables that they lacked; slots that lie whole in it and had no table are mapped by one entry each, as long as a run of
-- frames was free; every byte that was mapped stays.
pub record IsRegionJoined (old new : Paged) (region : Region) : Type 0 where
  pub regions : new.regions ≡ with_region region old.regions
  pub joins : new.joins ≡ (old.joins + 1) % 2 ^ 64
  pub added : HasGotPages old new region.start region.pages region.rights
  pub runs : AreRunsUsed old new region.start region.pages
  pub zeros : (address : ℕ) → IsTrue (is_within address region) → reached new.words old.root address ≡ Some 0
  pub bytes : (address : ℕ) → IsSome (walk_of old.words old.root (address / 4096)) → reached new.words old.root address ≡ reached old.words old.root address

-- The region of `pages` pages at an address left. Its pages are no longer mapped and their frames are free; the tables
-- stay and none is made, and every byte that is still mapped stays.
pub record IsLeft (old new : Paged) (start pages : ℕ) : Type 0 where
  pub regions : new.regions ≡ without_region start pages old.regions
  pub gone : ArePagesGone old new start pages
  pub whole : cuts_large_page old.words old.root (start / 4096) ≡ false
  pub frames : AreFramesFree old new start pages

-- `pages` pages from an address on left the regions: one that begins among them left, and one that reaches there from
-- before ends where they begin. They are no longer mapped and their frames are free, but for that of the table of a
-- slot that was mapped by one entry and is left in part; the other tables stay, and so does every byte that is still
-- mapped. If none reaches there from before, no slot is left in part.
pub record AreGone (old new : Paged) (start pages : ℕ) : Type 0 where
  pub regions : new.regions ≡ cut_regions start pages old.regions
  pub gone : ArePagesGone old new start pages
  pub frames : IsRegionBoundary start old.regions → AreFramesFree old new start pages

-- a word stands at the address, in a page that is mapped
pub record IsMappedWord (p : Paged) (at : ℕ) : Type 0 where
  pub aligned : at % 8 ≡ 0
  pub canonical : IsTrue (is_canonical at)
  pub mapped : IsSome (walk_of p.words p.root (at / 4096))

-- the word that the walk to an address reaches
abbrev pub walked_word : List ℕ → ℕ → Option Place → ℕ
walked_word words at None = 0
walked_word words at (Some place) = word_at words place.frame (at % 4096 / 8)

-- the word that a walk reaches at an address; 0 if no page is mapped there
abbrev pub word_reached : Paged → ℕ → ℕ
word_reached p at = walked_word p.words at (walk_of p.words p.root (at / 4096))

-- ---- this is kept in one way

IsRegion-prop : (base window : ℕ) (region : Region) → IsProp (IsRegion base window region)
IsRegion-prop base window region = hlevel props

pub IsMapped-prop : (p : Paged) → IsProp (IsMapped p)
IsMapped-prop p = hlevel (props, AllByRecursion-prop (IsRegion p.base p.pages) (IsRegion-prop p.base p.pages) p.regions)
