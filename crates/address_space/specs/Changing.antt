-- Pages that leave, get other rights, are copied or written. `old` are the tables before, `new` after.
use Rattle.std.specs.Prelude.{◌≡◌, ℕ, ◌+◌, ◌-◌, ◌*◌, ◌/◌, ◌^◌, ◌<◌, ◌≤◌, ◌&&◌, Bool, true, false, is_some, List, length, Some, None, Result, Ok, Err}
use Rattle.paging_core.specs.Address.{IsCanonicalRange}
use Rattle.paging_core.specs.Memory.{word_at}
use Rattle.paging_core.specs.Entry.{table_entry, page_entry}
use Rattle.paging_core.specs.Missing.{missing_of}
use Rattle.paging_core.specs.PageChanges.{ArePagesChanged, removal, regrant, among}
use Rattle.paging_core.specs.Pool.{is_frame_free, free_count}
use Rattle.paging_core.specs.Prefix.{prefix_of}
use Rattle.paging_core.specs.Walk.{Place, reach, walk_of, top}
use Rattle.paging_core.specs.PageBits.{bits_of, bits_at}
use Rattle.paging_core.specs.declared.page_table.Rights.{Rights}
use Rattle.address_space.specs.declared.changing.Part.{Part}
use Rattle.address_space.specs.declared.space_fault.SpaceFault.{SpaceFault}
use Rattle.address_space.specs.declared.space_fault.SpaceFault.TheVariants.{BadRange, Overlap, Hole, NoFrames, OutOfMemory}
use Rattle.address_space.specs.PageMap.{IsMap, unmapped, protected, duplicated, stored, mapped_count, IsGoodRange, AreNoneMapped, AreAllMapped, IsHole}
use Rattle.address_space.specs.Space.{Tables, page_map_of}
use Rattle.address_space.specs.Access.{AreOtherWordsKept}
use Rattle.address_space.specs.Mapping.{HasFrames}

-- whether a page of the range is mapped, by its four indices as one number
abbrev pub is_mapped_in : Tables → ℕ → ℕ → ℕ → Bool
is_mapped_in t first pages number = among first pages number && is_some (reach t.words t.root 4 number)

-- The mapped pages of a range leave the map, and nothing else is changed: the entry of each is 0, and every other word
-- is as it was. Their frames are free again; no table leaves.
pub record IsUnmapped (old new : Tables) (first pages count : ℕ) : Type 0 where
  pub map : IsMap (page_map_of new) (unmapped first pages (page_map_of old))
  pub count_is : count ≡ mapped_count (page_map_of old).rights first pages
  pub free : free_count new.free ≡ free_count old.free + count
  pub root : new.root ≡ old.root
  pub entries : ArePagesChanged old.words new.words old.root removal (is_mapped_in old first pages)

-- of the pages from `first` up to `end`, those from the part's first one on were unmapped
pub record IsPartUnmapped (old new : Tables) (first end : ℕ) (part : Part) : Type 0 where
  pub from : first ≤ part.first
  pub to : part.first + part.count ≤ end
  pub less : part.first < end
  pub gone : IsUnmapped old new part.first (end - part.first) part.count

-- pages in one canonical half, each of which is mapped
pub record CanProtect (t : Tables) (first pages : ℕ) : Type 0 where
  pub range : IsCanonicalRange first pages
  pub within : first + pages ≤ 2 ^ 52
  pub full : AreAllMapped (page_map_of t) first pages

-- each page of the source is mapped, none of the target is, and there are frames for it
pub record CanDuplicate (t : Tables) (from pages to : ℕ) : Type 0 where
  pub source : IsCanonicalRange from pages
  pub target : IsCanonicalRange to pages
  pub source_within : from + pages ≤ 2 ^ 52
  pub target_within : to + pages ≤ 2 ^ 52
  pub full : AreAllMapped (page_map_of t) from pages
  pub clear : AreNoneMapped (page_map_of t) to pages
  pub frames : HasFrames t to pages

-- The pages of a range get the rights, and nothing else is changed: the entries of these pages are written, and no
-- other word. No frame is taken or given back.
pub record IsProtected (old new : Tables) (first pages : ℕ) (rights : Rights) : Type 0 where
  pub map : IsMap (page_map_of new) (protected first pages rights (page_map_of old))
  pub free : new.free ≡ old.free
  pub root : new.root ≡ old.root
  pub entries : ArePagesChanged old.words new.words old.root (regrant (bits_of rights)) (among first pages)

-- The words of memory after pages were copied. Entry `i` of the table that is met at the prefix (l, n) leads on to the
-- prefix (l + 1, 512 * n + i).
pub record AreWordsCopied (old new : Tables) (from pages to : ℕ) : Type 0 where
  -- the frame of each page has the words of its source
  pub copied :
      (k i : ℕ) (source target : Place) → k < pages → i < 512 → walk_of old.words old.root (from + k) ≡ Some source →
      walk_of new.words old.root (to + k) ≡ Some target → word_at new.words target.frame i ≡ word_at old.words source.frame i
  -- a word of a table that was there is changed only if it leads elsewhere now, and a new table is 0 if it leads
  -- nowhere
  pub old_words :
      (l n f i : ℕ) → l < 4 → i < 512 → reach old.words old.root l n ≡ Some (top f) →
      reach new.words old.root (l + 1) (512 * n + i) ≡ reach old.words old.root (l + 1) (512 * n + i) → word_at new.words f i ≡ word_at old.words f i
  pub blank :
      (l n f i : ℕ) → l < 4 → i < 512 → reach old.words old.root l n ≡ None → reach new.words old.root l n ≡ Some (top f) →
      reach new.words old.root (l + 1) (512 * n + i) ≡ None → word_at new.words f i ≡ 0
  -- the entry of a new table, and that of a new page: its rights, and no other bit
  pub table_words :
      (l n f i made : ℕ) → l < 3 → i < 512 → reach new.words old.root l n ≡ Some (top f) → reach old.words old.root (l + 1) (512 * n + i) ≡ None →
      reach new.words old.root (l + 1) (512 * n + i) ≡ Some (top made) → word_at new.words f i ≡ table_entry made
  pub page_words :
      (n f i : ℕ) (place : Place) → i < 512 → reach new.words old.root 3 n ≡ Some (top f) → reach old.words old.root 4 (512 * n + i) ≡ None →
      reach new.words old.root 4 (512 * n + i) ≡ Some place → word_at new.words f i ≡ page_entry place.frame (bits_at place)
  -- a page that was mapped keeps its words
  pub others :
      (f i : ℕ) → i < 512 → is_frame_free old.free f ≡ false → ((l n : ℕ) → l < 4 → reach old.words old.root l n ≡ Some (top f) → ⊥) →
      word_at new.words f i ≡ word_at old.words f i
  -- and so does a frame that is still free
  pub still_free : (f i : ℕ) → i < 512 → is_frame_free new.free f ≡ true → word_at new.words f i ≡ word_at old.words f i

-- The target pages get the rights and bytes of the source, and nothing else is changed. They and the tables that they
-- missed took frames, and nothing else did.
pub record IsDuplicated (old new : Tables) (from pages to : ℕ) : Type 0 where
  pub map : IsMap (page_map_of new) (duplicated from pages to (page_map_of old))
  pub count : free_count new.free + pages + missing_of old.words old.root to pages ≡ free_count old.free
  pub root : new.root ≡ old.root
  pub size : length new.words ≡ length old.words
  -- what is no prefix of a target page is met as before
  pub others :
      (l n : ℕ) → l ≤ 4 → ((k : ℕ) → k < pages → n ≡ prefix_of (to + k) l → ⊥) → reach new.words old.root l n ≡ reach old.words old.root l n
  pub stayed : (l n : ℕ) (met : Place) → l ≤ 4 → reach old.words old.root l n ≡ Some met → reach new.words old.root l n ≡ Some met
  pub words : AreWordsCopied old new from pages to

-- The bytes are those of the range, and nothing else is changed: the walk meets every table and every page as before,
-- and every word in which none of the bytes lies is as it was.
pub record AreBytesStored (old new : Tables) (at : ℕ) (bytes : List ℕ) : Type 0 where
  pub map : IsMap (page_map_of new) (stored at bytes (page_map_of old))
  pub free : new.free ≡ old.free
  pub root : new.root ≡ old.root
  pub runs : new.runs ≡ old.runs
  pub size : length new.words ≡ length old.words
  pub met : (level number : ℕ) → level ≤ 4 → reach new.words old.root level number ≡ reach old.words old.root level number
  pub words : AreOtherWordsKept old.words new.words old.root at (length bytes)

-- ---- when each answer is given; want of memory is free if there is no other cause

-- when `unmap` gives each answer; of a good range only want of memory refuses it
abbrev pub IsUnmapAnswer : ℕ → ℕ → Result ℕ SpaceFault → Type 0
IsUnmapAnswer start pages (Ok count) = IsGoodRange start pages
IsUnmapAnswer start pages (Err BadRange) = IsGoodRange start pages → ⊥
IsUnmapAnswer start pages (Err OutOfMemory) = IsGoodRange start pages
IsUnmapAnswer start pages (Err fault) = ⊥

-- when `protect` gives each answer: all pages are mapped, or the first hole is told
abbrev pub IsProtectAnswer : Tables → ℕ → ℕ → Result (Unit {0}) SpaceFault → Type 0
IsProtectAnswer t start pages (Ok done) = IsGoodRange start pages × AreAllMapped (page_map_of t) (start / 4096) pages
IsProtectAnswer t start pages (Err BadRange) = IsGoodRange start pages → ⊥
IsProtectAnswer t start pages (Err (Hole at)) = IsGoodRange start pages × ((page : ℕ) × (at ≡ 4096 * page) × IsHole (page_map_of t) (start / 4096) pages page)
IsProtectAnswer t start pages (Err OutOfMemory) = IsGoodRange start pages × AreAllMapped (page_map_of t) (start / 4096) pages
IsProtectAnswer t start pages (Err fault) = ⊥

abbrev pub AreGoodRanges : ℕ → ℕ → ℕ → Type 0
AreGoodRanges from pages to = IsGoodRange from pages × IsGoodRange to pages

-- when `duplicate` gives each answer: the pages from `from` on are all mapped, none of those from `to` on is, and the frames
-- suffice
abbrev pub IsDuplicateAnswer : Tables → ℕ → ℕ → ℕ → Result (Unit {0}) SpaceFault → Type 0
IsDuplicateAnswer t from pages to (Ok done) =
    AreGoodRanges from pages to × AreAllMapped (page_map_of t) (from / 4096) pages × AreNoneMapped (page_map_of t) (to / 4096) pages × HasFrames t (to / 4096) pages
IsDuplicateAnswer t from pages to (Err BadRange) = AreGoodRanges from pages to → ⊥
IsDuplicateAnswer t from pages to (Err (Hole at)) = AreGoodRanges from pages to × ((page : ℕ) × (at ≡ 4096 * page) × IsHole (page_map_of t) (from / 4096) pages page)
IsDuplicateAnswer t from pages to (Err Overlap) = AreGoodRanges from pages to × AreAllMapped (page_map_of t) (from / 4096) pages × (AreNoneMapped (page_map_of t) (to / 4096) pages → ⊥)
IsDuplicateAnswer t from pages to (Err NoFrames) =
    AreGoodRanges from pages to × AreAllMapped (page_map_of t) (from / 4096) pages × AreNoneMapped (page_map_of t) (to / 4096) pages × (HasFrames t (to / 4096) pages → ⊥)
IsDuplicateAnswer t from pages to (Err OutOfMemory) =
    AreGoodRanges from pages to × AreAllMapped (page_map_of t) (from / 4096) pages × AreNoneMapped (page_map_of t) (to / 4096) pages × HasFrames t (to / 4096) pages
IsDuplicateAnswer t from pages to (Err fault) = ⊥
