-- What the calls on large pages do. A slot is the 512 pages that have the same first three indices; it goes by these
-- indices as one number. `page` and `frame` count by 2 MiB: the pages of the slot are those from 512 * page on, and the
-- frames of the large page those from 512 * frame on. `old` and `free` are the words and the flags before, `new` and
-- `free'` after.
use Rattle.std.specs.Prelude.{◌≡◌, ℕ, ◌+◌, ◌*◌, ◌/◌, ◌%◌, ◌^◌, ◌<◌, ◌≤◌, Bool, true, false, List, length, set, Some, None}
use Rattle.paging_core.specs.Memory.{word_at}
use Rattle.paging_core.specs.Entry.{table_entry, page_entry, large_entry}
use Rattle.paging_core.specs.Prefix.{prefix_of}
use Rattle.paging_core.specs.Pool.{is_frame_free, free_count, AreLowestTaken}
use Rattle.paging_core.specs.Runs.{IsRunTaken}
use Rattle.paging_core.specs.Walk.{Place, reach, large_of, walk_of, top, place_with}
use Rattle.paging_core.specs.Tables.{missing_at}
use Rattle.paging_core.specs.declared.page_table.PageBits.{PageBits}

-- the slot of a page of 2 MiB
abbrev pub slot_of : ℕ → ℕ
slot_of page = page % 2 ^ 27

-- the prefix of this many indices that the pages of the slot have
abbrev pub above : ℕ → ℕ → ℕ
above page level = prefix_of (512 * page) level

-- how many tables are missing above the slot: those of one and of two indices
abbrev pub missing_above : List ℕ → ℕ → ℕ → ℕ
missing_above words root page = missing_at words root (512 * page) 1 + missing_at words root (512 * page) 2

-- no page of the slot is mapped, and it has no table
pub record IsSlotEmpty (words : List ℕ) (root page : ℕ) : Type 0 where
  pub unmapped : (k : ℕ) → k < 512 → walk_of words root (512 * page + k) ≡ None
  pub no_table : reach words root 3 (slot_of page) ≡ None

-- The words of the tables after a large page was mapped. Entry `i` of the table that is met at the prefix (l, n) leads
-- on to the prefix (l + 1, 512 * n + i).
pub record HasLargeEntries (old new : List ℕ) (root page frame : ℕ) (rights : PageBits) : Type 0 where
  -- a word of a table that was there is changed only if it leads elsewhere now
  pub old_words :
      (l n f i : ℕ) → l < 4 → i < 512 → reach old root l n ≡ Some (top f) →
      reach new root (l + 1) (512 * n + i) ≡ reach old root (l + 1) (512 * n + i) → (l ≡ 2 → 512 * n + i ≡ slot_of page → ⊥) → word_at new f i ≡ word_at old f i
  -- a new table is 0 if it leads nowhere
  pub blank :
      (l n f i : ℕ) → l < 4 → i < 512 → reach old root l n ≡ None → reach new root l n ≡ Some (top f) →
      reach new root (l + 1) (512 * n + i) ≡ None → (l ≡ 2 → 512 * n + i ≡ slot_of page → ⊥) → word_at new f i ≡ 0
  -- the entry of a new table, and that of the large page
  pub table_words :
      (l n f i made : ℕ) → l < 3 → i < 512 → reach new root l n ≡ Some (top f) → reach old root (l + 1) (512 * n + i) ≡ None →
      reach new root (l + 1) (512 * n + i) ≡ Some (top made) → word_at new f i ≡ table_entry made
  pub large_word : (f : ℕ) → reach new root 2 (above page 2) ≡ Some (top f) → word_at new f (slot_of page % 512) ≡ large_entry (512 * frame) rights

-- The slot was mapped to the frames with the rights, by one entry, and the tables above it that were missing were made.
pub record IsLargeAdded (old new : List ℕ) (free free' : List Bool) (root page frame : ℕ) (rights : PageBits) : Type 0 where
  pub size : length new ≡ length old
  pub flags : length free' ≡ length free
  -- the 512 pages, and the large page
  pub there : (k : ℕ) → k < 512 → walk_of new root (512 * page + k) ≡ Some (place_with (512 * frame + k) rights)
  pub large : large_of new root (slot_of page) ≡ Some (place_with (512 * frame) rights)
  -- nothing else of the walk is changed: no page of another slot, no other large page, and no table that was there
  pub pages : (other : ℕ) → (other / 512 % 2 ^ 27 ≡ slot_of page → ⊥) → walk_of new root other ≡ walk_of old root other
  pub others :
      (l n : ℕ) → l ≤ 4 → (l < 3 → n ≡ above page l → ⊥) → (l ≡ 4 → n / 512 ≡ slot_of page → ⊥) → reach new root l n ≡ reach old root l n
  pub larges : (n : ℕ) → (n ≡ slot_of page → ⊥) → large_of new root n ≡ large_of old root n
  pub stayed : (l n : ℕ) (met : Place) → l ≤ 4 → reach old root l n ≡ Some met → reach new root l n ≡ Some met
  -- the frames of the new tables were free, the lowest ones, and no other frame was taken
  pub made :
      (l : ℕ) → l < 3 → reach old root l (above page l) ≡ None →
      (table : ℕ) × (reach new root l (above page l) ≡ Some (top table)) × (is_frame_free free table ≡ true)
  pub fewer : (f : ℕ) → is_frame_free free f ≡ false → is_frame_free free' f ≡ false
  pub lowest : AreLowestTaken free free'
  pub kept : (f : ℕ) → is_frame_free free f ≡ true → ((l : ℕ) → l < 3 → reach new root l (above page l) ≡ Some (top f) → ⊥) → is_frame_free free' f ≡ true
  pub count : free_count free' + missing_above old root page ≡ free_count free
  -- no word outside the tables above the slot is changed, and in them no more than the new entries need
  pub words :
      (f i : ℕ) → i < 512 → ((l : ℕ) → l < 3 → reach new root l (above page l) ≡ Some (top f) → ⊥) → word_at new f i ≡ word_at old f i
  pub entries : HasLargeEntries old new root page frame rights

-- Frames in a row, from `first` on, were made 0, and no other word is changed.
pub record AreFramesCleared (old new : List ℕ) (first count : ℕ) : Type 0 where
  pub size : length new ≡ length old
  pub zeros : (k i : ℕ) → k < count → i < 512 → word_at new (first + k) i ≡ 0
  pub others : (f i : ℕ) → i < 512 → ((k : ℕ) → k < count → f ≡ first + k → ⊥) → word_at new f i ≡ word_at old f i

-- The lowest run that was wholly free was taken and cleared, and then the slot was mapped to it.
pub record IsSlotAdded (old new : List ℕ) (free free' : List Bool) (root page : ℕ) (rights : PageBits) : Type 0 where
  pub run : ℕ
  pub left : List Bool
  pub blank : List ℕ
  pub taken : IsRunTaken free left (Some run)
  pub cleared : AreFramesCleared old blank (512 * run) 512
  pub added : IsLargeAdded blank new left free' root page run rights

-- The slot is mapped by one entry, `index` of the table, to the frames from `large.frame` on.
pub record IsLargeEntry (words : List ℕ) (root page table index : ℕ) (large : Place) : Type 0 where
  pub met : Place
  pub reached : reach words root 2 (above page 2) ≡ Some met
  pub found : large_of words root (slot_of page) ≡ Some large
  pub in_table : met.frame ≡ table
  pub at_index : index ≡ slot_of page % 512

-- The entry that mapped the slot is 0 now, and all other words stay.
pub record IsLargeCleared (old new : List ℕ) (root page : ℕ) : Type 0 where
  pub large : Place
  pub table : Place
  pub was : large_of old root (slot_of page) ≡ Some large
  pub met : reach old root 2 (above page 2) ≡ Some table
  pub words : new ≡ set old (512 * table.frame + slot_of page % 512) 0

-- The 512 pages of the slot were removed, and nothing else of the walk is changed.
pub record IsLargeRemoved (old new : List ℕ) (root page : ℕ) : Type 0 where
  pub size : length new ≡ length old
  pub gone : (k : ℕ) → k < 512 → walk_of new root (512 * page + k) ≡ None
  pub no_large : large_of new root (slot_of page) ≡ None
  pub others : (l n : ℕ) → l ≤ 4 → (l ≡ 4 → n / 512 ≡ slot_of page → ⊥) → reach new root l n ≡ reach old root l n
  pub larges : (n : ℕ) → (n ≡ slot_of page → ⊥) → large_of new root n ≡ large_of old root n

-- The large page of the slot was cut: its first `keep` pages stay, now by a table in the frame after theirs, and the
-- frames after that one are free.
pub record IsLargeCut (old new : List ℕ) (free free' : List Bool) (root page keep : ℕ) : Type 0 where
  pub large : Place
  pub was : large_of old root (slot_of page) ≡ Some large
  pub size : length new ≡ length old
  pub flags : length free' ≡ length free
  -- the walk in the slot
  pub stays : (k : ℕ) → k < keep → walk_of new root (512 * page + k) ≡ walk_of old root (512 * page + k)
  pub gone : (k : ℕ) → keep ≤ k → k < 512 → walk_of new root (512 * page + k) ≡ None
  pub table : reach new root 3 (slot_of page) ≡ Some (top (large.frame + keep))
  pub no_large : large_of new root (slot_of page) ≡ None
  -- and outside it
  pub others :
      (l n : ℕ) → l ≤ 4 → (l ≡ 3 → n ≡ slot_of page → ⊥) → (l ≡ 4 → n / 512 ≡ slot_of page → ⊥) → reach new root l n ≡ reach old root l n
  pub larges : (n : ℕ) → (n ≡ slot_of page → ⊥) → large_of new root n ≡ large_of old root n
  -- the frames that were given back, and every other flag
  pub given : (k : ℕ) → keep < k → k < 512 → is_frame_free free' (large.frame + k) ≡ true
  pub kept : (f : ℕ) → ((k : ℕ) → keep < k → k < 512 → f ≡ large.frame + k → ⊥) → is_frame_free free' f ≡ is_frame_free free f
  pub count : free_count free' + keep ≡ free_count free + 511
  -- the words: of the new table, of the entry that names it, and all others
  pub page_words : (k : ℕ) → k < keep →
      word_at new (large.frame + keep) k ≡ page_entry (large.frame + k) (record { write = large.write; user = large.user; fetch = large.fetch; through = large.through; uncached = large.uncached; global = large.global })
  pub blank : (k : ℕ) → keep ≤ k → k < 512 → word_at new (large.frame + keep) k ≡ 0
  pub entry : (at : Place) → reach old root 2 (above page 2) ≡ Some at → word_at new at.frame (slot_of page % 512) ≡ table_entry (large.frame + keep)
  pub words :
      (f i : ℕ) → i < 512 → (f ≡ large.frame + keep → ⊥) → ((at : Place) → reach old root 2 (above page 2) ≡ Some at → f ≡ at.frame → i ≡ slot_of page % 512 → ⊥) →
      word_at new f i ≡ word_at old f i
