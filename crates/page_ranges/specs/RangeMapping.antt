-- What mapping a range does if slots that lie whole in it are mapped by one entry. `old` and `free` are the words and
-- the flags before, `new` and `free'` after. A slot goes by its number in counts of 2 MiB.
use Rattle.std.specs.Prelude.{◌≡◌, ℕ, ◌+◌, ◌*◌, ◌/◌, ◌<◌, ◌≤◌, Bool, true, false, List, length, count_by, Some, None, IsSome, ◌⊎◌}
use Rattle.paging_core.specs.Memory.{word_at}
use Rattle.paging_core.specs.Entry.{table_entry, page_entry, large_entry}
use Rattle.paging_core.specs.Prefix.{prefix_of, prefixes_from}
use Rattle.paging_core.specs.Pool.{is_frame_free, free_count, AreLowestTaken}
use Rattle.paging_core.specs.Runs.{IsRunFree}
use Rattle.paging_core.specs.Walk.{Place, reach, large_of, walk_of, top, place_with}
use Rattle.paging_core.specs.Tree.{IsTree}
use Rattle.paging_core.specs.Missing.{is_missing, missing_of}
use Rattle.paging_core.specs.Mapping.{IsNewPage}
use Rattle.paging_core.specs.Large.{slot_of, above}
use Rattle.paging_core.specs.declared.page_table.PageBits.{PageBits}

-- how many of the pages from `first` on are not mapped
abbrev pub unmapped_of : List ℕ → ℕ → ℕ → ℕ → ℕ
unmapped_of words root first pages = count_by (is_missing words root) (prefixes_from 4 (prefix_of first 4) pages)

-- The words of the tables after pages with these rights were added, some of them in large pages. Entry `i` of the table that
-- is met at the prefix (l, n) leads on to the prefix (l + 1, 512 * n + i).
pub record HasNewEntries (old new : List ℕ) (root : ℕ) (rights : PageBits) : Type 0 where
  -- a word of a table that was there is changed only if it leads elsewhere now
  pub old_words :
      (l n f i : ℕ) → l < 4 → i < 512 → reach old root l n ≡ Some (top f) →
      reach new root (l + 1) (512 * n + i) ≡ reach old root (l + 1) (512 * n + i) →
      (l ≡ 2 → large_of new root (512 * n + i) ≡ large_of old root (512 * n + i)) → word_at new f i ≡ word_at old f i
  -- a new table is 0 if it leads nowhere
  pub blank :
      (l n f i : ℕ) → l < 4 → i < 512 → reach old root l n ≡ None → reach new root l n ≡ Some (top f) →
      reach new root (l + 1) (512 * n + i) ≡ None → (l ≡ 2 → large_of new root (512 * n + i) ≡ None) → word_at new f i ≡ 0
  -- the entry of a new table, that of a new page, and that of a new large page
  pub table_words :
      (l n f i made : ℕ) → l < 3 → i < 512 → reach new root l n ≡ Some (top f) → reach old root (l + 1) (512 * n + i) ≡ None →
      reach new root (l + 1) (512 * n + i) ≡ Some (top made) → word_at new f i ≡ table_entry made
  pub page_words :
      (n f i : ℕ) (place : Place) → i < 512 → reach new root 3 n ≡ Some (top f) → reach old root 4 (512 * n + i) ≡ None →
      reach new root 4 (512 * n + i) ≡ Some place → word_at new f i ≡ page_entry place.frame rights
  pub large_words :
      (n f i : ℕ) (large : Place) → i < 512 → reach new root 2 n ≡ Some (top f) → large_of old root (512 * n + i) ≡ None →
      large_of new root (512 * n + i) ≡ Some large → word_at new f i ≡ large_entry large.frame rights

-- A page was added here: with the rights, at a frame that was free and is 0.
pub record IsNewPlace (new : List ℕ) (free : List Bool) (place : Place) (rights : PageBits) : Type 0 where
  pub granted_all : place ≡ place_with place.frame rights
  pub was_free : is_frame_free free place.frame ≡ true
  pub zeros : (i : ℕ) → i < 512 → word_at new place.frame i ≡ 0

-- Some of the pages from `first` on were added, each at a new frame, by tables or in large pages, and tables that they
-- missed. This says nothing of which.
pub record ArePagesAdded (old new : List ℕ) (free free' : List Bool) (root first pages : ℕ) (rights : PageBits) : Type 0 where
  pub size : length new ≡ length old
  pub flags : length free' ≡ length free
  pub tree : IsTree new root free'
  pub added : (page : ℕ) (place : Place) → walk_of old root page ≡ None → walk_of new root page ≡ Some place → IsNewPlace new free place rights
  pub large_added : (n : ℕ) (large : Place) → large_of old root n ≡ None → large_of new root n ≡ Some large → large ≡ place_with large.frame rights
  -- what is no prefix of a page of the range is met as before, and so is all that was there
  pub others :
      (l n : ℕ) → l ≤ 4 → ((k : ℕ) → k < pages → n ≡ prefix_of (first + k) l → ⊥) → reach new root l n ≡ reach old root l n
  pub other_larges : (n : ℕ) → ((k : ℕ) → k < pages → n ≡ prefix_of (first + k) 3 → ⊥) → large_of new root n ≡ large_of old root n
  pub stayed : (l n : ℕ) (met : Place) → l ≤ 4 → reach old root l n ≡ Some met → reach new root l n ≡ Some met
  pub large_stayed : (n : ℕ) (large : Place) → large_of old root n ≡ Some large → large_of new root n ≡ Some large
  -- the frames of the new tables were free
  pub made :
      (l n : ℕ) (met : Place) → l < 4 → reach old root l n ≡ None → reach new root l n ≡ Some met → is_frame_free free met.frame ≡ true
  -- no frame was given back, and none was taken but for what the walk meets: one for each page and each table that is new
  pub fewer : (f : ℕ) → is_frame_free free f ≡ false → is_frame_free free' f ≡ false
  pub kept :
      (f : ℕ) → is_frame_free free f ≡ true → ((l n : ℕ) (met : Place) → l ≤ 4 → reach new root l n ≡ Some met → met.frame ≡ f → ⊥) →
      is_frame_free free' f ≡ true
  pub count :
      free_count free' + (unmapped_of old root first pages + missing_of old root first pages)
      ≡ free_count free + (unmapped_of new root first pages + missing_of new root first pages)
  -- the words of a page that was mapped stay
  pub bytes_stay : (page : ℕ) (place : Place) (i : ℕ) → walk_of old root page ≡ Some place → i < 512 → word_at new place.frame i ≡ word_at old place.frame i
  -- words are changed only in frames that were free and in tables, and there no more than the new entries need
  pub words :
      (f i : ℕ) → i < 512 → is_frame_free free f ≡ false → ((l n : ℕ) → l < 4 → reach old root l n ≡ Some (top f) → ⊥) →
      word_at new f i ≡ word_at old f i
  -- and what is free after still has its words
  pub free_words : (f i : ℕ) → i < 512 → is_frame_free free' f ≡ true → word_at new f i ≡ word_at old f i
  pub entries : HasNewEntries old new root rights

-- The slot lies whole in the range and has no table.
pub record IsOpenSlot (words : List ℕ) (root first pages slot : ℕ) : Type 0 where
  pub from : first ≤ 512 * slot
  pub to : 512 * slot + 512 ≤ first + pages
  pub no_table : reach words root 3 (slot_of slot) ≡ None

-- Exactly the slots below `stop` that lie whole in the range and had no table are large now.
pub record AreLargeBelow (old new : List ℕ) (root first pages stop : ℕ) : Type 0 where
  pub large : (slot : ℕ) → IsOpenSlot old root first pages slot → slot < stop → IsSome (large_of new root (slot_of slot))
  pub small :
      (n : ℕ) → ((slot : ℕ) → IsOpenSlot old root first pages slot → slot < stop → n ≡ slot_of slot → ⊥) → large_of new root n ≡ large_of old root n

-- From `stop` on no slot was mapped, as no run of frames is free.
abbrev pub NoRunAt : List ℕ → List Bool → ℕ → ℕ → ℕ → ℕ → Type 0
NoRunAt old free' root first pages stop =
    (slot : ℕ) → IsOpenSlot old root first pages slot → stop ≤ slot → (run : ℕ) → IsRunFree free' run → ⊥

-- A frame is used for a slot: it is one of its large page, or that of a table above it.
abbrev pub IsUsedFor : List ℕ → ℕ → ℕ → ℕ → Type 0
IsUsedFor words root slot f =
    ((large : Place) × (large_of words root (slot_of slot) ≡ Some large) × (f / 512 ≡ large.frame / 512))
    ⊎ ((l : ℕ) × (l < 3) × (reach words root l (above slot l) ≡ Some (top f)))

-- The slots below `stop` that lie whole in the range and had no table were mapped by one entry each, and no other page.
pub record AreSlotsAdded (old new : List ℕ) (free free' : List Bool) (root first pages stop : ℕ) (rights : PageBits) : Type 0 where
  pub pages_added : ArePagesAdded old new free free' root first pages rights
  pub slots : AreLargeBelow old new root first pages stop
  -- no table of a slot is made, and a page whose slot is not large is met as before
  pub tables : (n : ℕ) → reach new root 3 n ≡ reach old root 3 n
  pub others : (n : ℕ) → large_of new root (n / 512) ≡ large_of old root (n / 512) → reach new root 4 n ≡ reach old root 4 n
  -- no frame was taken but for these slots
  pub spent :
      (f : ℕ) → is_frame_free free f ≡ true → ((slot : ℕ) → IsOpenSlot old root first pages slot → slot < stop → ¬ (IsUsedFor new root slot f)) →
      is_frame_free free' f ≡ true
  -- each got the lowest run: of each lower one that was free, a frame was used for a slot before it
  pub lowest_runs :
      (slot run : ℕ) (large : Place) → IsOpenSlot old root first pages slot → slot < stop → large_of new root (slot_of slot) ≡ Some large →
      512 * run < large.frame → IsRunFree free run →
      ((f before : ℕ) → f / 512 ≡ run → IsOpenSlot old root first pages before → before < slot → ¬ (IsUsedFor new root before f)) → ⊥
  -- and their tables the lowest frames
  pub lowest_tables :
      (l n table f : ℕ) → l < 3 → reach old root l n ≡ None → reach new root l n ≡ Some (top table) → is_frame_free free' f ≡ true → table < f

-- The pages from `first` on were added: first those of the slots below `stop` that lie whole in the range and had no table, in
-- large pages, as long as a run of frames was free; then the others, by tables.
pub record IsRangeMapped (old new : List ℕ) (free free' : List Bool) (root first pages stop : ℕ) (rights : PageBits) : Type 0 where
  -- the words and the flags between
  pub between : List ℕ
  pub left : List Bool
  pub by_slots : AreSlotsAdded old between free left root first pages stop rights
  pub none_left : NoRunAt old left root first pages stop
  pub by_tables : ArePagesAdded between new left free' root first pages rights
  -- at the lowest frames, in the order of the pages
  pub lowest : AreLowestTaken left free'
  pub ascending :
      (j k : ℕ) (place far : Place) → j < k → k < pages → walk_of between root (first + j) ≡ None → walk_of between root (first + k) ≡ None →
      walk_of new root (first + j) ≡ Some place → walk_of new root (first + k) ≡ Some far → place.frame < far.frame
  -- and in all
  pub pages_added : ArePagesAdded old new free free' root first pages rights
  pub slots : AreLargeBelow old new root first pages stop
  pub no_run : NoRunAt old free' root first pages stop
  pub mapped : (k : ℕ) → k < pages → IsNewPage new free free' root (first + k) rights
  -- each page has its tables, but for that of three indices if its slot is large
  pub tables : (l k : ℕ) → l < 3 → k < pages → (table : ℕ) × (reach new root l (prefix_of (first + k) l) ≡ Some (top table))
  pub last_tables : (k : ℕ) → k < pages →
      IsSome (large_of new root (prefix_of (first + k) 3)) ⊎ ((table : ℕ) × (reach new root 3 (prefix_of (first + k) 3) ≡ Some (top table)))
  -- a frame for each page and for each table that was missing and is not now
  pub count : free_count free' + pages + missing_of old root first pages ≡ free_count free + missing_of new root first pages
