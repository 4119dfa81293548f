-- What mapping pages does. `old` and `free` are the words and the flags before, `new` and `free'` after.
use Rattle.std.specs.Prelude.{◌≡◌, ℕ, ◌+◌, ◌*◌, ◌%◌, ◌^◌, ◌<◌, ◌≤◌, Bool, true, false, List, length, Some, None}
use Rattle.paging_core.specs.Memory.{word_at}
use Rattle.paging_core.specs.Entry.{table_entry, page_entry}
use Rattle.paging_core.specs.Prefix.{prefix_of}
use Rattle.paging_core.specs.Pool.{is_frame_free, free_count, AreLowestTaken}
use Rattle.paging_core.specs.Walk.{Place, reach, large_of, walk_of, top, place_with}
use Rattle.paging_core.specs.Tree.{IsTree}
use Rattle.paging_core.specs.Missing.{missing_of}
use Rattle.paging_core.specs.declared.page_table.PageBits.{PageBits}

-- The words of the tables after pages with these rights were added. Entry `i` of the table that is met at
-- the prefix (l, n) leads on to the prefix (l + 1, 512 * n + i).
pub record HasExactEntries (old new : List ℕ) (root : ℕ) (rights : PageBits) : Type 0 where
  -- a word of a table that was there is changed only if it leads elsewhere now
  pub old_words :
      (l n f i : ℕ) → l < 4 → i < 512 → reach old root l n ≡ Some (top f) →
      reach new root (l + 1) (512 * n + i) ≡ reach old root (l + 1) (512 * n + i) → word_at new f i ≡ word_at old f i
  -- a new table is 0 if it leads nowhere
  pub blank :
      (l n f i : ℕ) → l < 4 → i < 512 → reach old root l n ≡ None → reach new root l n ≡ Some (top f) →
      reach new root (l + 1) (512 * n + i) ≡ None → word_at new f i ≡ 0
  -- the entry of a new table, and that of a new page
  pub table_words :
      (l n f i made : ℕ) → l < 3 → i < 512 → reach new root l n ≡ Some (top f) → reach old root (l + 1) (512 * n + i) ≡ None →
      reach new root (l + 1) (512 * n + i) ≡ Some (top made) → word_at new f i ≡ table_entry made
  pub page_words :
      (n f i : ℕ) (place : Place) → i < 512 → reach new root 3 n ≡ Some (top f) → reach old root 4 (512 * n + i) ≡ None →
      reach new root 4 (512 * n + i) ≡ Some place → word_at new f i ≡ page_entry place.frame rights

-- One page was added, at the frame with the rights, and the tables that it missed.
pub record IsPageAdded (old new : List ℕ) (free free' : List Bool) (root page frame : ℕ) (rights : PageBits) : Type 0 where
  pub size : length new ≡ length old
  pub flags : length free' ≡ length free
  pub there : walk_of new root page ≡ Some (place_with frame rights)
  -- nothing else of the walk is changed: no other page, and no table that was there
  pub pages : (other : ℕ) → (other % 2 ^ 36 ≡ page % 2 ^ 36 → ⊥) → walk_of new root other ≡ walk_of old root other
  pub others : (l n : ℕ) → l ≤ 4 → (n ≡ prefix_of page l → ⊥) → reach new root l n ≡ reach old root l n
  pub larges : (n : ℕ) → large_of new root n ≡ large_of old root n
  pub stayed : (l n : ℕ) (met : Place) → l < 4 → reach old root l n ≡ Some met → reach new root l n ≡ Some met
  -- the frames of the new tables were free, the lowest ones, and no other frame was taken
  pub made :
      (l : ℕ) → l < 4 → reach old root l (prefix_of page l) ≡ None →
      (table : ℕ) × (reach new root l (prefix_of page l) ≡ Some (top table)) × (is_frame_free free table ≡ true)
  pub fewer : (f : ℕ) → is_frame_free free f ≡ false → is_frame_free free' f ≡ false
  pub lowest : AreLowestTaken free free'
  pub kept :
      (f : ℕ) → is_frame_free free f ≡ true → ((l : ℕ) → l < 4 → reach new root l (prefix_of page l) ≡ Some (top f) → ⊥) → is_frame_free free' f ≡ true
  pub count : free_count free' + missing_of old root page 1 ≡ free_count free
  -- no word outside the page's tables is changed, and in them no more than the new entries need
  pub words :
      (f i : ℕ) → i < 512 → ((l : ℕ) → l < 4 → reach new root l (prefix_of page l) ≡ Some (top f) → ⊥) → word_at new f i ≡ word_at old f i
  pub entries : HasExactEntries old new root rights

-- A page of a range that was added: it is found with the rights, at a frame that was free and is 0.
pub record IsNewPage (new : List ℕ) (free free' : List Bool) (root page : ℕ) (rights : PageBits) : Type 0 where
  pub frame : ℕ
  pub found : walk_of new root page ≡ Some (place_with frame rights)
  pub was_free : is_frame_free free frame ≡ true
  pub taken : is_frame_free free' frame ≡ false
  pub zeros : (i : ℕ) → i < 512 → word_at new frame i ≡ 0

-- The pages from `first` on were added, each at a new frame, and the tables that they missed.
pub record IsRangeAdded (old new : List ℕ) (free free' : List Bool) (root first pages : ℕ) (rights : PageBits) : Type 0 where
  pub size : length new ≡ length old
  pub flags : length free' ≡ length free
  pub tree : IsTree new root free'
  pub mapped : (k : ℕ) → k < pages → IsNewPage new free free' root (first + k) rights
  -- the tables of the pages are there
  pub tables : (l k : ℕ) → l < 4 → k < pages → (table : ℕ) × (reach new root l (prefix_of (first + k) l) ≡ Some (top table))
  -- what is no prefix of a page of the range is met as before, and so is a table or a page that was there
  pub others :
      (l n : ℕ) → l ≤ 4 → ((k : ℕ) → k < pages → n ≡ prefix_of (first + k) l → ⊥) → reach new root l n ≡ reach old root l n
  pub larges : (n : ℕ) → large_of new root n ≡ large_of old root n
  pub stayed : (l n : ℕ) (met : Place) → l ≤ 4 → reach old root l n ≡ Some met → reach new root l n ≡ Some met
  -- the frames of the new tables were free
  pub made :
      (l n : ℕ) (met : Place) → l < 4 → reach old root l n ≡ None → reach new root l n ≡ Some met → is_frame_free free met.frame ≡ true
  -- no frame was given back, and none was taken but for what the walk meets: the lowest ones
  pub fewer : (f : ℕ) → is_frame_free free f ≡ false → is_frame_free free' f ≡ false
  pub lowest : AreLowestTaken free free'
  pub kept :
      (f : ℕ) → is_frame_free free f ≡ true → ((l n : ℕ) (met : Place) → l ≤ 4 → reach new root l n ≡ Some met → met.frame ≡ f → ⊥) →
      is_frame_free free' f ≡ true
  pub count : free_count free' + pages + missing_of old root first pages ≡ free_count free
  -- the frames are handed out in the order of the pages: that of a page, then those of the tables that it misses
  pub ascending :
      (j k : ℕ) (place next : Place) → j < k → k < pages → walk_of new root (first + j) ≡ Some place → walk_of new root (first + k) ≡ Some next →
      place.frame < next.frame
  pub tables_after :
      (k l : ℕ) (place table : Place) → k < pages → l < 4 → reach old root l (prefix_of (first + k) l) ≡ None →
      ((j : ℕ) → j < k → prefix_of (first + k) l ≡ prefix_of (first + j) l → ⊥) → walk_of new root (first + k) ≡ Some place →
      reach new root l (prefix_of (first + k) l) ≡ Some table → place.frame < table.frame
  pub tables_before :
      (j k l : ℕ) (table next : Place) → j < k → k < pages → l < 4 → reach old root l (prefix_of (first + j) l) ≡ None →
      reach new root l (prefix_of (first + j) l) ≡ Some table → walk_of new root (first + k) ≡ Some next → table.frame < next.frame
  -- a page that was mapped stays, with all words of its frame
  pub pages_stay : (other : ℕ) (place : Place) → walk_of old root other ≡ Some place → walk_of new root other ≡ Some place
  pub bytes_stay :
      (other : ℕ) (place : Place) (i : ℕ) → walk_of old root other ≡ Some place → i < 512 → word_at new place.frame i ≡ word_at old place.frame i
  -- words are changed only in frames that were taken and in tables, and there no more than the new entries need
  pub words :
      (f i : ℕ) → i < 512 → is_frame_free free f ≡ false → ((l n : ℕ) → l < 4 → reach old root l n ≡ Some (top f) → ⊥) →
      word_at new f i ≡ word_at old f i
  pub free_words : (f i : ℕ) → i < 512 → is_frame_free free' f ≡ true → word_at new f i ≡ word_at old f i
  pub entries : HasExactEntries old new root rights
