-- Pages whose last entries are written: they leave, or get other rights. `old` and `free` are the words and
-- the flags before, `new` and `free'` after.
use Rattle.std.specs.Prelude.{◌≡◌, ℕ, ◌+◌, ◌*◌, ◌%◌, ◌<◌, ◌≤◌, Bool, true, false, ◌&&◌, not, ◌==◌, nat_lt, List, length, set, Option, Some, None}
use Rattle.paging_core.specs.Memory.{word_at}
use Rattle.paging_core.specs.Entry.{page_entry}
use Rattle.paging_core.specs.Prefix.{prefix_of}
use Rattle.paging_core.specs.Pool.{is_frame_free}
use Rattle.paging_core.specs.Walk.{Place, reach, large_of, walk_of, top, place_with}
use Rattle.paging_core.specs.declared.page_table.PageBits.{PageBits}

-- What becomes of a page that led to a place: the word of its entry, and where the page leads then.
pub record Change : Type 0 where
  pub entry : Place → ℕ
  pub leads : Place → Option Place

-- the page leaves
abbrev pub removal : Change
removal = record { entry = λ place. 0; leads = λ place. None }

-- the page keeps its frame, and has these rights
abbrev pub regrant : PageBits → Change
regrant rights = record { entry = λ place. page_entry place.frame rights; leads = λ place. Some (place_with place.frame rights) }

-- The page leads to the frame.
pub record IsFrameOf (words : List ℕ) (root page frame : ℕ) : Type 0 where
  pub place : Place
  pub found : walk_of words root page ≡ Some place
  pub to_frame : place.frame ≡ frame

-- Entry `index` of the page's last table leads to its frame.
pub record IsLastEntry (words : List ℕ) (root page table index frame : ℕ) : Type 0 where
  pub met : Place
  pub place : Place
  pub reached : reach words root 3 (prefix_of page 3) ≡ Some met
  pub found : walk_of words root page ≡ Some place
  pub in_table : met.frame ≡ table
  pub at_index : index ≡ prefix_of page 4 % 512
  pub to_frame : place.frame ≡ frame

-- The page led to the place, by an entry of its last table. This entry is written, and no other word is changed.
pub record IsPageChanged (old new : List ℕ) (root page : ℕ) (change : Change) : Type 0 where
  pub place : Place
  pub table : Place
  pub was : walk_of old root page ≡ Some place
  pub met : reach old root 3 (prefix_of page 3) ≡ Some table
  pub words : new ≡ set old (512 * table.frame + prefix_of page 4 % 512) (change.entry place)

-- The pages that `chosen` names were changed: `n` is the four indices of a page as one number.
pub record ArePagesChanged (old new : List ℕ) (root : ℕ) (change : Change) (chosen : ℕ → Bool) : Type 0 where
  pub size : length new ≡ length old
  pub mapped : (n : ℕ) → chosen n ≡ true → (place : Place) × (reach old root 4 n ≡ Some place)
  pub changed : (n : ℕ) (place : Place) → chosen n ≡ true → reach old root 4 n ≡ Some place → reach new root 4 n ≡ change.leads place
  -- every table is met as before, and every other page
  pub stayed : (l n : ℕ) → l ≤ 4 → (l ≡ 4 → chosen n ≡ false) → reach new root l n ≡ reach old root l n
  pub larges : (n : ℕ) → large_of new root n ≡ large_of old root n
  -- the entries of these pages are written, and no other word is changed
  pub entries :
      (n i f : ℕ) (place : Place) → i < 512 → chosen (512 * n + i) ≡ true → reach old root 3 n ≡ Some (top f) →
      reach old root 4 (512 * n + i) ≡ Some place → word_at new f i ≡ change.entry place
  pub words :
      (f i : ℕ) → i < 512 → ((n : ℕ) → reach old root 3 n ≡ Some (top f) → chosen (512 * n + i) ≡ false) → word_at new f i ≡ word_at old f i

-- only the page
abbrev pub only : ℕ → ℕ → Bool
only page n = n == prefix_of page 4

-- the pages from `first` on
abbrev pub among : ℕ → ℕ → ℕ → Bool
among first pages n = not (nat_lt n (prefix_of first 4)) && nat_lt n (prefix_of first 4 + pages)

-- These pages were removed, and their frames are free: no other flag is changed.
pub record ArePagesFreed (old new : List ℕ) (free free' : List Bool) (root : ℕ) (gone : ℕ → Bool) : Type 0 where
  pub removed : ArePagesChanged old new root removal gone
  pub flags : length free' ≡ length free
  pub given : (n : ℕ) (place : Place) → gone n ≡ true → reach old root 4 n ≡ Some place → is_frame_free free' place.frame ≡ true
  pub kept :
      (f : ℕ) → ((n : ℕ) (place : Place) → gone n ≡ true → reach old root 4 n ≡ Some place → place.frame ≡ f → ⊥) →
      is_frame_free free' f ≡ is_frame_free free f
