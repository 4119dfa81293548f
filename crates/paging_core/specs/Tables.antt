-- How the tables that a page misses are made, one level after the other.
use Rattle.std.specs.Prelude.{◌≡◌, ℕ, suc, zero, ◌+◌, ◌*◌, ◌%◌, ◌^◌, ◌<◌, ◌≤◌, Bool, true, false, if◌then◌else◌, List, length, set, Option, is_none, Some, None}
use Rattle.paging_core.specs.Memory.{word_at, cleared}
use Rattle.paging_core.specs.Entry.{table_entry}
use Rattle.paging_core.specs.Prefix.{prefix_of}
use Rattle.paging_core.specs.Pool.{is_frame_free, free_count, AreLowestTaken}
use Rattle.paging_core.specs.Walk.{Place, reach, large_of, top}

-- a free frame was cleared, and is named as a table by an entry
pub record IsTableMade (old new : List ℕ) (free free' : List Bool) (table index made : ℕ) : Type 0 where
  pub bounded : made < 2 ^ 40
  pub was_free : is_frame_free free made ≡ true
  pub lowest : (g : ℕ) → g < made → is_frame_free free g ≡ false
  pub taken : free' ≡ set free made false
  pub words : new ≡ set (cleared old made) (512 * table + index) (table_entry made)

-- the table that the entry leads to, `met` in the old words: it was there, or was made
abbrev pub IsEnsured : Option Place → List ℕ → List ℕ → List Bool → List Bool → ℕ → ℕ → ℕ → Type 0
IsEnsured None old new free free' table index result = IsTableMade old new free free' table index result
IsEnsured (Some met) old new free free' table index result = (met.frame ≡ result) × (new ≡ old) × (free' ≡ free)

-- 1 if the page's table of the level is missing
abbrev pub missing_at : List ℕ → ℕ → ℕ → ℕ → ℕ
missing_at words root page level = (if is_none (reach words root level (prefix_of page level)) then 1 else 0)

-- how many tables are missing at the levels after `level` up to 3
abbrev pub missing_past : List ℕ → ℕ → ℕ → ℕ → ℕ
missing_past words root page zero = missing_at words root page 1 + missing_at words root page 2 + missing_at words root page 3
missing_past words root page (suc zero) = missing_at words root page 2 + missing_at words root page 3
missing_past words root page (suc (suc zero)) = missing_at words root page 3
missing_past words root page (suc (suc (suc level))) = 0

-- the missing tables of the page were made, down to the level
pub record IsPrepared (old new : List ℕ) (free free' : List Bool) (root page level : ℕ) : Type 0 where
  pub size : length new ≡ length old
  pub flags : length free' ≡ length free
  -- nothing else of the walk is changed
  pub others : (l n : ℕ) → l ≤ 4 → (l ≤ level → n ≡ prefix_of page l → ⊥) → reach new root l n ≡ reach old root l n
  pub larges : (n : ℕ) → large_of new root n ≡ large_of old root n
  pub stayed : (l : ℕ) (met : Place) → l ≤ 4 → reach old root l (prefix_of page l) ≡ Some met → reach new root l (prefix_of page l) ≡ Some met
  -- the frames of the new tables were free, and no other frame was taken
  pub made :
      (l : ℕ) (met : Place) → l ≤ level → reach old root l (prefix_of page l) ≡ None → reach new root l (prefix_of page l) ≡ Some met →
      is_frame_free free met.frame ≡ true
  pub fewer : (f : ℕ) → is_frame_free free f ≡ false → is_frame_free free' f ≡ false
  pub lowest : AreLowestTaken free free'
  pub kept :
      (f : ℕ) → is_frame_free free f ≡ true → ((l : ℕ) → l ≤ level → reach new root l (prefix_of page l) ≡ Some (top f) → ⊥) → is_frame_free free' f ≡ true
  pub count : free_count free' + missing_past old root page 0 ≡ free_count free + missing_past old root page level
  -- words are changed only in tables of the page
  pub words :
      (f i : ℕ) → i < 512 → ((l : ℕ) → l < 4 → reach new root l (prefix_of page l) ≡ Some (top f) → ⊥) → word_at new f i ≡ word_at old f i
  -- in a table that was there, at most the page's entry, and not if it led on
  pub old_table :
      (l f i : ℕ) → l < 4 → reach old root l (prefix_of page l) ≡ Some (top f) → i < 512 →
      (l < level → i ≡ prefix_of page (l + 1) % 512 → ⊥) → word_at new f i ≡ word_at old f i
  pub old_entry :
      (l f : ℕ) (next : Place) → l < 3 → reach old root l (prefix_of page l) ≡ Some (top f) →
      reach old root (l + 1) (prefix_of page (l + 1)) ≡ Some next →
      word_at new f (prefix_of page (l + 1) % 512) ≡ word_at old f (prefix_of page (l + 1) % 512)
  -- a new table is empty but for the page's entry
  pub blank :
      (l f i : ℕ) → l ≤ level → reach old root l (prefix_of page l) ≡ None → reach new root l (prefix_of page l) ≡ Some (top f) → i < 512 →
      (l < level → i ≡ prefix_of page (l + 1) % 512 → ⊥) → word_at new f i ≡ 0
  pub table_word :
      (l f made : ℕ) → l < level → reach new root l (prefix_of page l) ≡ Some (top f) →
      reach old root (l + 1) (prefix_of page (l + 1)) ≡ None → reach new root (l + 1) (prefix_of page (l + 1)) ≡ Some (top made) →
      word_at new f (prefix_of page (l + 1) % 512) ≡ table_entry made
