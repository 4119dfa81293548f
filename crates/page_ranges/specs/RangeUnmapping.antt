-- What unmapping a range does if some of its pages are in large pages. A large page that lies whole in the range leaves
-- by its one entry. One in which the range begins is cut: the pages before the range stay, by a table in the frame of
-- the first page that leaves. None reaches over the end. `old` and `free` are the words and the flags before, `new` and
-- `free'` after.
use Rattle.std.specs.Prelude.{◌≡◌, ℕ, ◌+◌, ◌*◌, ◌/◌, ◌%◌, ◌<◌, ◌≤◌, Bool, true, false, ◌&&◌, not, ◌==◌, is_some, if◌then◌else◌, List, length, Some, None, IsSome}
use Rattle.paging_core.specs.Address.{IsCanonicalRange}
use Rattle.paging_core.specs.EntryPlace.{IsRoot}
use Rattle.paging_core.specs.Memory.{word_at}
use Rattle.paging_core.specs.Entry.{table_entry, page_entry}
use Rattle.paging_core.specs.Prefix.{prefix_of}
use Rattle.paging_core.specs.Pool.{is_frame_free, free_count}
use Rattle.paging_core.specs.Walk.{Place, reach, large_of, walk_of, top}
use Rattle.paging_core.specs.PageBits.{bits_at}
use Rattle.paging_core.specs.PageChanges.{among}

-- Each large page that has a page of the range ends in it.
abbrev pub NoLargePageReachesOver : List ℕ → ℕ → ℕ → ℕ → Type 0
NoLargePageReachesOver words root first pages =
    (k : ℕ) → k < pages → IsSome (large_of words root (prefix_of (first + k) 3)) → 512 * ((first + k) / 512) + 512 ≤ first + pages

-- The pages from `first` on may be unmapped: they lie in one canonical half, each is mapped, and none in a large page that
-- reaches over their end.
pub record IsRangeUnmappable (words : List ℕ) (root first pages : ℕ) : Type 0 where
  pub rooted : IsRoot words root
  pub range : IsCanonicalRange first pages
  pub mapped : (k : ℕ) → k < pages → IsSome (walk_of words root (first + k))
  pub ends : NoLargePageReachesOver words root first pages

-- the range begins in a large page, after its first page
abbrev pub cuts_large_page : List ℕ → ℕ → ℕ → Bool
cuts_large_page words root first = is_some (large_of words root (prefix_of first 3)) && not (first % 512 == 0)

-- the tables that are made by it
abbrev pub cut_tables : List ℕ → ℕ → ℕ → ℕ
cut_tables words root first = if cuts_large_page words root first then 1 else 0

-- The range begins after the first page of this large page, whose table then is the frame of the range's first page.
pub record IsCutPage (words : List ℕ) (root first : ℕ) (large : Place) : Type 0 where
  pub there : large_of words root (prefix_of first 3) ≡ Some large
  pub behind : 0 < first % 512

-- The words of the tables after the pages were unmapped. Entry `i` of the table that is met at the prefix (l, n) leads on to
-- the prefix (l + 1, 512 * n + i).
pub record HasEntriesLeft (old new : List ℕ) (root first pages : ℕ) : Type 0 where
  -- the entry of a page that left, and that of a large page that left whole
  pub page_words : (n f i : ℕ) → i < 512 → among first pages (512 * n + i) ≡ true → reach old root 3 n ≡ Some (top f) → word_at new f i ≡ 0
  pub large_words :
      (n f i : ℕ) (large : Place) → i < 512 → reach old root 2 n ≡ Some (top f) → large_of old root (512 * n + i) ≡ Some large →
      large_of new root (512 * n + i) ≡ None → (cuts_large_page old root first ≡ true → 512 * n + i ≡ prefix_of first 3 → ⊥) → word_at new f i ≡ 0
  -- the entry of a large page that was cut, and the words of its table
  pub table_word :
      (f : ℕ) (large : Place) → IsCutPage old root first large → reach old root 2 (prefix_of first 2) ≡ Some (top f) →
      word_at new f (prefix_of first 3 % 512) ≡ table_entry (large.frame + first % 512)
  pub kept_words :
      (k : ℕ) (large : Place) → IsCutPage old root first large → k < first % 512 →
      word_at new (large.frame + first % 512) k ≡ page_entry (large.frame + k) (bits_at large)
  pub blank :
      (k : ℕ) (large : Place) → IsCutPage old root first large → first % 512 ≤ k → k < 512 → word_at new (large.frame + first % 512) k ≡ 0
  -- no other word is changed
  pub words :
      (f i : ℕ) → i < 512 → ((n : ℕ) → reach old root 3 n ≡ Some (top f) → among first pages (512 * n + i) ≡ false) →
      ((n : ℕ) → reach old root 2 n ≡ Some (top f) → large_of new root (512 * n + i) ≡ large_of old root (512 * n + i)) →
      ((large : Place) → IsCutPage old root first large → f ≡ large.frame + first % 512 → ⊥) → word_at new f i ≡ word_at old f i

-- The pages of the range were unmapped, and their frames are free but for that of a new table.
pub record AreUnmapped (old new : List ℕ) (free free' : List Bool) (root first pages : ℕ) : Type 0 where
  pub size : length new ≡ length old
  pub flags : length free' ≡ length free
  -- the pages, with the large pages that have them
  pub gone : (n : ℕ) → among first pages n ≡ true → reach new root 4 n ≡ None
  pub large_gone : (k : ℕ) → k < pages → large_of new root (prefix_of (first + k) 3) ≡ None
  -- every other page, every other large page and every table stays
  pub pages_stay : (n : ℕ) → among first pages n ≡ false → reach new root 4 n ≡ reach old root 4 n
  pub larges_stay : (n : ℕ) → ((k : ℕ) → k < pages → n ≡ prefix_of (first + k) 3 → ⊥) → large_of new root n ≡ large_of old root n
  pub tables_stay : (l n : ℕ) → l < 4 → (l ≡ 3 → n ≡ prefix_of first 3 → cuts_large_page old root first ≡ false) → reach new root l n ≡ reach old root l n
  -- the table of a large page that was cut
  pub table : (large : Place) → IsCutPage old root first large → reach new root 3 (prefix_of first 3) ≡ Some (top (large.frame + first % 512))
  -- the frames that were given back, that of the new table, and every other flag
  pub given :
      (n : ℕ) (place : Place) → among first pages n ≡ true → reach old root 4 n ≡ Some place →
      ((large : Place) → IsCutPage old root first large → n ≡ prefix_of first 4 → ⊥) → is_frame_free free' place.frame ≡ true
  pub used : (large : Place) → IsCutPage old root first large → is_frame_free free' (large.frame + first % 512) ≡ false
  pub kept :
      (f : ℕ) → ((n : ℕ) (place : Place) → among first pages n ≡ true → reach old root 4 n ≡ Some place → place.frame ≡ f → ⊥) →
      is_frame_free free' f ≡ is_frame_free free f
  pub count : free_count free' + cut_tables old root first ≡ free_count free + pages
  pub entries : HasEntriesLeft old new root first pages
