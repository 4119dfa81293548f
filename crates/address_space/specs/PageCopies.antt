-- Pages that are mapped and get the rights and the bytes of others. `old` are the words before, `new` after.
use Rattle.std.specs.Prelude.{◌≡◌, ℕ, ◌+◌, ◌*◌, ◌/◌, ◌<◌, Bool, true, false, IsTrue, List, length, IsSome, Some, None}
use Rattle.std.specs.Option.{option_map}
use Rattle.paging_core.specs.Address.{is_canonical, IsCanonicalRange}
use Rattle.paging_core.specs.Entry.{page_entry}
use Rattle.paging_core.specs.Memory.{word_at, frame_count}
use Rattle.paging_core.specs.PageChanges.{among}
use Rattle.paging_core.specs.Tree.{IsTree, HasTree}
use Rattle.paging_core.specs.Walk.{Place, reach, large_of, walk_of, reached, top}
use Rattle.paging_core.specs.PageBits.{bits_at}

-- page tables whose pages are small ones
pub record HasSmallPages (words : List ℕ) (root : ℕ) : Type 0 where
  pub below : root < frame_count words
  pub tree : HasTree words root
  pub no_large : (slot : ℕ) → large_of words root slot ≡ None

-- each page of a range in one canonical half is mapped
pub record IsMappedRange (words : List ℕ) (root first pages : ℕ) : Type 0 where
  pub canonical : IsCanonicalRange first pages
  pub mapped : (k : ℕ) → k < pages → IsSome (walk_of words root (first + k))

-- `pages` pages from `to` on got the rights and the bytes of those from `from` on, each in its own frame
pub record ArePagesCopied (old new : List ℕ) (root from pages to : ℕ) : Type 0 where
  pub size : length new ≡ length old
  pub tree : (free : List Bool) → IsTree old root free → IsTree new root free
  -- each table is met as before, and so is each other page; these keep their frames
  pub tables : (level number : ℕ) → level < 4 → reach new root level number ≡ reach old root level number
  pub larges : (slot : ℕ) → large_of new root slot ≡ large_of old root slot
  pub outside : (number : ℕ) → among to pages number ≡ false → reach new root 4 number ≡ reach old root 4 number
  pub frames : (number : ℕ) (place : Place) → reach old root 4 number ≡ Some place → (now : Place) × (reach new root 4 number ≡ Some now) × (now.frame ≡ place.frame)
  pub elsewhere :
      (other : ℕ) → IsTrue (is_canonical (other * 4096)) → ((k : ℕ) → k < pages → other ≡ to + k → ⊥) → walk_of new root other ≡ walk_of old root other
  pub rights : (k : ℕ) → k < pages → option_map bits_at (walk_of new root (to + k)) ≡ option_map bits_at (walk_of old root (from + k))
  pub copied : (k offset : ℕ) → k < pages → offset < 4096 → reached new root (4096 * (to + k) + offset) ≡ reached old root (4096 * (from + k) + offset)
  pub bytes :
      (address : ℕ) → IsTrue (is_canonical address) → ((k : ℕ) → k < pages → address / 4096 ≡ to + k → ⊥) → reached new root address ≡ reached old root address
  -- their frames have the words of the source, their entries name these frames with the rights, and no other word is changed
  pub words :
      (k i : ℕ) (source target : Place) → k < pages → i < 512 → walk_of old root (from + k) ≡ Some source → walk_of old root (to + k) ≡ Some target →
      word_at new target.frame i ≡ word_at old source.frame i
  pub entries :
      (n i f : ℕ) (place : Place) → i < 512 → among to pages (512 * n + i) ≡ true → reach old root 3 n ≡ Some (top f) →
      reach new root 4 (512 * n + i) ≡ Some place → word_at new f i ≡ page_entry place.frame (bits_at place)
  pub others :
      (f i : ℕ) → i < 512 → ((k : ℕ) (target : Place) → k < pages → walk_of old root (to + k) ≡ Some target → target.frame ≡ f → ⊥) →
      ((n : ℕ) → reach old root 3 n ≡ Some (top f) → among to pages (512 * n + i) ≡ false) → word_at new f i ≡ word_at old f i
