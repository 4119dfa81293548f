-- What a store of words in mapped pages leaves. `old` are the words of the memory before, `new` after.
use Rattle.std.specs.Prelude.{◌≡◌, ℕ, ◌+◌, ◌/◌, ◌%◌, ◌<◌, ◌≤◌, Bool, List, length, IsTrue, IfSome, Some}
use Rattle.paging_core.specs.Address.{is_canonical}
use Rattle.paging_core.specs.Memory.{word_at, byte_of}
use Rattle.paging_core.specs.Walk.{reach, large_of, walk_of, reached}
use Rattle.paging_core.specs.Tree.{IsTree}

-- No table is changed, if the tables are a tree: each page leads where it led.
pub record KeepsTables (old new : List ℕ) (root : ℕ) : Type 0 where
  pub size : length new ≡ length old
  pub walks :
      (free : List Bool) → IsTree old root free → (level number : ℕ) → level ≤ 4 →
      reach new root level number ≡ reach old root level number
  pub larges : (free : List Bool) → IsTree old root free → (slot : ℕ) → large_of new root slot ≡ large_of old root slot
  pub tree : (free : List Bool) → IsTree old root free → IsTree new root free

-- The word at the address, a multiple of 8, has the value, and no other word of a page is changed, if the tables are a
-- tree; and the same holds of bytes.
pub record IsWordPut (old new : List ℕ) (root address value : ℕ) : Type 0 where
  pub stored :
      (free : List Bool) → IsTree old root free →
      IfSome (walk_of old root (address / 4096)) (λ place. word_at new place.frame (address % 4096 / 8) ≡ value)
  pub other_words :
      (free : List Bool) → IsTree old root free → (other : ℕ) → IsTrue (is_canonical other) → (other / 8 ≡ address / 8 → ⊥) →
      IfSome (walk_of old root (other / 4096))
      (λ place. word_at new place.frame (other % 4096 / 8) ≡ word_at old place.frame (other % 4096 / 8))
  pub bytes :
      (free : List Bool) → IsTree old root free → (k : ℕ) → k < 8 → reached new root (address + k) ≡ Some (byte_of value k)
  pub others :
      (free : List Bool) → IsTree old root free → (other : ℕ) → IsTrue (is_canonical other) → (other / 8 ≡ address / 8 → ⊥) →
      reached new root other ≡ reached old root other
