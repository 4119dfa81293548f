-- What is done to the marks of a heap (own).
use Rattle.std.specs.Prelude.{◌≡◌, ◌≢◌, ℕ, ◌^◌, Bool, false, length}
use Rattle.checked_heap.specs.Counted.{count_below}
use Rattle.checked_heap.specs.Marks.{is_marked}
use Rattle.checked_heap.specs.declared.marks.Marks.{Marks}

-- their count is how many addresses are marked
abbrev pub AreCounted : Marks → Type 0
AreCounted marks = marks.count ≡ count_below (is_marked marks.base marks.words.now) (2 ^ 64)

-- Marks from an address on, of which none is set.
pub record AreUnset (address : ℕ) (marks : Marks) : Type 0 where
  pub base_is : marks.base ≡ address
  pub none : (at : ℕ) → is_marked marks.base marks.words.now at ≡ false
  pub counted : AreCounted marks

-- The address is marked or not, as said, and each other is as it was.
pub record IsMarkSet (old : Marks) (address : ℕ) (marked : Bool) (new : Marks) : Type 0 where
  pub here : is_marked new.base new.words.now address ≡ marked
  pub others : (at : ℕ) → at ≢ address → is_marked new.base new.words.now at ≡ is_marked old.base old.words.now at
  pub base : new.base ≡ old.base
  pub len : length new.words.now ≡ length old.words.now
  pub counted : AreCounted new
