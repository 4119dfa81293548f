-- If only one place of a list can have what is looked for.
use Rattle.std.specs.Prelude.{◌≡◌, ◌<◌, ◌≤◌, ℕ, Bool, true, false, List, length, slice_get, Option, Some}
use Rattle.heap_history.specs.declared.history.Stay.{Stay}
use Rattle.heap_recorder.specs.Stays.{has_not_ended}

-- at most one item passes the test, and that only at the place, if there is one
abbrev pub OnlyAt : {A : Type 0} → (A → Bool) → List A → Option ℕ → Type 0
OnlyAt {A} test items place = (k : ℕ) (item : A) → slice_get items k ≡ Some item → test item ≡ true → place ≡ Some k

-- The places are, by number, those of the stays of blocks that go on. None before the first of these goes on.
pub record ArePlaces (stays : List Stay) (places : List ℕ) (first : ℕ) : Type 0 where
  pub found : (k : ℕ) (stay : Stay) → slice_get stays k ≡ Some stay → has_not_ended stay ≡ true → slice_get places stay.block ≡ Some k
  pub ended : (k : ℕ) (stay : Stay) → slice_get stays k ≡ Some stay → k < first → has_not_ended stay ≡ false
  pub within : first ≤ length stays
