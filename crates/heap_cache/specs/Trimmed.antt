-- A heap that is trimmed with nothing on stacks (own).
use Rattle.std.specs.Prelude.{ℕ, Bool, List}
use Rattle.heap_memory.specs.declared.grant.Grant.{Grant}
use Rattle.heap_memory.specs.Events.{Event}
use Rattle.dlmalloc.specs.Shortened.{IsTrimmed}
use Rattle.dlmalloc.specs.declared.heap.Dlmalloc.{Dlmalloc}
use Rattle.heap_cache.specs.Emptied.{HasLetGo, AreEmpty}

-- The heap freed all that lay on stacks, and then was trimmed.
pub record IsTrimmedEmptied {A : Type 0} (regions : A → List Grant) (word : A → ℕ → ℕ) (follows : A → List Event → A → Type 0) (frees parts : A → Bool) (unit : A → ℕ) (old : Dlmalloc A) (rows : List ℕ) (pad : ℕ) (answer : Bool) (new : Dlmalloc A) (rows' : List ℕ) : Type 0 where
  pub emptied : Dlmalloc A
  pub gone : HasLetGo regions word follows frees parts unit old rows emptied rows'
  pub empty : AreEmpty rows'
  pub trimmed : IsTrimmed regions word follows (frees emptied.system) (parts emptied.system) (unit emptied.system) emptied pad answer new
