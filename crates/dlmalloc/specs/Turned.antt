-- What a call leaves that takes no region.
use Rattle.std.specs.Prelude.{◌≡◌, ℕ, List, []}
use Rattle.heap_memory.specs.declared.grant.Grant.{Grant}
use Rattle.heap_memory.specs.Events.{Event}
use Rattle.dlmalloc.specs.Boundaries.{OnlyBoundariesChange, OnlyOwnChange}
use Rattle.dlmalloc.specs.Binned.{FreeMoves}
use Rattle.dlmalloc.specs.Heap.{state_of, IsSound}
use Rattle.dlmalloc.specs.declared.heap.Dlmalloc.{Dlmalloc}

-- The heap moved with no further region: it is sound, and of the granted words only those at boundaries of its extents
-- changed.
pub record IsMoved {A : Type 0} (regions : A → List Grant) (word : A → ℕ → ℕ) (follows : A → List Event → A → Type 0) (old new : Dlmalloc A) : Type 0 where
  pub sound : IsSound regions word new
  pub words : OnlyBoundariesChange (regions old.system) (state_of word new) (word old.system) (word new.system)
  pub regions_same : regions new.system ≡ regions old.system
  pub followed : follows old.system [] new.system

-- The same with its bins: of the granted words only its own changed, those in free extents among them.
pub record IsTurned {A : Type 0} (regions : A → List Grant) (word : A → ℕ → ℕ) (follows : A → List Event → A → Type 0) (old new : Dlmalloc A) : Type 0 where
  pub sound : IsSound regions word new
  pub words : OnlyOwnChange (regions old.system) (state_of word old) (state_of word new) (word old.system) (word new.system)
  pub regions_same : regions new.system ≡ regions old.system
  pub followed : follows old.system [] new.system

-- The heap moved beside its bins: nothing was done to them, and the free extents at some addresses gave way to those at
-- others.
pub record MovesBesideBins {A : Type 0} (regions : A → List Grant) (word : A → ℕ → ℕ) (follows : A → List Event → A → Type 0) (old : Dlmalloc A) (less more : List ℕ) (new : Dlmalloc A) : Type 0 where
  pub moved : IsMoved regions word follows old new
  pub free : FreeMoves (state_of word old) (state_of word new) less more
  pub bins : new.bins ≡ old.bins
