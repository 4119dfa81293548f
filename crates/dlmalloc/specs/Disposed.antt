-- A block is given back (dlmalloc: `free`).
use Rattle.std.specs.Prelude.{◌≡◌, ℕ, ◌-◌, List, []}
use Rattle.heap_memory.specs.declared.grant.Grant.{Grant}
use Rattle.heap_memory.specs.Events.{Event}
use Rattle.dlmalloc.specs.State.{extents_in}
use Rattle.dlmalloc.specs.Freed.{freed}
use Rattle.dlmalloc.specs.Blocks.{HasOneMore, KeepsBlocks}
use Rattle.dlmalloc.specs.Boundaries.{OnlyOwnChange}
use Rattle.dlmalloc.specs.Order.{KeepsOrder}
use Rattle.dlmalloc.specs.Heap.{state_of, IsSound}
use Rattle.dlmalloc.specs.declared.heap.Dlmalloc.{Dlmalloc}

-- The block at an address was given back: its chunk is free, and one with the free ones beside it.
pub record IsDisposed {A : Type 0} (regions : A → List Grant) (word : A → ℕ → ℕ) (follows : A → List Event → A → Type 0) (old : Dlmalloc A) (address : ℕ) (new : Dlmalloc A) : Type 0 where
  pub state : state_of word new ≡ freed (state_of word old) (address - 16)
  pub less : HasOneMore (state_of word new) (state_of word old) (address - 16)
  pub kept : KeepsBlocks (extents_in (state_of word new)) (word old.system) (word new.system)
  pub words : OnlyOwnChange (regions old.system) (state_of word old) (state_of word new) (word old.system) (word new.system)
  pub sound : IsSound regions word new
  pub regions_same : regions new.system ≡ regions old.system
  pub followed : follows old.system [] new.system
  pub order : KeepsOrder regions word old new
