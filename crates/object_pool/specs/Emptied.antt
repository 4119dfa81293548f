-- What a pool leaves of its heap: its slabs are given back, the one taken last first.
use Rattle.std.specs.Prelude.{◌≡◌, ⊤, ℕ, ◌-◌, Bool, List, [], ◌∷◌, ◌++◌}
use Rattle.std.specs.List.{AllByRecursion}
use Rattle.heap_memory.specs.declared.grant.Grant.{Grant}
use Rattle.heap_memory.specs.Events.{Event, Granted, Refused, Released}
use Rattle.dlmalloc.specs.declared.heap.Dlmalloc.{Dlmalloc}
use Rattle.dlmalloc.specs.State.{HeapState}
use Rattle.dlmalloc.specs.Freed.{freed}
use Rattle.dlmalloc.specs.AfterFree.{after_free, free_releases, regions_after, IsFreed}
use Rattle.dlmalloc.specs.Heap.{state_of, IsSound}
use Rattle.dlmalloc.specs.Binned.{IsBinned}
use Rattle.dlmalloc.specs.Blocks.{IsBlock}
use Rattle.object_pool.specs.Pool.{IsNoSlab, KeepsOtherBlocks}

-- the state of a heap in which each slab was freed
abbrev pub slabs_freed : Bool → Bool → ℕ → List ℕ → HeapState → HeapState
slabs_freed frees parts unit [] heap = heap
slabs_freed frees parts unit (slab ∷ slabs) heap = after_free frees parts unit (freed (slabs_freed frees parts unit slabs heap) (slab - 16)) (slab - 16)

-- what the system gets by it
abbrev pub slab_releases : Bool → Bool → ℕ → List ℕ → HeapState → List Event
slab_releases frees parts unit [] heap = []
slab_releases frees parts unit (slab ∷ slabs) heap =
    slab_releases frees parts unit slabs heap ++ free_releases frees parts unit (freed (slabs_freed frees parts unit slabs heap) (slab - 16)) (slab - 16)

-- the regions that it leaves
abbrev pub regions_left : Bool → Bool → ℕ → List ℕ → HeapState → List Grant → List Grant
regions_left frees parts unit [] heap regions = regions
regions_left frees parts unit (slab ∷ slabs) heap regions =
    regions_after frees parts unit (freed (slabs_freed frees parts unit slabs heap) (slab - 16)) (slab - 16) (regions_left frees parts unit slabs heap regions)

-- a run of bytes was given back
abbrev pub IsRelease : Event → Type 0
IsRelease (Granted size grant) = ⊥
IsRelease (Refused size fault) = ⊥
IsRelease (Released at old_size new_size) = ⊤

-- Slabs were freed one after another, the last one first. Each free says what it does of the heap before it, also how it leaves
-- the order of the bins.
abbrev pub AreFreed : {A : Type 0} → (A → List Grant) → (A → ℕ → ℕ) → (A → List Event → A → Type 0) → Bool → Bool → ℕ → Dlmalloc A → List ℕ → Dlmalloc A → Type 0
AreFreed {A} regions word follows frees parts unit old [] new = new ≡ old
AreFreed {A} regions word follows frees parts unit old (slab ∷ slabs) new =
    (middle : Dlmalloc A) × AreFreed regions word follows frees parts unit old slabs middle × IsBinned regions word middle
    × IsFreed regions word follows frees parts unit middle slab new

-- Every slab was given back, the last one first, and nothing else was done: the heap's state, with its segments and the countdown
-- to the next release pass, is the one that this leaves, its system got the releases of it and was asked for nothing, and the
-- regions without them are left. The heap is sound, each block of it was one that is no slab, and each of these has the bytes
-- that it had. What the heap's owner set stays.
pub record IsEmptied {A : Type 0} (regions : A → List Grant) (word : A → ℕ → ℕ) (follows : A → List Event → A → Type 0) (frees parts : Bool) (unit : ℕ) (old : Dlmalloc A) (slabs : List ℕ) (new : Dlmalloc A) : Type 0 where
  pub sound : IsSound regions word new
  pub linked : IsBinned regions word new
  pub each : AreFreed regions word follows frees parts unit old slabs new
  pub kept : KeepsOtherBlocks word slabs old new
  pub only : (address size : ℕ) → IsBlock (state_of word new) address size → IsBlock (state_of word old) address size × IsNoSlab slabs address
  pub state : state_of word new ≡ slabs_freed frees parts unit slabs (state_of word old)
  pub followed : follows old.system (slab_releases frees parts unit slabs (state_of word old)) new.system
  pub releases : AllByRecursion IsRelease (slab_releases frees parts unit slabs (state_of word old))
  pub regions_are : regions new.system ≡ regions_left frees parts unit slabs (state_of word old) (regions old.system)
  pub granularity : new.granularity ≡ old.granularity
  pub rate : new.rate ≡ old.rate
