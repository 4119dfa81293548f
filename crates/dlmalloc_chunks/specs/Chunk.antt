-- The words of a chunk, and what a call on it changes.
use Rattle.std.specs.Prelude.{◌≡◌, ◌≢◌, ℕ, ◌+◌, ◌%◌, ◌^◌, ◌<◌, List, [], ◌∷◌}
use Rattle.heap_memory.specs.declared.grant.Grant.{Grant}
use Rattle.heap_memory.specs.declared.links.Links.{Ghosts as Links}
use Rattle.heap_memory.specs.Regions.{IsWordOf}
use Rattle.heap_memory.specs.Asks.{AsksNothing}

-- a chunk whose head is granted
pub record HasHead (regions : List Grant) (chunk : ℕ) : Type 0 where
  pub aligned : chunk % 8 ≡ 0
  pub small : chunk + 8 < 2 ^ 64
  pub granted : IsWordOf regions (chunk + 8)

-- a chunk whose prev_foot is granted
pub record HasFoot (regions : List Grant) (chunk : ℕ) : Type 0 where
  pub aligned : chunk % 8 ≡ 0
  pub small : chunk < 2 ^ 64
  pub granted : IsWordOf regions chunk

-- a chunk of some bytes whose head is granted, and so is that of the chunk after it
pub record HasHeads (regions : List Grant) (chunk bytes : ℕ) : Type 0 where
  pub size : bytes % 8 ≡ 0
  pub head : HasHead regions chunk
  pub next : HasHead regions (chunk + bytes)

-- a chunk of some bytes whose head is granted, and so is the prev_foot of the chunk after it
pub record HasHeadAndFoot (regions : List Grant) (chunk bytes : ℕ) : Type 0 where
  pub size : bytes % 8 ≡ 0
  pub head : HasHead regions chunk
  pub foot : HasFoot regions (chunk + bytes)

-- a place is none of those of some stores
abbrev pub IsElsewhere : ℕ → List (ℕ × ℕ) → Type 0
IsElsewhere at [] = Unit {0}
IsElsewhere at (store ∷ stores) = (at ≢ store.0) × IsElsewhere at stores

-- each place has the last value that was stored to it
abbrev pub HoldLast : List (ℕ × ℕ) → (ℕ → ℕ) → Type 0
HoldLast [] words = Unit {0}
HoldLast (store ∷ stores) words = (IsElsewhere store.0 stores → words store.0 ≡ store.1) × HoldLast stores words

-- these values were stored, one after the other, and the granted words elsewhere are as they were
pub record AreStored (regions : List Grant) (old : ℕ → ℕ) (stores : List (ℕ × ℕ)) (new : ℕ → ℕ) : Type 0 where
  pub here : HoldLast stores new
  pub elsewhere : (other : ℕ) → IsWordOf regions other → IsElsewhere other stores → new other ≡ old other

-- These values were stored, one after the other, and nothing else was done: the system was asked for nothing.
pub record StoresWords {A : Type 0} (links : Links A) (stores : List (ℕ × ℕ)) (old new : A) : Type 0 where
  pub stored : AreStored (links.regions old) (links.word old) stores (links.word new)
  pub asks : AsksNothing links old new
  pub open asks use *
