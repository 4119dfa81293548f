-- What the calls on links need: words that they may load and store, at places apart from each other.
use Rattle.std.specs.Prelude.{◌≢◌, ℕ, ◌+◌, ◌*◌, ◌<◌, ◌≤◌, ◌⊎◌, Bool, true, false, List}
use Rattle.heap_memory.specs.declared.grant.Grant.{Grant}
use Rattle.bins.specs.Stores.{IsWordPlace, HasLinkPlaces}

-- the words of a node after its head may be loaded and stored
abbrev pub HasRoom : List Grant → ℕ → Type 0
HasRoom regions chunk = (k : ℕ) → 1 < k → k < 8 → IsWordPlace regions (chunk + 8 * k)

-- both children's words of a node may be loaded and stored
pub record HasChildPlaces (regions : List Grant) (at : ℕ) : Type 0 where
  pub left : IsWordPlace regions (at + 32)
  pub right : IsWordPlace regions (at + 40)

-- A chunk can be put after the last of a ring, which is a tag if the ring is empty.
pub record CanPush (regions : List Grant) (last tag chunk : ℕ) : Type 0 where
  pub links : HasLinkPlaces regions chunk
  pub behind : last ≢ tag → IsWordPlace regions (last + 24)
  pub other : last ≢ tag → (last + 24 ≢ chunk + 16) × (last + 24 ≢ chunk + 24)

-- The two beside a chunk of a ring, each of which may be the tag, can be joined.
pub record CanPull (regions : List Grant) (prev next tag : ℕ) : Type 0 where
  pub front : prev ≢ tag → IsWordPlace regions (prev + 24)
  pub back : next ≢ tag → IsWordPlace regions (next + 16)
  pub other : prev ≢ tag → next ≢ tag → prev + 24 ≢ next + 16

-- A chunk that is not the oldest can be taken out of the ring of its node.
pub record CanLeaveRing (regions : List Grant) (words : ℕ → ℕ) (chunk : ℕ) : Type 0 where
  pub links : HasLinkPlaces regions chunk
  pub front : IsWordPlace regions (words (chunk + 16) + 24)
  pub back : IsWordPlace regions (words (chunk + 24) + 16)
  pub other : words (chunk + 16) + 24 ≢ words (chunk + 24) + 16

-- A chunk can be put after the last of the ring of a node.
pub record CanJoin (regions : List Grant) (words : ℕ → ℕ) (at chunk : ℕ) : Type 0 where
  pub links : HasLinkPlaces regions chunk
  pub here : IsWordPlace regions (at + 16)
  pub behind : IsWordPlace regions (words (at + 16) + 24)
  pub apart : (at + 16 ≢ chunk + 16) × (at + 16 ≢ chunk + 24) × (words (at + 16) + 24 ≢ chunk + 16) × (words (at + 16) + 24 ≢ chunk + 24) × (words (at + 16) + 24 ≢ at + 16)

-- The heir of a node can be linked to the last of the ring, and the last to it.
pub record CanTurn (regions : List Grant) (heir last : ℕ) : Type 0 where
  pub own : IsWordPlace regions (heir + 16)
  pub behind : IsWordPlace regions (last + 24)
  pub other : heir + 16 ≢ last + 24

-- A chunk can be made a leaf that a word at a place names.
pub record CanBeLeaf (regions : List Grant) (place chunk : ℕ) : Type 0 where
  pub named : IsWordPlace regions place
  pub own : HasRoom regions chunk
  pub apart : (place < chunk + 16) ⊎ (chunk + 64 ≤ place)

-- A chunk can be made a node with these children, which then name it as their parent.
pub record CanBeNode (regions : List Grant) (chunk : ℕ) (child : Bool → ℕ) : Type 0 where
  pub own : HasRoom regions chunk
  pub places : (side : Bool) → 0 < child side → IsWordPlace regions (child side + 48)
  pub apart : (side : Bool) → 0 < child side → (child side + 48 < chunk + 32) ⊎ (chunk + 64 ≤ child side + 48)
  pub two : 0 < child false → 0 < child true → child false ≢ child true
