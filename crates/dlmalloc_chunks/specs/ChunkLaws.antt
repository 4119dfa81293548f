-- What two stores leave.
use Rattle.std.specs.Prelude.{◌≡◌, ◌≢◌, ℕ, List, [], ◌∷◌}
use Rattle.heap_memory.specs.declared.grant.Grant.{Grant}
use Rattle.heap_memory.specs.Regions.{IsWordOf}
use Rattle.dlmalloc_chunks.specs.Chunk.{AreStored}

pub stored_first : (regions : List Grant) (old new : ℕ → ℕ) (at value next after : ℕ) →
    AreStored regions old ((at, value) ∷ (next, after) ∷ []) new → at ≢ next → new at ≡ value
stored_first regions old new at value next after stored apart = stored.here.0 (apart, tt)

pub stored_last : (regions : List Grant) (old new : ℕ → ℕ) (at value next after : ℕ) →
    AreStored regions old ((at, value) ∷ (next, after) ∷ []) new → new next ≡ after
stored_last regions old new at value next after stored = stored.here.1.0 tt

pub stored_elsewhere : (regions : List Grant) (old new : ℕ → ℕ) (at value next after other : ℕ) →
    AreStored regions old ((at, value) ∷ (next, after) ∷ []) new → IsWordOf regions other → other ≢ at → other ≢ next → new other ≡ old other
stored_elsewhere regions old new at value next after other stored word not_at not_next = stored.elsewhere other word (not_at, (not_next, tt))
