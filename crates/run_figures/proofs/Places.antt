-- Where extents lie: each ends where the next begins, or before.
use Rattle.std.proofs.Common.{ℕ, zero, suc, ◌+◌, ◌<◌, ◌≤◌, inl, inr, List, [], ◌∷◌, length, get_or, add-one, subst, sym, arith}
use Rattle.dlmalloc_chunks.specs.declared.extent.Extent.{Extent}
use Rattle.dlmalloc_chunks.specs.Tiling.{AreInSegments, IsBehind}

behind : (first second : Extent) → IsBehind first second → first.at + first.size ≤ second.at
behind first second (inl other) = other.2
behind first second (inr next) = omega (arith, next.1.place)

next_suc : (extents : List Extent) (i : ℕ) (d e : Extent) → AreInSegments extents → suc i < length extents →
    (get_or extents i d).at + (get_or extents i d).size ≤ (get_or extents (suc i) e).at
next_suc [] i d e segments within = absurd (omega (arith, within))
next_suc (x ∷ []) i d e segments within = absurd (omega (arith, within))
next_suc (x ∷ y ∷ xs) zero d e segments within = behind x y segments.0
next_suc (x ∷ y ∷ xs) (suc i) d e segments within = next_suc (y ∷ xs) i d e segments.1 (omega (arith, within))

pub next_at : (extents : List Extent) (i : ℕ) (d e : Extent) → AreInSegments extents → i + 1 < length extents →
    (get_or extents i d).at + (get_or extents i d).size ≤ (get_or extents (i + 1) e).at
next_at extents i d e segments within =
    subst (λ (j : ℕ). (get_or extents i d).at + (get_or extents i d).size ≤ (get_or extents j e).at) (sym (add-one i))
    (next_suc extents i d e segments (omega (arith, within)))
