-- What freeing an extent makes of the extents of its segment.
use Rattle.dlmalloc.proofs.Names.{◌≡◌, ℕ, ◌+◌, ◌<◌, ◌≤◌, ◌⊎◌, true, false, ◌==◌, ◌&&◌, List, [], ◌∷◌, ◌++◌, map, refl, ◌∙◌, ap, arith, ⊤, Extent, Kind, Free, Victim, Top, is_free, before, MayStand, Tiles}
use Rattle.dlmalloc.proofs.Cuts.Chosen.{and_false}
use Rattle.dlmalloc.specs.Freed.{merged, set_free}
use Rattle.dlmalloc.proofs.Extents.Lookup.{nat_isnt}
use Rattle.dlmalloc.proofs.Extents.Lookup.{extent}
use Rattle.dlmalloc.proofs.Extents.Tiling.{sized, tiles_le}

-- ---- no two free extents of a segment touch

touch : (kind next : Kind) → MayStand kind next → (is_free kind && is_free next) ≡ false
touch kind Free h = ap (λ k. is_free k && true) h
touch kind Top h = ap (λ k. is_free k && true) h
touch kind Victim h = absurd h
touch kind next h = and_false (is_free kind) refl

-- so they stay as they are
pub merged_same : (words : ℕ → ℕ) (before : Kind) (from : ℕ) (extents : List Extent) (to : ℕ) → Tiles words before from extents to → merged extents ≡ extents
merged_same words kind from [] to h = refl
merged_same words kind from (extent ∷ []) to h = refl
merged_same words kind from (extent ∷ next ∷ extents) to h =
    let apart = touch extent.kind next.kind h.2.1.kind in
    ap (before extent) (merged_same words extent.kind (from + extent.size) (next ∷ extents) to h.2) ∙ rw apart refl

pub merged_behind : (front one other : List Extent) → merged one ≡ merged other → merged (front ++ one) ≡ merged (front ++ other)
merged_behind [] one other is = is
merged_behind (extent ∷ front) one other is = ap (before extent) (merged_behind front one other is)

pub set_free_none : (words : ℕ → ℕ) (before : Kind) (from : ℕ) (extents : List Extent) (to at : ℕ) →
    (at < from) ⊎ (to ≤ at) → Tiles words before from extents to → map (set_free at) extents ≡ extents
set_free_none words before from [] to at out h = refl
set_free_none words before from (extent ∷ extents) to at out h =
    let long = (sized extent.kind extent.size h.1.size).1 in
    let later = tiles_le words extent.kind (from + extent.size) extents to h.2 in
    let place = h.0 in
    let rest = set_free_none words extent.kind (from + extent.size) extents to at (grind arith) h.2 in
    let test : (extent.at == at) ≡ false = nat_isnt (grind arith) in
    rw test (ap (λ es. extent ∷ es) rest)

-- ---- what joins

-- none, or a free extent
abbrev pub IsBeside : List Extent → Type 0
IsBeside [] = ⊤
IsBeside (extent ∷ []) = is_free extent.kind ≡ true
IsBeside (extent ∷ next ∷ extents) = ⊥

-- what the free extent becomes, with such ones after it
abbrev pub joint_kind : List Extent → Kind
joint_kind [] = Free
joint_kind (extent ∷ extents) = extent.kind
