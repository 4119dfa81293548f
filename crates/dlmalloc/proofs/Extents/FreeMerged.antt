-- Free extents that touch become one.
use Rattle.dlmalloc.proofs.Names.{◌≡◌, ℕ, ◌+◌, ◌<◌, ◌≤◌, Bool, true, false, ◌&&◌, nat_le, nat_lt, List, ◌∷◌, Some, refl, ap, arith, find, nat_tests, Extent, Free, is_free_below_top, before, has}
use Rattle.dlmalloc.specs.Extents.{is_free}

-- an extent before one in use joins none
pub before_next_used : (extent next : Extent) (extents : List Extent) → is_free next.kind ≡ false → before extent (next ∷ extents) ≡ extent ∷ next ∷ extents
before_next_used extent next extents used = go (is_free extent.kind) refl
  where
    go : (b : Bool) → is_free extent.kind ≡ b → before extent (next ∷ extents) ≡ extent ∷ next ∷ extents
    go true free = rw (free, used) refl
    go false other = rw other refl

-- two free ones are one
pub before_free : (extent next : Extent) (extents : List Extent) → is_free extent.kind ≡ true → is_free next.kind ≡ true →
    before extent (next ∷ extents) ≡ (record { at = extent.at; size = extent.size + next.size; kind = next.kind }) ∷ extents
before_free extent next extents first second = rw (first, second) refl

inside : {plain : Bool} (low high at : ℕ) → plain ≡ true → low ≤ at → at < high → (plain && nat_le low at && nat_lt at high) ≡ true
inside low high at is above below =
    let one : nat_le low at ≡ true = grind (arith, nat_tests) in
    let two : nat_lt at high ≡ true = grind (arith, nat_tests) in
    rw (is, one, two) refl

-- a free chunk has its bytes
pub has_here : (chunk : Extent) (rest : List Extent) (at : ℕ) → chunk.kind ≡ Free → chunk.at ≤ at →
    at < chunk.at + chunk.size → find (has at) (chunk ∷ rest) ≡ Some chunk
has_here chunk rest at free low high =
    let test : has at chunk ≡ true = inside chunk.at (chunk.at + chunk.size) at (ap is_free_below_top free) low high in
    rw test refl
