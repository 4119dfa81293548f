-- The places of a node to be and of the children that it gets.
use Rattle.std.proofs.Common.{◌≡◌, ◌≢◌, ℕ, ◌+◌, ◌*◌, ◌<◌, ◌≤◌, ◌⊎◌, inl, inr, Bool, true, false, List, subst, arith}
use Rattle.heap_memory.specs.declared.grant.Grant.{Grant}
use Rattle.bins.specs.Index.{IsIn, without_size}
use Rattle.bins.specs.Tries.{low_at, width, IsTrie}
use Rattle.bins.specs.Linked.{AreChunks}
use Rattle.bins.specs.Stores.{IsWordPlace}
use Rattle.bins.specs.Places.{CanBeNode}
use Rattle.bins.proofs.Frame.{in_without}
use Rattle.bins.proofs.Chunks.{one_size, size_apart, chunk_place}
use Rattle.bins.proofs.Placed.{IsRoot, root_in}

module _ {regions : List Grant} {old : ℕ → ℕ} (mid : ℕ → ℕ) {index : ℕ → List ℕ} (size bin parent low n x : ℕ) (child : Bool → ℕ)
    (chunks : AreChunks regions old index) (large : (m c : ℕ) → IsIn c (index m) → 256 ≤ m) (x_in : IsIn x (index size))
    (tries : (side : Bool) → IsTrie mid (without_size size index) bin parent (low_at side low (width n)) n (child side)) where
  pub x_place : (k : ℕ) → 1 < k → k < 8 → IsWordPlace regions (x + 8 * k)
  x_place k some few = chunk_place chunks large size x k x_in (omega arith) (omega arith)

  pub kid : (side : Bool) → 0 < child side → IsRoot (without_size size index) (low_at side low (width n)) (low_at side low (width n) + width n) (child side)
  kid side some = root_in mid (without_size size index) bin parent (low_at side low (width n)) n (child side) some (tries side)

  pub kid_in : (side : Bool) (some : 0 < child side) → IsIn (child side) (index (kid side some).size)
  kid_in side some = in_without size index (kid side some).size (child side) (kid side some).is

  kid_place : (side : Bool) → 0 < child side → IsWordPlace regions (child side + 48)
  kid_place side some = chunk_place chunks large (kid side some).size (child side) 6 (kid_in side some) (omega arith) (omega arith)

  kid_other : (side : Bool) → 0 < child side → child side ≢ x
  kid_other side some = size_apart chunks size (kid side some).size (child side) x (kid side some).is x_in

  kid_apart : (side : Bool) → 0 < child side → (child side + 48 < x + 32) ⊎ (x + 64 ≤ child side + 48)
  kid_apart side some =
      let r = kid side some in let c_in = kid_in side some in
      let l = large r.size (child side) c_in in let lx = large size x x_in in
      elim (chunks.apart r.size (child side) size x c_in x_in (kid_other side some)) [ inl below ↦ inl (omega arith) | inr above ↦ inr (omega arith) ]

  kid_two : 0 < child false → 0 < child true → child false ≢ child true
  kid_two some more same =
      let r = kid false some in let s = kid true more in
      let one : r.size ≡ s.size =
      one_size r.size s.size (child true) chunks (subst (λ y. IsIn y (index r.size)) same (kid_in false some)) (kid_in true more) in
      omega (arith, r.below, s.above)

  pub can_be_node : CanBeNode regions x child
  can_be_node = record { own = x_place; places = kid_place; apart = kid_apart; two = kid_two }
