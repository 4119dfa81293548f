-- A chunk takes the place of a node, with tries below it that had another parent.
use Rattle.std.proofs.Common.{◌≡◌, ◌≢◌, ℕ, zero, suc, ◌+◌, ◌*◌, ◌<◌, ◌≤◌, inl, inr, Bool, not, List, ◌∷◌, sym, ap, subst, ◌∙◌, arith}
use Rattle.heap_memory.specs.declared.grant.Grant.{Grant}
use Rattle.dlmalloc_chunks.specs.Head.{size_of}
use Rattle.bins.specs.Index.{IsIn, AreDistinct, without_size}
use Rattle.bins.specs.Rings.{IsRing}
use Rattle.bins.specs.Tries.{low_at, width, IsTrie}
use Rattle.bins.specs.Linked.{AreChunks}
use Rattle.bins.specs.Stores.{HasPlaced}
use Rattle.bins.proofs.Frame.{linked_kept, in_without}
use Rattle.bins.proofs.Lists.{first_in, later_in}
use Rattle.bins.proofs.Chunks.{chunks_without, same_or_not, one_size, size_apart, words_apart}
use Rattle.bins.proofs.Opened.{Opened, halves_apart, on_sides}
use Rattle.bins.proofs.Adopted.{adopted}

-- the node of a trie is one of its chunks
pub record IsRoot (index : ℕ → List ℕ) (low high at : ℕ) : Type 0 where
  pub size : ℕ
  pub above : low ≤ size
  pub below : size < high
  pub is : IsIn at (index size)

pub root_in : (words : ℕ → ℕ) (index : ℕ → List ℕ) (bin parent low n at : ℕ) → 0 < at → IsTrie words index bin parent low n at →
    IsRoot index low (low + width n) at
root_in words index bin parent low zero at some h = absurd (let none = h.0 in omega arith)
root_in words index bin parent low (suc n) at some (inl none) = absurd (let zero = none.0 in omega arith)
root_in words index bin parent low (suc n) at some (inr (d, _)) = record { size = d.size; above = d.above; below = d.below; is = first_in d.chunks }

module _ {regions : List Grant} {mid new : ℕ → ℕ} {index : ℕ → List ℕ} {bin parent : ℕ} (low n : ℕ) {x : ℕ} (size : ℕ)
    {others : List ℕ} {child : Bool → ℕ} (parent_of : Bool → ℕ)
    (chunks : AreChunks regions mid index) (large : (m c : ℕ) → IsIn c (index m) → 256 ≤ m)
    (above : low ≤ size) (below : size < low + 2 * width n) (listed : index size ≡ x ∷ others)
    (ring : IsRing mid x (mid (x + 24)) (mid (x + 16)) others)
    (tries : (side : Bool) → IsTrie mid (without_size size index) bin (parent_of side) (low_at side low (width n)) n (child side))
    (placed : HasPlaced regions mid x child parent bin new) where
  x_in : IsIn x (index size)
  x_in = first_in listed

  other_in : (c : ℕ) → IsIn c others → IsIn c (index size)
  other_in c is = later_in c listed is

  once : AreDistinct (x ∷ others)
  once = subst (λ (cs : List ℕ). AreDistinct cs) listed (chunks.once size)

  root : (side : Bool) → 0 < child side → IsRoot (without_size size index) (low_at side low (width n)) (low_at side low (width n) + width n) (child side)
  root side some = root_in mid (without_size size index) bin (parent_of side) (low_at side low (width n)) n (child side) some (tries side)

  -- a word of a chunk stays, but for those of the node and the parent words of its children
  placed_word : (m c k : ℕ) → IsIn c (index m) → 0 < k → 8 * k < 64 → (c ≡ x → k < 4) →
      ((side : Bool) → 0 < child side → c ≡ child side → k ≢ 6) → new (c + 8 * k) ≡ mid (c + 8 * k)
  placed_word m c k c_in some few no_x no_child =
      let h = chunks.each m c c_in in let l = large m c c_in in let lx = large size x x_in in
      placed.elsewhere (c + 8 * k) (h.granted (c + 8 * k) (omega arith) (omega arith) (omega (arith, h.aligned)))
      (elim (same_or_not c x) [
        | inl same ↦ inl (let four = no_x same in omega arith)
        | inr other ↦ elim (chunks.apart m c size x c_in x_in other) [ inl before ↦ inl (omega arith) | inr behind ↦ inr (omega arith) ]
      ])
      (λ side real e. elim (same_or_not c (child side)) [
        | inl same ↦ no_child side real same (omega arith)
        | inr other ↦
            (let r = root side real in words_apart chunks large m c r.size (child side) k 48 c_in
            (in_without size index r.size (child side) r.is) other few (omega arith) e)
      ])

  -- a chunk of one half is not the node of the other
  half_apart : (side : Bool) (m c : ℕ) → low_at side low (width n) ≤ m → m < low_at side low (width n) + width n →
      IsIn c (without_size size index m) → 0 < child (not side) → c ≢ child (not side)
  half_apart side m c a b c_in real same =
      let r = root (not side) real in
      let one = one_size m r.size c chunks (in_without size index m c c_in)
      (in_without size index r.size c (subst (λ y. IsIn y (without_size size index r.size)) (sym same) r.is)) in
      halves_apart side low (width n) r.size r.above r.below (omega arith) (omega arith)

  pub placed_opened : Opened new index bin parent low n x
  placed_opened =
      let not_child : (c : ℕ) → IsIn c (index size) → (side : Bool) → 0 < child side → c ≢ child side = λ c c_in side real same.
      let r = root side real in size_apart chunks size r.size (child side) c r.is c_in (sym same) in
      let own : (k : ℕ) → 0 < k → k < 4 → new (x + 8 * k) ≡ mid (x + 8 * k) =
      λ k some few. placed_word size x k x_in some (omega arith) (λ e. few) (λ side real e. absurd (not_child x x_in side real e)) in
      let c = chunks.each size x x_in in
      record {
        node = record {
          size = size;
          others = others;
          child = child;
          some = omega (arith, c.low);
          above = above;
          below = below;
          chunks = listed;
          head = ap size_of (own 1 (omega arith) (omega arith)) ∙ c.head;
          ring = record {
            begins = own 3 (omega arith) (omega arith) ∙ ring.begins;
            ends = own 2 (omega arith) (omega arith) ∙ ring.ends;
            linked = linked_kept mid new x others x (λ d is k some few. placed_word size d k (other_in d is) some (omega arith)
                (λ e. absurd (once.0 (subst (λ y. IsIn y others) e is))) (λ side real e. absurd (not_child d (other_in d is) side real e))) ring.linked;
          };
          child_is = placed.child_is;
          parent_is = placed.parent_is;
          bin_is = placed.bin_is;
        };
        children = λ side. adopted new bin (parent_of side) x (chunks_without size chunks) (low_at side low (width n)) n (child side)
            (λ m d a b d_in k some few own_child. placed_word m d k (in_without size index m d d_in) some few
            (λ e. absurd (size_apart chunks size m d x d_in x_in e))
            (on_sides side (λ s. 0 < child s → d ≡ child s → k ≢ 6) (λ real e. own_child e) (λ real e. absurd (half_apart side m d a b d_in real e))))
            (placed.adopted side) (tries side);
      }
