-- A leaf from below takes the place of a node that was alone in its ring.
use Rattle.std.proofs.Common.{◌≡◌, ◌≢◌, ℕ, ◌+◌, ◌-◌, ◌*◌, ◌<◌, ◌≤◌, ◌⊎◌, inl, inr, Bool, true, false, not, List, [], ◌∷◌, refl, sym, subst, ◌∙◌, arith}
use Rattle.heap_memory.specs.declared.grant.Grant.{Grant}
use Rattle.bins.specs.Index.{IsIn, without_size}
use Rattle.bins.specs.Tries.{slot, both, low_at, width, IsTrie}
use Rattle.bins.specs.Linked.{AreChunks}
use Rattle.bins.specs.Below.{IsHeld, OnlyHeldChanges}
use Rattle.bins.specs.Stores.{HasPlaced}
use Rattle.bins.specs.Places.{CanBeNode}
use Rattle.bins.specs.Fits.{IsTakenOut}
use Rattle.bins.proofs.Frame.{in_without, in_half, trie_kept}
use Rattle.bins.proofs.Reindexed.{trie_reindexed}
use Rattle.bins.proofs.Lists.{without_other, first_in}
use Rattle.bins.proofs.Chunks.{same_or_not, chunk_kept, one_size}
use Rattle.bins.proofs.Opened.{Opened, closed, on_sides, halves_apart}
use Rattle.bins.proofs.Placed.{placed_opened}
use Rattle.bins.proofs.Taking.{o, all_taken, t_at, t_levels, t_rest, sub_held}
use Rattle.bins.proofs.Widths.{wide}
use Rattle.bins.proofs.KidPlaces.{kid, kid_in, can_be_node}

kid_here : (side : Bool) (rest other : ℕ) {c0 c1 : ℕ} → c0 ≡ both rest other side → c1 ≡ both other rest side → both c0 c1 side ≡ rest
kid_here false rest other a b = a
kid_here true rest other a b = b

kid_there : (side : Bool) (rest other : ℕ) {c0 c1 : ℕ} → c0 ≡ both rest other side → c1 ≡ both other rest side → both c0 c1 (not side) ≡ other
kid_there false rest other a b = b
kid_there true rest other a b = a

-- nothing takes the place of a node that has no child
module _ {regions : List Grant} {old : ℕ → ℕ} {index : ℕ → List ℕ} {bin parent low levels at : ℕ} (some : 0 < at)
    (held : IsHeld regions old index bin parent low levels at) where
  pub l_none : old (at + 32) ≡ 0 → old (at + 40) ≡ 0 → (size : ℕ) → index size ≡ at ∷ [] →
      IsTrie old (without_size size index) bin parent low levels 0
  l_none no_left no_right size is =
      let t = all_taken some held no_left no_right in
      let one : t.size ≡ size = one_size t.size size at held.chunks (first_in t.chunks) (first_in is) in
      elim t.left [
        | inl (same, trie) ↦ subst (λ s. IsTrie old (without_size s index) bin parent low levels 0) one trie
        | inr (other, trie) ↦ absurd (other refl)
      ]

-- A leaf was taken out below a node's child, and the node's children without it are known, in the words of the calls.
pub record RaisesLeaf (regions : List Grant) (old mid : ℕ → ℕ) (levels at : ℕ) (side : Bool) (child leaf rest other c0 c1 : ℕ) : Type 0 where
  pub child_is : child ≡ old (at + slot side)
  pub real : 0 < child
  pub taken : (index : ℕ → List ℕ) (bin parent low : ℕ) → IsHeld regions old index bin parent low (levels - 1) child →
      IsTakenOut regions old mid index bin parent low (levels - 1) child leaf
  pub no_rest : leaf ≡ child → rest ≡ 0
  pub some_rest : leaf ≢ child → rest ≡ child
  pub other_is : other ≡ old (at + slot (not side))
  pub c0_is : c0 ≡ both rest other side
  pub c1_is : c1 ≡ both other rest side

module _ {regions : List Grant} {old : ℕ → ℕ} {index : ℕ → List ℕ} {bin parent low levels at : ℕ} (some : 0 < at)
    (held : IsHeld regions old index bin parent low levels at)
    {mid : ℕ → ℕ} {side : Bool} {child leaf rest other c0 c1 : ℕ} (raises : RaisesLeaf regions old mid levels at side child leaf rest other c0 c1) where
  abbrev q : Opened old index bin parent low (levels - 1) at
  q = o some held

  -- the index of the children, where the range of the child begins, and the children after the call
  abbrev lower : ℕ → List ℕ
  lower = t_rest some held

  abbrev under : ℕ
  under = low_at side low (width (levels - 1))

  abbrev kids : Bool → ℕ
  kids = both c0 c1

  child_held : IsHeld regions old lower bin at under (levels - 1) child
  child_held = sub_held some held side raises.child_is raises.real

  before : AreChunks regions old lower
  before = child_held.chunks

  large : (m c : ℕ) → IsIn c (lower m) → 256 ≤ m
  large = child_held.large

  sub : IsTakenOut regions old mid lower bin at under (levels - 1) child leaf
  sub = raises.taken lower bin at under child_held

  -- the index of the children without the leaf's size
  abbrev left : ℕ → List ℕ
  left = without_size sub.size lower

  -- of a chunk that is not in the child's range nothing changed, and no head anywhere
  outside : (m c k : ℕ) → IsIn c (lower m) → 0 < k → 8 * k < 64 → (k ≡ 1) ⊎ (under ≤ m → m < under + width (levels - 1) → ⊥) →
      mid (c + 8 * k) ≡ old (c + 8 * k)
  outside m c k c_in some' few far =
      let h = before.each m c c_in in let l = large m c c_in in
      sub.words (c + 8 * k) (h.granted (c + 8 * k) (omega arith) (omega arith) (omega (arith, h.aligned))) (λ j d a b not_leaf d_in.
      elim (same_or_not c d) [
        | inl e ↦ elim far [
          | inl head ↦ inl (omega arith)
          | inr out ↦ absurd (let one = one_size m j c before c_in (subst (λ x. IsIn x (lower j)) (sym e) d_in) in out (omega arith) (omega arith))
        ]
        | inr not_same ↦
            (let lj = large j d d_in in elim (before.apart m c j d c_in d_in not_same) [ inl below ↦ inl (omega arith) | inr above ↦ inr (inl (omega arith)) ])
      ])

  after : AreChunks regions mid lower
  after = record {
    each = λ m c is. chunk_kept mid (outside m c 1 is (omega arith) (omega arith) (inl refl)) (before.each m c is);
    apart = before.apart;
    once = before.once;
  }

  here : IsTrie mid left bin at under (levels - 1) rest
  here = elim sub.left [
    | inl (same, trie) ↦ subst (λ x. IsTrie mid left bin at under (levels - 1) x) (sym (raises.no_rest same)) trie
    | inr (apart, trie) ↦ subst (λ x. IsTrie mid left bin at under (levels - 1) x) (sym (raises.some_rest apart)) trie
  ]

  there : IsTrie mid left bin at (low_at (not side) low (width (levels - 1))) (levels - 1) other
  there =
      let n = levels - 1 in
      let was : IsTrie old lower bin at (low_at (not side) low (width n)) n other =
      subst (λ x. IsTrie old lower bin at (low_at (not side) low (width n)) n x) (sym (raises.other_is ∙ q.node.child_is (not side))) (q.children (not side)) in
      let stays = trie_kept old mid bin lower at (low_at (not side) low (width n)) n other
      (λ m a b c is k some' few. outside m c k is some' few (inr (halves_apart side low (width n) m a b))) was in
      trie_reindexed mid bin lower left at (low_at (not side) low (width n)) n other
      (λ m a b. without_other sub.size lower m (λ e. halves_apart side low (width n) m a b
      (subst (λ y. low_at side low (width n) ≤ y) (sym e) sub.above) (subst (λ y. y < low_at side low (width n) + width n) (sym e) sub.below))) stays

  leaf_tries : (b : Bool) → IsTrie mid left bin at (low_at b low (width (levels - 1))) (levels - 1) (kids b)
  leaf_tries =
      let n = levels - 1 in
      on_sides side (λ b. IsTrie mid left bin at (low_at b low (width n)) n (kids b))
      (subst (λ x. IsTrie mid left bin at (low_at side low (width n)) n x) (sym (kid_here side rest other raises.c0_is raises.c1_is)) here)
      (subst (λ x. IsTrie mid left bin at (low_at (not side) low (width n)) n x) (sym (kid_there side rest other raises.c0_is raises.c1_is)) there)

  leaf_up : {new : ℕ → ℕ} → HasPlaced regions mid leaf kids parent bin new → Opened new lower bin parent low (levels - 1) leaf
  leaf_up placed =
      let n = levels - 1 in
      let half = in_half side low (width n) sub.size sub.above sub.below in
      placed_opened low n sub.size (λ b. at) after large half.0 half.1 sub.chunks sub.ring leaf_tries placed

  leaf_in : IsIn leaf (lower sub.size)
  leaf_in = first_in sub.chunks

  pub l_node : CanBeNode regions leaf kids
  l_node = can_be_node mid sub.size bin at low (levels - 1) leaf kids before large leaf_in leaf_tries

  pub l_trie : {new : ℕ → ℕ} → HasPlaced regions mid leaf kids parent bin new → (size : ℕ) → index size ≡ at ∷ [] →
      IsTrie new (without_size size index) bin parent low levels leaf
  l_trie {new = new} placed size is =
      let one : q.node.size ≡ size = one_size q.node.size size at held.chunks (t_at some held) (first_in is) in
      subst (λ s. IsTrie new (without_size s index) bin parent low levels leaf) one
      (closed levels (t_levels some held) (leaf_up placed))

  pub l_words : {new : ℕ → ℕ} → HasPlaced regions mid leaf kids parent bin new → OnlyHeldChanges regions index low (low + width levels) old new
  l_words placed p word out =
      let n = levels - 1 in
      let w = wide levels (t_levels some held) in
      let half = in_half side low (width n) sub.size sub.above sub.below in
      let l = large sub.size leaf leaf_in in
      placed.elsewhere p word
      (elim (out sub.size leaf half.0 (omega (arith, half.1, w)) (in_without q.node.size index sub.size leaf leaf_in)) [
        | inl x ↦ inl (omega arith)
        | inr (inl x) ↦ inr x
        | inr (inr (less, x)) ↦ absurd (omega arith)
      ])
      (λ b real e.
      let r = kid mid sub.size bin at low n leaf kids before large leaf_in leaf_tries b real in
      let c_in = kid_in mid sub.size bin at low n leaf kids before large leaf_in leaf_tries b real in
      let h = in_half b low (width n) r.size r.above r.below in
      let lk = large r.size (kids b) c_in in
      elim (out r.size (kids b) h.0 (omega (arith, h.1, w)) (in_without q.node.size index r.size (kids b) c_in)) [
        | inl x ↦ omega arith
        | inr (inl x) ↦ omega arith
        | inr (inr (less, x)) ↦ omega arith
      ])
      ∙ sub.words p word (λ m c a b other c_in. let h = in_half side low (width n) m a b in
      out m c h.0 (omega (arith, h.1, w)) (in_without q.node.size index m c c_in))
