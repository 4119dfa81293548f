-- A trie that is not empty, as its node and what stands below.
use Rattle.std.proofs.Common.{◌≡◌, ◌≢◌, ℕ, zero, suc, ◌+◌, ◌-◌, ◌*◌, ◌<◌, ◌≤◌, ◌⊎◌, inl, inr, Bool, true, false, not, List, [], ◌∷◌, ◌++◌, refl, sym, ap, subst, ◌∙◌, arith}
use Rattle.bins.specs.Index.{IsIn, with_chunk, without_size, IsNone}
use Rattle.bins.specs.Tries.{slot, low_at, width, IsNode, IsTrie}
use Rattle.bins.proofs.Frame.{linked_kept, trie_kept, in_without}
use Rattle.bins.proofs.Reindexed.{AreAlike, trie_reindexed}
use Rattle.bins.proofs.Lists.{with_other, first_in, later_in}
use Rattle.dlmalloc_chunks.specs.Head.{size_of}
use Rattle.bins.proofs.Changed.{without_changed, without_unchanged}

pub record Opened (words : ℕ → ℕ) (index : ℕ → List ℕ) (bin parent low n at : ℕ) : Type 0 where
  pub node : IsNode words index bin parent low (low + 2 * width n) at
  pub children : (side : Bool) → IsTrie words (without_size node.size index) bin at (low_at side low (width n)) n (node.child side)

less_one : (n : ℕ) → n ≡ suc n - 1
less_one n = omega arith

pub levels_some : (words : ℕ → ℕ) (index : ℕ → List ℕ) (bin parent low levels at : ℕ) → 0 < at →
    IsTrie words index bin parent low levels at → 0 < levels
levels_some words index bin parent low zero at some h = let none = h.0 in absurd (omega arith)
levels_some words index bin parent low (suc n) at some h = omega arith

pub opened : (words : ℕ → ℕ) (index : ℕ → List ℕ) (bin parent low levels at : ℕ) → 0 < at →
    IsTrie words index bin parent low levels at → Opened words index bin parent low (levels - 1) at
opened words index bin parent low zero at some h = let none = h.0 in absurd (omega arith)
opened words index bin parent low (suc n) at some (inl none) = let zero = none.0 in absurd (omega arith)
opened words index bin parent low (suc n) at some (inr (node, children)) =
    subst (λ m. Opened words index bin parent low m at) (less_one n) (record { node = node; children = children })

pub closed : {words : ℕ → ℕ} {index : ℕ → List ℕ} {bin parent low : ℕ} (levels : ℕ) {at : ℕ} → 0 < levels →
    Opened words index bin parent low (levels - 1) at → IsTrie words index bin parent low levels at
closed zero some h = absurd (omega arith)
closed {words = words} {index = index} {bin = bin} {parent = parent} {low = low} (suc n) {at = at} some h =
    let h' : Opened words index bin parent low n at = subst (λ m. Opened words index bin parent low m at) (sym (less_one n)) h in
    inr (h'.node, h'.children)

-- the empty trie has no chunk
pub none_in : (words : ℕ → ℕ) (index : ℕ → List ℕ) (bin parent low levels : ℕ) {at : ℕ} → at ≡ 0 →
    IsTrie words index bin parent low levels at → IsNone index low (low + width levels)
none_in words index bin parent low zero is h = h.1
none_in words index bin parent low (suc n) is (inl none) = none.1
none_in words index bin parent low (suc n) is (inr (node, children)) = let some = node.some in absurd (omega arith)

pub empty : (words : ℕ → ℕ) (index : ℕ → List ℕ) (bin parent low levels : ℕ) → IsNone index low (low + width levels) →
    IsTrie words index bin parent low levels 0
empty words index bin parent low zero none = (refl, none)
empty words index bin parent low (suc n) none = inl (refl, none)

-- ---- sides

pub put : Bool → ℕ → ℕ → Bool → ℕ
put false here there false = here
put false here there true = there
put true here there false = there
put true here there true = here

pub put_here : (side : Bool) (here there : ℕ) → put side here there side ≡ here
unfolding put
put_here false here there = refl
put_here true here there = refl

pub put_there : (side : Bool) (here there : ℕ) → put side here there (not side) ≡ there
unfolding put
put_there false here there = refl
put_there true here there = refl

pub on_sides : (side : Bool) (P : Bool → Type 0) → P side → P (not side) → (b : Bool) → P b
on_sides false P here there false = here
on_sides false P here there true = there
on_sides true P here there false = there
on_sides true P here there true = here

pub halves_apart : (side : Bool) (low half n : ℕ) → low_at (not side) low half ≤ n → n < low_at (not side) low half + half →
    low_at side low half ≤ n → n < low_at side low half + half → ⊥
halves_apart false low half n a b c d = omega arith
halves_apart true low half n a b c d = omega arith

pub slots_apart : (side : Bool) → slot (not side) ≢ slot side
slots_apart false = λ is. omega arith
slots_apart true = λ is. omega arith

-- the place of a slot among the words of a chunk
pub slot_at : (side : Bool) → (k : ℕ) × ((0 < k) × ((8 * k < 64) × (slot side ≡ 8 * k)))
slot_at false = (4, (omega arith, (omega arith, refl)))
slot_at true = (5, (omega arith, (omega arith, refl)))

pub slot_low : (side : Bool) → 32 ≤ slot side
slot_low false = omega arith
slot_low true = omega arith

-- ---- a node of which one child changes

module _ {old : ℕ → ℕ} (new : ℕ → ℕ) {index : ℕ → List ℕ} (index' : ℕ → List ℕ) {bin parent low n at : ℕ}
    (o : Opened old index bin parent low n at) (side : Bool) (child : ℕ)
    (node_same : index' o.node.size ≡ index o.node.size)
    (kept : (m c : ℕ) → IsIn c (index m) → (m ≡ o.node.size) ⊎ (low_at side low (width n) ≤ m → m < low_at side low (width n) + width n → ⊥) →
    (k : ℕ) → 0 < k → 8 * k < 64 → c + 8 * k ≢ at + slot side → new (c + 8 * k) ≡ old (c + 8 * k))
    (named : new (at + slot side) ≡ child)
    (held : IsTrie new (without_size o.node.size index') bin at (low_at side low (width n)) n child)
    (alike : AreAlike (without_size o.node.size index) (without_size o.node.size index') (low_at (not side) low (width n))
    (low_at (not side) low (width n) + width n))
    (alone : (c : ℕ) → IsIn c o.node.others → (k : ℕ) → 8 * k < 64 → c + 8 * k ≢ at + slot side)
    (others_apart : (m c : ℕ) → IsIn c (without_size o.node.size index m) → (k : ℕ) → 8 * k < 64 → c + 8 * k ≢ at + slot side) where
  -- the index of the children, and where their ranges begin
  abbrev rest : ℕ → List ℕ
  rest = without_size o.node.size index

  abbrev under : Bool → ℕ
  under side = low_at side low (width n)

  own_word : (k : ℕ) → 0 < k → 8 * k < 64 → 8 * k ≢ slot side → new (at + 8 * k) ≡ old (at + 8 * k)
  own_word k some few not = kept o.node.size at (first_in o.node.chunks) (inl refl) k some few (λ is. not (omega arith))

  no_slot : (k : ℕ) → k ≢ 4 → k ≢ 5 → 8 * k ≢ slot side
  no_slot k not4 not5 = elim side as (λ b. 8 * k ≢ slot b) [ false ↦ (λ is. not4 (omega arith)) | true ↦ (λ is. not5 (omega arith)) ]

  turned_node : IsNode new index' bin parent low (low + 2 * width n) at
  turned_node =
      let d = o.node in
      let word : (k : ℕ) → 0 < k → 8 * k < 64 → k ≢ 4 → k ≢ 5 → new (at + 8 * k) ≡ old (at + 8 * k) =
      λ k some few not4 not5. own_word k some few (no_slot k not4 not5) in
      let there : new (at + slot (not side)) ≡ d.child (not side) =
      let p = slot_at (not side) in
      let same = own_word p.0 p.1.0 p.1.1.0 (λ is. slots_apart side (p.1.1.1 ∙ is)) in
      subst (λ x. new (at + x) ≡ old (at + x)) (sym p.1.1.1) same ∙ d.child_is (not side) in
      record {
        size = d.size;
        others = d.others;
        child = put side child (d.child (not side));
        some = d.some;
        above = d.above;
        below = d.below;
        chunks = node_same ∙ d.chunks;
        head = ap size_of (word 1 (omega arith) (omega arith) (λ is. omega arith) (λ is. omega arith)) ∙ d.head;
        ring = record {
          begins = word 3 (omega arith) (omega arith) (λ is. omega arith) (λ is. omega arith) ∙ d.ring.begins;
          ends = word 2 (omega arith) (omega arith) (λ is. omega arith) (λ is. omega arith) ∙ d.ring.ends;
          linked = linked_kept old new at d.others at (λ c is k some few.
              kept d.size c (later_in c d.chunks is) (inl refl) k some (omega arith) (alone c is k (omega arith)))
              d.ring.linked;
        };
        child_is = on_sides side (λ b. new (at + slot b) ≡ put side child (d.child (not side)) b)
            (named ∙ sym (put_here side child (d.child (not side))))
            (there ∙ sym (put_there side child (d.child (not side))));
        parent_is = word 6 (omega arith) (omega arith) (λ is. omega arith) (λ is. omega arith) ∙ d.parent_is;
        bin_is = word 7 (omega arith) (omega arith) (λ is. omega arith) (λ is. omega arith) ∙ d.bin_is;
      }

  pub turned : Opened new index' bin parent low n at
  unfolding turned_node
  turned =
      let s = o.node.size in
      let stays = trie_kept old new bin rest at (under (not side)) n (o.node.child (not side))
      (λ m low' high' c is k some few. kept m c (in_without s index m c is)
      (inr (halves_apart side low (width n) m low' high')) k some few (others_apart m c is k few))
      (o.children (not side)) in
      let there = trie_reindexed new bin rest (without_size s index') at (under (not side)) n (o.node.child (not side)) alike stays in
      record {
        node = turned_node;
        children = on_sides side (λ b. IsTrie new (without_size s index') bin at (under b) n (put side child (o.node.child (not side)) b))
            (subst (λ x. IsTrie new (without_size s index') bin at (under side) n x) (sym (put_here side child (o.node.child (not side)))) held)
            (subst (λ x. IsTrie new (without_size s index') bin at (under (not side)) n x) (sym (put_there side child (o.node.child (not side)))) there);
      }

-- ---- the same, if the child holds a chunk more
module _ {old : ℕ → ℕ} (new : ℕ → ℕ) {index : ℕ → List ℕ} {bin parent low n at : ℕ} (size chunk : ℕ)
    (o : Opened old index bin parent low n at) (side : Bool) (child : ℕ)
    (apart : o.node.size ≢ size) (above : low_at side low (width n) ≤ size) (below : size < low_at side low (width n) + width n)
    (kept : (m c : ℕ) → IsIn c (index m) → (m ≡ o.node.size) ⊎ (low_at side low (width n) ≤ m → m < low_at side low (width n) + width n → ⊥) →
    (k : ℕ) → 0 < k → 8 * k < 64 → c + 8 * k ≢ at + slot side → new (c + 8 * k) ≡ old (c + 8 * k))
    (named : new (at + slot side) ≡ child)
    (held : IsTrie new (with_chunk size chunk (without_size o.node.size index)) bin at (low_at side low (width n)) n child)
    (alone : (c : ℕ) → IsIn c o.node.others → (k : ℕ) → 8 * k < 64 → c + 8 * k ≢ at + slot side)
    (others_apart : (m c : ℕ) → IsIn c (without_size o.node.size index m) → (k : ℕ) → 8 * k < 64 → c + 8 * k ≢ at + slot side) where
  pub rebuilt : Opened new (with_chunk size chunk index) bin parent low n at
  rebuilt =
      let s = o.node.size in
      let here = trie_reindexed new bin (with_chunk size chunk (without_size s index))
      (without_size s (with_chunk size chunk index)) at (low_at side low (width n)) n child
      (λ m a b. without_changed (λ (cs : List ℕ). cs ++ chunk ∷ []) s size index m apart) held in
      turned new (with_chunk size chunk index) o side child (with_other size chunk index s apart) kept named here
      (λ m a b. without_unchanged (λ (cs : List ℕ). cs ++ chunk ∷ []) s size index m (λ is. absurd (halves_apart side low (width n) m a b
      (subst (λ x. low_at side low (width n) ≤ x) (sym is) above) (subst (λ x. x < low_at side low (width n) + width n) (sym is) below))))
      alone others_apart
