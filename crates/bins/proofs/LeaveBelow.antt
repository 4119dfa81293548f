-- A chunk leaves a child of a node, in the words of the call.
use Rattle.std.proofs.Common.{◌≡◌, ◌≢◌, ℕ, ◌+◌, ◌-◌, ◌*◌, ◌<◌, ◌≤◌, ◌⊎◌, inl, inr, Bool, List, refl, sym, ap, subst, ◌∙◌, arith}
use Rattle.heap_memory.specs.declared.grant.Grant.{Grant}
use Rattle.heap_memory.specs.Words.{IsStored}
use Rattle.bins.specs.Index.{IsIn, removed, without_chunk, without_size}
use Rattle.bins.specs.Tries.{slot, low_at, width, IsTrie}
use Rattle.bins.specs.Below.{IsHeld, OnlyHeldChanges, HasLeft}
use Rattle.bins.proofs.Frame.{in_without, in_half, trie_kept}
use Rattle.bins.proofs.Reindexed.{trie_reindexed}
use Rattle.bins.proofs.Widths.{wide}
use Rattle.bins.proofs.Lists.{minus_other, without_other, later_in}
use Rattle.bins.proofs.Chunks.{same_or_not, one_size}
use Rattle.bins.proofs.Pulled.{in_minus}
use Rattle.bins.proofs.Opened.{Opened, closed, none_in, slot_at, halves_apart, turned, slot_low}
use Rattle.bins.proofs.Searching.{high_fits}
use Rattle.bins.proofs.Descent.{IsDescent}
use Rattle.bins.proofs.Taking.{o, t_at, t_levels, t_slot, t_word, t_no_slot, t_other, t_once, sub_held}
use Rattle.bins.proofs.Changed.{without_changed}

-- A chunk of an index is to leave a trie, below the node at its root, which has another size.
pub record LeavesBelow (regions : List Grant) (old : ℕ → ℕ) (index : ℕ → List ℕ) (bin parent low levels at size chunk : ℕ) (side : Bool)
    (half place child : ℕ) : Type 0 where
  pub some : 0 < at
  pub held : IsHeld regions old index bin parent low levels at
  pub chunk_in : IsIn chunk (index size)
  pub step : IsDescent old low levels at size side half place child

module _ {regions : List Grant} {old : ℕ → ℕ} {index : ℕ → List ℕ} {bin parent low levels at size chunk : ℕ} {side : Bool}
    {half place child : ℕ}
    (leaves : LeavesBelow regions old index bin parent low levels at size chunk side half place child) where
  abbrev pub q : Opened old index bin parent low (levels - 1) at
  q = o leaves.some leaves.held

  -- the index of the children, and where the range of the child begins
  abbrev pub rest : ℕ → List ℕ
  rest = without_size q.node.size index

  abbrev pub under : ℕ
  under = low_at side low (width (levels - 1))

  at_in : IsIn at (index q.node.size)
  at_in = t_at leaves.some leaves.held

  not_same : q.node.size ≢ size
  not_same is = leaves.step.other (q.node.head ∙ is)

  above : under ≤ size
  above = subst (λ h. low_at side low h ≤ size) leaves.step.half_is leaves.step.above

  below : size < under + width (levels - 1)
  below = subst (λ h. size < low_at side low h + h) leaves.step.half_is leaves.step.below

  child_at : child ≡ old (at + slot side)
  child_at = leaves.step.child_is ∙ ap old leaves.step.place_is

  pub b_in : IsIn chunk (rest size)
  b_in = subst (λ (cs : List ℕ). IsIn chunk cs) (sym (without_other q.node.size index size (λ e. not_same (sym e)))) leaves.chunk_in

  pub b_real : 0 < child
  b_real = elim (same_or_not child 0) [
    | inr real ↦ omega arith
    | inl zero ↦ absurd (subst (λ (cs : List ℕ). IsIn chunk cs)
        (none_in old rest bin at under (levels - 1) (sym (q.node.child_is side) ∙ (sym child_at ∙ zero)) (q.children side) size above below) b_in)
  ]

  pub b_fits : low_at side low half + width (levels - 1) ≤ low + width levels
  b_fits = let w = wide levels (t_levels leaves.some leaves.held) in let h = high_fits side low half in omega (arith, w, h, leaves.step.half_is)

  pub b_held : IsHeld regions old rest bin at (low_at side low half) (levels - 1) child
  b_held = subst (λ h. IsHeld regions old rest bin at (low_at side low h) (levels - 1) child) (sym leaves.step.half_is)
      (sub_held leaves.some leaves.held side child_at b_real)

  -- the words that name the children stay if nothing above the child is stored
  pub kids_kept : (mid : ℕ → ℕ) → OnlyHeldChanges regions rest (low_at side low half) (low_at side low half + width (levels - 1)) old mid →
      (b : Bool) → mid (at + slot b) ≡ old (at + slot b)
  kids_kept mid words b =
      let s = slot_at b in
      words (at + slot b) (t_slot leaves.some leaves.held b).word (λ n c above below c_in.
      let is_in = in_without q.node.size index n c c_in in
      let ln = leaves.held.large n c is_in in let la = leaves.held.large q.node.size at at_in in
      elim (leaves.held.chunks.apart n c q.node.size at is_in at_in (t_other leaves.some leaves.held n c at c_in at_in)) [
        | inl before ↦ inr (inl (omega (arith, s.1.1.1, s.1.1.0)))
        | inr behind ↦ inl (omega (arith, s.1.1.1, s.1.1.0))
      ])

  pub b_kept : (mid : ℕ → ℕ) {low' left : ℕ} → low' ≡ low_at side low half →
      ((index' : ℕ → List ℕ) → IsHeld regions old index' bin at low' (levels - 1) child → IsIn chunk (index' size) →
      HasLeft regions old mid index' bin at low' (levels - 1) size chunk left) → IsStored regions mid place child mid
  b_kept mid low_is left =
      let there = subst (λ l. IsHeld regions old rest bin at l (levels - 1) child) (sym low_is) b_held in
      let own = subst (λ l. OnlyHeldChanges regions rest l (l + width (levels - 1)) old mid) low_is (left rest there b_in).words in record {
        here = ap mid leaves.step.place_is ∙ (kids_kept mid own side ∙ sym child_at);
        elsewhere = λ p is far. refl;
      }

  -- the node and what stands below it, if the trie of the child has changed for its own index
  module _ (mid new : ℕ → ℕ) (left : ℕ)
      (trie_there : IsTrie mid (without_chunk size chunk rest) bin at under (levels - 1) left)
      (words_there : OnlyHeldChanges regions rest under (under + width (levels - 1)) old mid)
      (stored : IsStored regions mid (at + slot side) left new) where
    mid_kept : (m c : ℕ) → IsIn c (index m) → (m ≡ q.node.size) ⊎ (under ≤ m → m < under + width (levels - 1) → ⊥) →
        (k : ℕ) → 0 < k → 8 * k < 64 → mid (c + 8 * k) ≡ old (c + 8 * k)
    mid_kept m c c_in outside k some' few = words_there (c + 8 * k) (t_word leaves.some leaves.held m c k c_in some' few) (λ j d a b d_is.
        let d_in = in_without q.node.size index j d d_is in
        let lj = leaves.held.large j d d_in in let lm = leaves.held.large m c c_in in
        let apart : c ≢ d = λ same.
        let one : m ≡ j = one_size m j c leaves.held.chunks c_in (subst (λ x. IsIn x (index j)) (sym same) d_in) in
        elim outside [
          | inl s ↦ t_other leaves.some leaves.held j d d d_is (subst (λ x. IsIn d (index x)) (sym one ∙ s) d_in) refl
          | inr far ↦ far (omega arith) (omega arith)
        ] in
        elim (leaves.held.chunks.apart m c j d c_in d_in apart) [ inl x ↦ inl (omega arith) | inr x ↦ inr (inl (omega arith)) ])

    kept : (m c : ℕ) → IsIn c (index m) → (m ≡ q.node.size) ⊎ (under ≤ m → m < under + width (levels - 1) → ⊥) →
        (k : ℕ) → 0 < k → 8 * k < 64 → c + 8 * k ≢ at + slot side → new (c + 8 * k) ≡ old (c + 8 * k)
    kept m c c_in outside k some' few far =
        stored.elsewhere (c + 8 * k) (t_word leaves.some leaves.held m c k c_in some' few) far ∙ mid_kept m c c_in outside k some' few

    here_new : IsTrie new (without_size q.node.size (without_chunk size chunk index)) bin at under (levels - 1) left
    here_new =
        let s = q.node.size in
        let n = levels - 1 in
        let low2 = low_at side low (width n) in
        let now = trie_kept mid new bin (without_chunk size chunk (without_size s index)) at low2 n left
        (λ m a b c c_is k some' few. let c_in = in_minus size chunk (without_size s index) m c c_is in
        stored.elsewhere (c + 8 * k) (t_word leaves.some leaves.held m c k (in_without s index m c c_in) some' few)
        (t_no_slot leaves.some leaves.held side m c k (in_without s index m c c_in) (t_other leaves.some leaves.held m c at c_in at_in) few)) trie_there in
        trie_reindexed new bin (without_chunk size chunk (without_size s index))
        (without_size s (without_chunk size chunk index)) at low2 n left
        (λ m a b. without_changed (removed chunk) s size index m not_same) now

    opened_new : Opened new (without_chunk size chunk index) bin parent low (levels - 1) at
    opened_new =
        let s = q.node.size in
        let n = levels - 1 in
        let low2 = low_at side low (width n) in
        turned new (without_chunk size chunk index) q side left (minus_other size chunk index s not_same) kept stored.here here_new
        (λ m a b. without_changed (removed chunk) s size index m not_same
        ∙ minus_other size chunk (without_size s index) m (λ e. halves_apart side low (width n) m a b
        (subst (λ y. low2 ≤ y) (sym e) above) (subst (λ y. y < low2 + width n) (sym e) below)))
        (λ c c_in k few. t_no_slot leaves.some leaves.held side s c k (later_in c q.node.chunks c_in)
        (λ e. (t_once leaves.some leaves.held).0 (subst (λ y. IsIn y q.node.others) e c_in)) few)
        (λ m c c_in k few. t_no_slot leaves.some leaves.held side m c k (in_without s index m c c_in) (t_other leaves.some leaves.held m c at c_in at_in) few)

    pub one_trie : IsTrie new (without_chunk size chunk index) bin parent low levels at
    one_trie = closed levels (t_levels leaves.some leaves.held) opened_new

    pub one_words : OnlyHeldChanges regions index low (low + width levels) old new
    one_words p word out =
        let n = levels - 1 in
        let w = wide levels (t_levels leaves.some leaves.held) in
        let la = leaves.held.large q.node.size at at_in in
        let i = slot_at side in
        let low32 = slot_low side in
        stored.elsewhere p word (λ e. elim (out q.node.size at q.node.above (omega (arith, q.node.below, w)) at_in) [
          | inl x ↦ omega arith
          | inr (inl x) ↦ omega (arith, i.1.1.1, i.1.1.0)
          | inr (inr (less, x)) ↦ omega arith
        ])
        ∙ words_there p word (λ m c a b c_in. let h = in_half side low (width n) m a b in
        out m c h.0 (omega (arith, h.1, w)) (in_without q.node.size index m c c_in))

  module _ {mid new : ℕ → ℕ} {low' left : ℕ} (low_is : low' ≡ low_at side low half)
      (has_left : (index' : ℕ → List ℕ) → IsHeld regions old index' bin at low' (levels - 1) child → IsIn chunk (index' size) →
      HasLeft regions old mid index' bin at low' (levels - 1) size chunk left)
      (stored' : IsStored regions mid place left new) where
    stored : IsStored regions mid (at + slot side) left new
    stored = subst (λ p. IsStored regions mid p left new) leaves.step.place_is stored'

    low_same : low' ≡ under
    low_same = low_is ∙ ap (λ h. low_at side low h) leaves.step.half_is

    held_there : IsHeld regions old rest bin at low' (levels - 1) child
    held_there = subst (λ l. IsHeld regions old rest bin at l (levels - 1) child) (sym low_is) b_held

    trie_there : IsTrie mid (without_chunk size chunk rest) bin at under (levels - 1) left
    trie_there = subst (λ l. IsTrie mid (without_chunk size chunk rest) bin at l (levels - 1) left) low_same (has_left rest held_there b_in).trie

    words_there : OnlyHeldChanges regions rest under (under + width (levels - 1)) old mid
    words_there = subst (λ l. OnlyHeldChanges regions rest l (l + width (levels - 1)) old mid) low_same (has_left rest held_there b_in).words

    pub b_left : HasLeft regions old new index bin parent low levels size chunk at
    b_left = record { trie = one_trie mid new left trie_there words_there stored; words = one_words mid new left trie_there words_there stored }
