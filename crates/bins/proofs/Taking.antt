-- A leaf is taken out of a trie.
use Rattle.std.proofs.Common.{◌≡◌, ◌≢◌, ℕ, ◌+◌, ◌-◌, ◌*◌, ◌%◌, ◌<◌, ◌≤◌, ◌⊎◌, inl, inr, ◌==◌, Bool, true, false, List, [], ◌∷◌, refl, sym, ap, subst, ◌∙◌, arith}
use Rattle.std.specs.Prelude.{if◌then◌else◌}
use Rattle.heap_memory.specs.declared.grant.Grant.{Grant}
use Rattle.heap_memory.specs.Regions.{IsWordOf}
use Rattle.heap_memory.specs.Words.{IsStored}
use Rattle.dlmalloc_chunks.specs.Head.{size_of}
use Rattle.dlmalloc_chunks.specs.Chunk.{HasHead}
use Rattle.bins.specs.Index.{IsIn, AreDistinct, without_size}
use Rattle.bins.specs.Rings.{IsRing}
use Rattle.bins.specs.Tries.{slot, low_at, width, IsTrie}
use Rattle.bins.specs.Linked.{IsNoLink}
use Rattle.bins.specs.Stores.{IsWordPlace}
use Rattle.bins.specs.Below.{IsHeld}
use Rattle.bins.specs.Fits.{IsReadable, IsTakenOut, IsClearedIf}
use Rattle.bins.proofs.Frame.{in_without, in_half, trie_kept, linked_kept}
use Rattle.bins.proofs.Reindexed.{trie_reindexed}
use Rattle.bins.proofs.Widths.{wide, width_whole}
use Rattle.bins.proofs.Opened.{Opened, opened, closed, levels_some, slot_at, none_in, empty, halves_apart, turned, slot_low}
use Rattle.bins.proofs.Lists.{without_same, without_other, first_in, later_in}
use Rattle.bins.proofs.Chunks.{chunks_without, one_size, size_apart, chunk_place, words_apart}
use Rattle.bins.proofs.Searching.{none_both, s_head, s_slot}
use Rattle.bins.proofs.Changed.{without_changed}

-- the word of a child was cleared, or nothing was done
pub cleared_now : {regions : List Grant} {old new : ℕ → ℕ} {place : ℕ} → IsStored regions old place 0 new → IsClearedIf regions old place true new
cleared_now stored = record { cleared = λ e. stored.here; kept = λ e. absurd (cc); elsewhere = stored.elsewhere }

pub left_alone : (regions : List Grant) (old : ℕ → ℕ) (place : ℕ) → IsClearedIf regions old place false old
left_alone regions old place = record { cleared = λ e. absurd (cc); kept = λ e. refl; elsewhere = λ p is far. refl }

low_whole : (side : Bool) (low half : ℕ) → low % 16 ≡ 0 → half % 16 ≡ 0 → low_at side low half % 16 ≡ 0
low_whole false low half a b = a
low_whole true low half a b = omega arith

module _ {regions : List Grant} {old : ℕ → ℕ} {index : ℕ → List ℕ} {bin parent low levels at : ℕ} (some : 0 < at)
    (held : IsHeld regions old index bin parent low levels at) where
  pub reads : IsReadable regions old index low levels at
  reads = record { bin = bin; parent = parent; chunks = held.chunks; large = held.large; trie = held.trie }

  pub o : Opened old index bin parent low (levels - 1) at
  o = opened old index bin parent low levels at some held.trie

  pub t_levels : 0 < levels
  t_levels = levels_some old index bin parent low levels at some held.trie

  pub t_slot : (side : Bool) → IsWordPlace regions (at + slot side)
  t_slot = s_slot some reads

  pub t_head : HasHead regions at
  t_head = s_head some reads

  pub t_at : IsIn at (index o.node.size)
  t_at = first_in o.node.chunks

  pub t_here : {size : ℕ} → size_of (old (at + 8)) ≡ size → IsIn at (index size)
  t_here is = subst (λ s. IsIn at (index s)) (sym o.node.head ∙ is) t_at

  -- the chunks of the node's size are other chunks than those below it
  abbrev pub t_rest : ℕ → List ℕ
  t_rest = without_size o.node.size index

  pub t_other : (m c d : ℕ) → IsIn c (t_rest m) → IsIn d (index o.node.size) → c ≢ d
  t_other = size_apart held.chunks o.node.size

  pub t_once : AreDistinct (at ∷ o.node.others)
  t_once = subst (λ (cs : List ℕ). AreDistinct cs) o.node.chunks (held.chunks.once o.node.size)

  pub t_word : (m c k : ℕ) → IsIn c (index m) → 0 < k → 8 * k < 64 → IsWordOf regions (c + 8 * k)
  t_word m c k c_in some' few = (chunk_place held.chunks held.large m c k c_in some' few).word

  -- no word of another chunk is the node's word of a child
  pub t_no_slot : (side : Bool) (m c k : ℕ) → IsIn c (index m) → c ≢ at → 8 * k < 64 → c + 8 * k ≢ at + slot side
  t_no_slot side m c k c_in far few =
      let p = slot_at side in
      subst (λ x. c + 8 * k ≢ at + x) (sym p.1.1.1) (words_apart held.chunks held.large m c o.node.size at k (8 * p.0) c_in t_at far few p.1.1.0)

  -- where the range of a child begins
  abbrev pub t_low : Bool → ℕ
  t_low side = low_at side low (width (levels - 1))

  range : low + 2 * width (levels - 1) ≡ low + width levels
  range = ap (λ w. low + w) (sym (wide levels t_levels))

  -- ---- the node is a leaf
  pub all_taken : old (at + 32) ≡ 0 → old (at + 40) ≡ 0 → IsTakenOut regions old old index bin parent low levels at at
  all_taken no_left no_right =
      let w = width (levels - 1) in
      let left = none_in old t_rest bin at low (levels - 1) (sym (o.node.child_is false) ∙ no_left) (o.children false) in
      let right = none_in old t_rest bin at (low + w) (levels - 1) (sym (o.node.child_is true) ∙ no_right) (o.children true) in
      record {
        size = o.node.size;
        others = o.node.others;
        above = o.node.above;
        below = omega (arith, o.node.below, range);
        chunks = o.node.chunks;
        ring = o.node.ring;
        left = inl (refl, empty old t_rest bin parent low levels (λ m a b. none_both t_rest low (low + w) (low + w + w) left right m a (omega (arith, range))));
        words = λ place word out. refl;
      }

  -- ---- the leaf stands below a child
  module _ (side : Bool) {child : ℕ} (child_is : child ≡ old (at + slot side)) (real : 0 < child) where
    sub_trie : IsTrie old t_rest bin at (t_low side) (levels - 1) child
    sub_trie = subst (λ x. IsTrie old t_rest bin at (t_low side) (levels - 1) x) (sym (child_is ∙ o.node.child_is side)) (o.children side)

    pub sub_held : IsHeld regions old t_rest bin at (t_low side) (levels - 1) child
    sub_held =
        let deep : 0 < levels - 1 = levels_some old t_rest bin at (t_low side) (levels - 1) child real sub_trie in
        let w = wide (levels - 1) deep in
        let v = width_whole (levels - 1 - 1) in
        record {
          chunks = chunks_without o.node.size held.chunks;
          large = λ m c is. held.large m c (in_without o.node.size index m c is);
          trie = sub_trie;
          whole = low_whole side low (width (levels - 1)) held.whole (omega (arith, w, v));
        }

    module _ {mid new : ℕ → ℕ} {leaf place : ℕ} {is : Bool} (place_is : place ≡ at + slot side)
        (sub : IsTakenOut regions old mid t_rest bin at (t_low side) (levels - 1) child leaf)
        (cleared : IsClearedIf regions mid place is new) (yes_is : leaf ≡ child → is ≡ true) (no_is : leaf ≢ child → is ≡ false) where
      apart : sub.size ≢ o.node.size
      apart e = let none = ap t_rest e ∙ without_same o.node.size index in let some' = sub.chunks in cc

      leaf_chunks : index sub.size ≡ leaf ∷ sub.others
      leaf_chunks = sym (without_other o.node.size index sub.size apart) ∙ sub.chunks

      pub leaf_not_at : leaf ≢ at
      leaf_not_at e = apart (one_size sub.size o.node.size at held.chunks (subst (λ (cs : List ℕ). IsIn at cs) (sym leaf_chunks) (inl (sym e))) t_at)

      -- a word of a chunk is no link of another
      no_link : (m c j d k : ℕ) → IsIn c (index m) → IsIn d (index j) → c ≢ d → 0 < k → 8 * k < 64 → IsNoLink j d (c + 8 * k)
      no_link m c j d k c_in d_in other some' few =
          let lm = held.large m c c_in in let lj = held.large j d d_in in
          elim (held.chunks.apart m c j d c_in d_in other) [ inl below ↦ inl (omega arith) | inr above ↦ inr (inl (omega arith)) ]

      -- what the call for the child leaves
      mid_kept : (m c : ℕ) → IsIn c (index m) → (m ≡ o.node.size) ⊎ (t_low side ≤ m → m < t_low side + width (levels - 1) → ⊥) →
          (k : ℕ) → 0 < k → 8 * k < 64 → mid (c + 8 * k) ≡ old (c + 8 * k)
      mid_kept m c c_in outside k some' few = sub.words (c + 8 * k) (t_word m c k c_in some' few) (λ j d a b other d_is.
          let d_in = in_without o.node.size index j d d_is in
          no_link m c j d k c_in d_in (λ same.
          let one : m ≡ j = one_size m j c held.chunks c_in (subst (λ x. IsIn x (index j)) (sym same) d_in) in
          elim outside [
            | inl s ↦ t_other j d d d_is (subst (λ x. IsIn d (index x)) (sym one ∙ s) d_in) refl
            | inr far ↦ far (omega arith) (omega arith)
          ]) some' few)

      kept : (m c : ℕ) → IsIn c (index m) → (m ≡ o.node.size) ⊎ (t_low side ≤ m → m < t_low side + width (levels - 1) → ⊥) →
          (k : ℕ) → 0 < k → 8 * k < 64 → c + 8 * k ≢ at + slot side → new (c + 8 * k) ≡ old (c + 8 * k)
      kept m c c_in outside k some' few other =
          cleared.elsewhere (c + 8 * k) (t_word m c k c_in some' few) (λ e. other (e ∙ place_is)) ∙ mid_kept m c c_in outside k some' few

      -- the child's word stays until it is cleared
      mid_place : mid (at + slot side) ≡ child
      mid_place = let p = slot_at side in
          subst (λ x. mid (at + x) ≡ old (at + x)) (sym p.1.1.1) (mid_kept o.node.size at t_at (inl refl) p.0 p.1.0 p.1.1.0) ∙ sym child_is

      ring_word : (c k : ℕ) → IsIn c (leaf ∷ sub.others) → 0 < k → 8 * k < 64 → new (c + 8 * k) ≡ mid (c + 8 * k)
      ring_word c k c_is some' few =
          let c_in : IsIn c (index sub.size) = subst (λ (cs : List ℕ). IsIn c cs) (sym leaf_chunks) c_is in
          cleared.elsewhere (c + 8 * k) (t_word sub.size c k c_in some' few)
          (λ e. t_no_slot side sub.size c k c_in (λ same. apart (one_size sub.size o.node.size at held.chunks
          (subst (λ x. IsIn x (index sub.size)) same c_in) t_at)) few (e ∙ place_is))

      ring_new : IsRing new leaf (new (leaf + 24)) (new (leaf + 16)) sub.others
      ring_new = record {
        begins = ring_word leaf 3 (inl refl) (omega arith) (omega arith) ∙ sub.ring.begins;
        ends = ring_word leaf 2 (inl refl) (omega arith) (omega arith) ∙ sub.ring.ends;
        linked = linked_kept mid new leaf sub.others leaf (λ c is_in k some' few. ring_word c k (inr is_in) some' (omega arith)) sub.ring.linked;
      }

      left_over : (x : ℕ) × ((new (at + slot side) ≡ x) × IsTrie mid (without_size sub.size t_rest) bin at (t_low side) (levels - 1) x)
      left_over = elim sub.left [
        | inl (same, trie) ↦ (0, (ap new (sym place_is) ∙ cleared.cleared (yes_is same), trie))
        | inr (other, trie) ↦ (child, (ap new (sym place_is) ∙ (cleared.kept (no_is other) ∙ (ap mid place_is ∙ mid_place)), trie))
      ]

      opened_new : Opened new (without_size sub.size index) bin parent low (levels - 1) at
      opened_new =
          let s = o.node.size in
          let n = levels - 1 in
          let low' = low_at side low (width n) in
          let x = left_over.0 in
          let now = trie_kept mid new bin (without_size sub.size (without_size s index)) at low' n x
          (λ m a b c c_is k some' few. let c_in = in_without sub.size (without_size s index) m c c_is in
          cleared.elsewhere (c + 8 * k) (t_word m c k (in_without s index m c c_in) some' few)
          (λ e. t_no_slot side m c k (in_without s index m c c_in) (t_other m c at c_in t_at) few (e ∙ place_is))) left_over.1.1 in
          let here = trie_reindexed new bin (without_size sub.size (without_size s index))
          (without_size s (without_size sub.size index)) at low' n x (λ m a b.
          without_changed (λ cs. []) s sub.size index m (λ e. apart (sym e))) now in
          turned new (without_size sub.size index) o side x (without_other sub.size index s (λ e. apart (sym e))) kept left_over.1.0 here
          (λ m a b. ap (λ (cs : List ℕ). if m == s then [] else cs) (without_other sub.size index m (λ e. halves_apart side low (width n) m a b
          (subst (λ y. low' ≤ y) (sym e) sub.above) (subst (λ y. y < low' + width n) (sym e) sub.below))))
          (λ c c_in k few. t_no_slot side s c k (later_in c o.node.chunks c_in) (λ e. t_once.0 (subst (λ y. IsIn y o.node.others) e c_in)) few)
          (λ m c c_in k few. t_no_slot side m c k (in_without s index m c c_in) (t_other m c at c_in t_at) few)

      pub child_taken : IsTakenOut regions old new index bin parent low levels at leaf
      child_taken =
          let half = in_half side low (width (levels - 1)) sub.size sub.above sub.below in
          record {
            size = sub.size;
            others = sub.others;
            above = half.0;
            below = omega (arith, half.1, range);
            chunks = leaf_chunks;
            ring = ring_new;
            left = inr (leaf_not_at, closed levels t_levels opened_new);
            words = λ p word out.
                let at_no = out o.node.size at o.node.above (omega (arith, o.node.below, range)) (λ e. apart (sym e)) t_at in
                let la = held.large o.node.size at t_at in
                let i = slot_at side in
                let low32 = slot_low side in
                cleared.elsewhere p word (λ e. elim at_no [
                  | inl x ↦ omega (arith, place_is)
                  | inr (inl x) ↦ omega
                      (arith, place_is, i.1.1.1, i.1.1.0)
                  | inr (inr (less, x)) ↦ omega arith
                ])
                ∙ sub.words p word (λ m c a b other c_in. let h = in_half side low (width (levels - 1)) m a b in
                out m c h.0 (omega (arith, h.1, range)) other (in_without o.node.size index m c c_in));
          }
