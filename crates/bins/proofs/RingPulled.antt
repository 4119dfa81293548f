-- A chunk that is not the oldest leaves the ring of a trie's node.
use Rattle.std.proofs.Common.{◌≡◌, ◌≢◌, ℕ, ◌+◌, ◌*◌, ◌<◌, ◌≤◌, ◌⊎◌, inl, inr, Bool, true, false, List, ◌∷◌, ◌++◌, sym, ap, subst, ◌∙◌, arith}
use Rattle.heap_memory.specs.declared.grant.Grant.{Grant}
use Rattle.dlmalloc_chunks.specs.Head.{size_of}
use Rattle.bins.specs.Index.{IsIn, AreDistinct, removed, without_chunk, without_size}
use Rattle.bins.specs.Rings.{IsRing}
use Rattle.bins.specs.Tries.{slot, low_at, width}
use Rattle.bins.specs.Linked.{AreChunks}
use Rattle.bins.specs.Stores.{HasPulled}
use Rattle.bins.specs.Below.{OnlyHeldChanges}
use Rattle.bins.proofs.Frame.{trie_kept, in_without}
use Rattle.bins.proofs.Reindexed.{trie_reindexed}
use Rattle.bins.proofs.Lists.{apart, in_front, in_back, removed_at, minus_same, first_in, later_in}
use Rattle.bins.proofs.Links.{linked_without}
use Rattle.bins.proofs.Chunks.{same_or_not, size_apart, chunk_place, words_apart}
use Rattle.bins.proofs.SmallBins.{last_is}
use Rattle.bins.proofs.Pulled.{Between, between, first_is, first_pulled, last_pulled}
use Rattle.bins.proofs.Opened.{Opened}
use Rattle.bins.proofs.Changed.{without_unchanged}

module _ {regions : List Grant} {old : ℕ → ℕ} {index : ℕ → List ℕ} {bin parent low n at : ℕ} (chunk : ℕ) {prev next : ℕ}
    (chunks : AreChunks regions old index) (large : (m c : ℕ) → IsIn c (index m) → 256 ≤ m) (o : Opened old index bin parent low n at)
    (is_in : IsIn chunk o.node.others) (prev_at : prev ≡ old (chunk + 16)) (next_at : next ≡ old (chunk + 24)) where
  -- the index of the children, and where their ranges begin
  abbrev rest : ℕ → List ℕ
  rest = without_size o.node.size index

  abbrev under : Bool → ℕ
  under side = low_at side low (width n)

  once : AreDistinct (at ∷ o.node.others)
  once = subst (λ (cs : List ℕ). AreDistinct cs) o.node.chunks (chunks.once o.node.size)

  place : Between old o.node.others prev chunk next at (old (at + 24)) (old (at + 16))
  place = between chunk is_in once.1 o.node.ring prev_at next_at

  in_others : (c : ℕ) → IsIn c o.node.others → IsIn c (index o.node.size)
  in_others c is = later_in c o.node.chunks is

  at_in : IsIn at (index o.node.size)
  at_in = first_in o.node.chunks

  from_front : (c : ℕ) → IsIn c place.front → IsIn c o.node.others
  from_front c is = subst (λ (cs : List ℕ). IsIn c cs) (sym place.is) (in_front c place.front (chunk ∷ place.back) is)

  from_back : (c : ℕ) → IsIn c place.back → IsIn c o.node.others
  from_back c is = subst (λ (cs : List ℕ). IsIn c cs) (sym place.is) (in_back c place.front (chunk ∷ place.back) (inr is))

  prev_of : (prev ≡ at) ⊎ IsIn prev place.front
  prev_of = elim (last_is at prev place.front place.prev_is) [ inl none ↦ inl none.1 | inr there ↦ inr there ]

  next_of : (next ≡ at) ⊎ IsIn next place.back
  next_of = elim (first_is at next place.back place.next_is) [ inl none ↦ inl none.1 | inr there ↦ inr there ]

  pub prev_in : IsIn prev (index o.node.size)
  prev_in = elim prev_of [ inl is ↦ subst (λ c. IsIn c (index o.node.size)) (sym is) at_in | inr is ↦ in_others prev (from_front prev is) ]

  pub next_in : IsIn next (index o.node.size)
  next_in = elim next_of [ inl is ↦ subst (λ c. IsIn c (index o.node.size)) (sym is) at_in | inr is ↦ in_others next (from_back next is) ]

  not_at : (c : ℕ) → IsIn c o.node.others → c ≢ at
  not_at c is same = once.0 (subst (λ x. IsIn x o.node.others) same is)

  pub pulled_apart : prev + 24 ≢ next + 16
  pulled_apart e = let p = chunks.each o.node.size prev prev_in in let n = chunks.each o.node.size next next_in in omega (arith, p.aligned, n.aligned)

  prev_real : prev ≢ 0
  prev_real e = let c = chunks.each o.node.size prev prev_in in omega (arith, c.low)

  next_real : next ≢ 0
  next_real e = let c = chunks.each o.node.size next next_in in omega (arith, c.low)

  -- of a chunk of the ring both sides of the one that leaves are two
  front_not_next : (c : ℕ) → IsIn c place.front → c ≢ next
  front_not_next c is same = elim next_of [
    | inl end ↦ not_at c (from_front c is) (same ∙ end)
    | inr there ↦ apart c place.front (chunk ∷ place.back) place.distinct is (inr (subst (λ x. IsIn x place.back) (sym same) there))
  ]

  back_not_prev : (c : ℕ) → IsIn c place.back → c ≢ prev
  back_not_prev c is same = elim prev_of [
    | inl end ↦ not_at c (from_back c is) (same ∙ end)
    | inr there ↦ apart c place.front (chunk ∷ place.back) place.distinct (subst (λ x. IsIn x place.front) (sym same) there) (inr is)
  ]

  index_less : without_chunk o.node.size chunk index o.node.size ≡ at ∷ (place.front ++ place.back)
  index_less = minus_same o.node.size chunk index ∙ (ap (λ (cs : List ℕ). removed chunk cs) (o.node.chunks ∙ ap (λ (cs : List ℕ). at ∷ cs) place.is)
      ∙ removed_at chunk (at ∷ place.front) place.back (subst (λ (cs : List ℕ). AreDistinct (at ∷ cs)) place.is once))

  module _ {new : ℕ → ℕ} (pulled : HasPulled regions old prev next 0 new) where
    pub pulled_word : (m c k : ℕ) → IsIn c (index m) → 0 < k → 8 * k < 64 → (c ≡ prev → k ≢ 3) → (c ≡ next → k ≢ 2) →
        new (c + 8 * k) ≡ old (c + 8 * k)
    pulled_word m c k c_in some few no_prev no_next =
        pulled.elsewhere (c + 8 * k) (chunk_place chunks large m c k c_in some few).word
        (λ real e. elim (same_or_not c prev) [
          | inl same ↦ no_prev same (omega arith)
          | inr other ↦ words_apart chunks large
              m c o.node.size prev k 24 c_in prev_in other few (omega arith) e
        ])
        (λ real e. elim (same_or_not c next) [
          | inl same ↦ no_next same (omega arith)
          | inr other ↦ words_apart chunks large
              m c o.node.size next k 16 c_in next_in other few (omega arith) e
        ])

    ring_less : IsRing new at (new (at + 24)) (new (at + 16)) (place.front ++ place.back)
    ring_less =
        let p = place in let s = o.node.size in
        record {
          begins = first_pulled at chunk p.front p.back (new (at + 24)) p.first_is p.prev_is p.next_is
              (λ is. not_at prev (from_front prev is)) (λ same. ap (λ x. new (x + 24)) (sym same) ∙ pulled.front prev_real)
              (λ other. pulled_word s at 3 at_in (omega arith) (omega arith) (λ e k. other (sym e)) (λ e k. omega arith));
          ends = last_pulled at chunk p.front p.back (new (at + 16)) p.last_is p.prev_is p.next_is
              (λ is. not_at next (from_back next is)) (λ same. ap (λ x. new (x + 16)) (sym same) ∙ pulled.back next_real)
              (λ other. pulled_word s at 2 at_in (omega arith) (omega arith) (λ e k. omega arith) (λ e k. other (sym e)));
          linked = linked_without old new at p.front chunk p.back p.distinct
              (λ c is. pulled_word s c 2 (in_others c (from_front c is)) (omega arith) (omega arith) (λ e k. omega arith) (λ e k. front_not_next c is e))
              (λ c is other. pulled_word s c 3 (in_others c (from_front c is)) (omega arith) (omega arith) (λ e k. other (e ∙ p.prev_is)) (λ e k. omega arith))
              (λ c is same. ap (λ x. new (x + 24)) (same ∙ sym p.prev_is) ∙ (pulled.front prev_real ∙ p.next_is))
              (λ c is. pulled_word s c 3 (in_others c (from_back c is)) (omega arith) (omega arith) (λ e k. back_not_prev c is e) (λ e k. omega arith))
              (λ c is other. pulled_word s c 2 (in_others c (from_back c is)) (omega arith) (omega arith) (λ e k. omega arith) (λ e k. other (e ∙ p.next_is)))
              (λ c is same. ap (λ x. new (x + 16)) (same ∙ sym p.next_is) ∙ (pulled.back next_real ∙ p.prev_is))
              p.linked;
        }

    pub pulled_opened : Opened new (without_chunk o.node.size chunk index) bin parent low n at
    pulled_opened =
        let d = o.node in
        let own : (k : ℕ) → 0 < k → 8 * k < 64 → k ≢ 2 → k ≢ 3 → new (at + 8 * k) ≡ old (at + 8 * k) =
        λ k some few not2 not3. pulled_word d.size at k at_in some few (λ e. not3) (λ e. not2) in
        record {
          node = record {
            size = d.size;
            others = place.front ++ place.back;
            child = d.child;
            some = d.some;
            above = d.above;
            below = d.below;
            chunks = index_less;
            head = ap size_of (own 1 (omega arith) (omega arith) (λ e. omega arith) (λ e. omega arith)) ∙ d.head;
            ring = ring_less;
            child_is = λ side. elim side as (λ s. new (at + slot s) ≡ d.child s) [
              | false ↦ own 4 (omega arith) (omega arith) (λ e. omega arith) (λ e. omega arith) ∙ d.child_is false
              | true ↦ own 5 (omega arith) (omega arith) (λ e. omega arith) (λ e. omega arith) ∙ d.child_is true
            ];
            parent_is = own 6 (omega arith) (omega arith) (λ e. omega arith) (λ e. omega arith) ∙ d.parent_is;
            bin_is = own 7 (omega arith) (omega arith) (λ e. omega arith) (λ e. omega arith) ∙ d.bin_is;
          };
          children = λ side.
              let stays = trie_kept old new bin rest at (under side) n (d.child side)
              (λ m a b c is k some few. pulled_word m c k (in_without d.size index m c is) some few
              (λ e. absurd (size_apart chunks d.size m c prev is prev_in e))
              (λ e. absurd (size_apart chunks d.size m c next is next_in e))) (o.children side) in
              trie_reindexed new bin rest (without_size d.size (without_chunk d.size chunk index)) at (under side) n (d.child side)
              (λ m a b. without_unchanged (removed chunk) d.size d.size index m (λ is. is)) stays;
        }

    pub pulled_words : OnlyHeldChanges regions index low (low + 2 * width n) old new
    pulled_words p word out =
        let d = o.node in
        let l = large d.size at at_in in
        pulled.elsewhere p word
        (λ real e. elim (out d.size prev d.above d.below prev_in) [ inl x ↦ omega arith | inr (inl x) ↦ omega arith | inr (inr (less, x)) ↦ omega arith ])
        (λ real e. elim (out d.size next d.above d.below next_in) [ inl x ↦ omega arith | inr (inl x) ↦ omega arith | inr (inr (less, x)) ↦ omega arith ])
