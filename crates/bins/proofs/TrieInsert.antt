-- A chunk is put into a trie.
use Rattle.std.proofs.Common.{◌≡◌, ◌≢◌, ℕ, zero, suc, ◌+◌, ◌*◌, ◌%◌, ◌<◌, ◌≤◌, ◌⊎◌, inl, inr, Bool, true, false, not, List, [], ◌∷◌, ◌++◌, refl, sym, ap, subst, ◌∙◌, arith}
use Rattle.heap_memory.specs.declared.grant.Grant.{Grant}
use Rattle.dlmalloc_chunks.specs.Head.{size_of}
use Rattle.bins.specs.Index.{IsIn, AreDistinct, with_chunk, without_size, IsNone}
use Rattle.bins.specs.Tries.{slot, low_at, width, IsTrie}
use Rattle.bins.specs.Linked.{AreChunks, IsFreshChunk}
use Rattle.bins.specs.Below.{OnlyRangeChanges}
use Rattle.bins.specs.Stores.{IsWordPlace, HasJoined, HasLeaf}
use Rattle.bins.proofs.Frame.{trie_kept, in_without, in_half}
use Rattle.bins.proofs.Reindexed.{trie_reindexed}
use Rattle.bins.proofs.Lists.{last_append, with_same, with_other, without_same, without_other, first_in, later_in}
use Rattle.bins.proofs.Links.{linked_behind}
use Rattle.bins.proofs.Chunks.{same_or_not, one_size, size_apart, chunk_place, words_apart}
use Rattle.bins.proofs.SmallBins.{last_is, first_pushed}
use Rattle.bins.proofs.Opened.{Opened, rebuilt, none_in, empty, slot_at, slot_low}
use Rattle.bins.proofs.Changed.{without_unchanged}

module _ {regions : List Grant} {old : ℕ → ℕ} {index : ℕ → List ℕ} {bin parent low n at size chunk : ℕ}
    (chunks : AreChunks regions old index) (large : (m c : ℕ) → IsIn c (index m) → 256 ≤ m)
    (fresh : IsFreshChunk regions old index size chunk) (big : 256 ≤ size)
    (o : Opened old index bin parent low n at) where
  -- the index of the children, and where their ranges begin
  abbrev rest : ℕ → List ℕ
  rest = without_size o.node.size index

  abbrev under : Bool → ℕ
  under side = low_at side low (width n)

  at_in : IsIn at (index o.node.size)
  at_in = first_in o.node.chunks

  other_in : (c : ℕ) → IsIn c o.node.others → IsIn c (index o.node.size)
  other_in c is = later_in c o.node.chunks is

  once : AreDistinct (at ∷ o.node.others)
  once = subst (λ (cs : List ℕ). AreDistinct cs) o.node.chunks (chunks.once o.node.size)

  pub own_place : (k : ℕ) → 1 < k → k < 8 → IsWordPlace regions (chunk + 8 * k)
  own_place k some few =
      let f = fresh.is in
      record { small = omega (arith, f.high); word = f.granted (chunk + 8 * k) (omega arith) (omega arith) (omega (arith, f.aligned)) }

  -- a word of a chunk of the index is none of the new chunk
  not_own : (m c k : ℕ) → IsIn c (index m) → 8 * k < 64 → (c + 8 * k < chunk) ⊎ (chunk + 64 ≤ c + 8 * k)
  not_own m c k is few = let l = large m c is in elim (fresh.apart m c is) [ inl above ↦ inr (omega arith) | inr below ↦ inl (omega arith) ]

  last_of : ((o.node.others ≡ []) × (old (at + 16) ≡ at)) ⊎ IsIn (old (at + 16)) o.node.others
  last_of = last_is at (old (at + 16)) o.node.others o.node.ring.ends

  last_in_index : IsIn (old (at + 16)) (index o.node.size)
  last_in_index = elim last_of [ inl none ↦ subst (λ c. IsIn c (index o.node.size)) (sym none.1) at_in | inr is ↦ other_in (old (at + 16)) is ]

  pub last_place : IsWordPlace regions (old (at + 16) + 24)
  last_place = chunk_place chunks large o.node.size (old (at + 16)) 3 last_in_index (omega arith) (omega arith)

  pub joined_apart : (at + 16 ≢ chunk + 16) × (at + 16 ≢ chunk + 24) × (old (at + 16) + 24 ≢ chunk + 16) ×
      (old (at + 16) + 24 ≢ chunk + 24) × (old (at + 16) + 24 ≢ at + 16)
  joined_apart =
      let a = chunks.each o.node.size at at_in in
      let l = chunks.each o.node.size (old (at + 16)) last_in_index in (
        (λ is. elim (not_own o.node.size at 2 at_in (omega arith)) [ inl x ↦ omega arith | inr x ↦ omega arith ]),
        (λ is. elim (not_own o.node.size at 2 at_in (omega arith)) [ inl x ↦ omega arith | inr x ↦ omega arith ]),
        (λ is. elim (not_own o.node.size (old (at + 16)) 3 last_in_index (omega arith)) [ inl x ↦ omega arith | inr x ↦ omega arith ]),
        (λ is. elim (not_own o.node.size (old (at + 16)) 3 last_in_index (omega arith)) [ inl x ↦ omega arith | inr x ↦ omega arith ]),
        (λ is. omega (arith, a.aligned, l.aligned)),
      )

  pub slot_own : (side : Bool) → (at + slot side < chunk + 16) ⊎ (chunk + 64 ≤ at + slot side)
  slot_own side = let p = slot_at side in subst (λ x. (at + x < chunk + 16) ⊎ (chunk + 64 ≤ at + x)) (sym p.1.1.1)
      (elim (not_own o.node.size at p.0 at_in p.1.1.0) [ inl below ↦ inl (omega arith) | inr above ↦ inr above ])

  not_slot : (m c k : ℕ) (side : Bool) → IsIn c (index m) → c ≢ at → 8 * k < 64 → c + 8 * k ≢ at + slot side
  not_slot m c k side is other few =
      let p = slot_at side in
      subst (λ x. c + 8 * k ≢ at + x) (sym p.1.1.1) (words_apart chunks large m c o.node.size at k (8 * p.0) is at_in other few p.1.1.0)

  alone : (side : Bool) (c : ℕ) → IsIn c o.node.others → (k : ℕ) → 8 * k < 64 → c + 8 * k ≢ at + slot side
  alone side c is k few = not_slot o.node.size c k side (other_in c is) (λ same. once.0 (subst (λ x. IsIn x o.node.others) same is)) few

  others_apart : (side : Bool) (m c : ℕ) → IsIn c (rest m) → (k : ℕ) → 8 * k < 64 → c + 8 * k ≢ at + slot side
  others_apart side m c is k few = not_slot m c k side (in_without o.node.size index m c is) (size_apart chunks o.node.size m c at is at_in) few

  -- ---- a chunk of the node's size joins its ring
  module _ {new : ℕ → ℕ} (same_size : o.node.size ≡ size) (joined : HasJoined regions old at chunk new) where
    joined_word : (m c k : ℕ) → IsIn c (index m) → 0 < k → 8 * k < 64 → (c ≡ old (at + 16) → k ≢ 3) → (c ≡ at → k ≢ 2) →
        new (c + 8 * k) ≡ old (c + 8 * k)
    joined_word m c k is some few no_last no_at = joined.elsewhere (c + 8 * k) (chunk_place chunks large m c k is some few).word
        (λ e. elim (not_own m c k is few) [ inl x ↦ omega arith | inr x ↦ omega arith ])
        (λ e. elim (not_own m c k is few) [ inl x ↦ omega arith | inr x ↦ omega arith ])
        (λ e. elim (same_or_not c (old (at + 16))) [
          | inl same ↦ no_last same (omega arith)
          | inr other ↦ words_apart chunks
              large m c o.node.size (old (at + 16)) k 24 is last_in_index other few (omega arith) e
        ])
        (λ e. elim (same_or_not c at) [
          | inl same ↦ no_at same (omega arith)
          | inr other ↦ words_apart chunks large m c
              o.node.size at k 16 is at_in other few (omega arith) e
        ])

    pub joined_opened : Opened new (with_chunk size chunk index) bin parent low n at
    joined_opened =
        let d = o.node in
        let own : (k : ℕ) → 0 < k → 8 * k < 64 → k ≢ 2 → k ≢ 3 → new (at + 8 * k) ≡ old (at + 8 * k) =
        λ k some few not2 not3. joined_word d.size at k at_in some few (λ e. not3) (λ e. not2) in
        let not_at : (c : ℕ) → IsIn c d.others → c ≢ at = λ c is same. once.0 (subst (λ x. IsIn x d.others) same is) in
        record {
          node = record {
            size = d.size;
            others = d.others ++ chunk ∷ [];
            child = d.child;
            some = d.some;
            above = d.above;
            below = d.below;
            chunks = ap (with_chunk size chunk index) same_size ∙ (with_same size chunk index
                ∙ ap (λ (cs : List ℕ). cs ++ chunk ∷ []) (ap index (sym same_size) ∙ d.chunks));
            head = ap size_of (own 1 (omega arith) (omega arith) (λ e. omega arith) (λ e. omega arith)) ∙ d.head;
            ring = record {
              begins = first_pushed at chunk d.others (new (at + 24)) d.ring.begins d.ring.ends
                  (λ same. ap (λ x. new (x + 24)) (sym same) ∙ joined.behind)
                  (λ other. joined_word d.size at 3 at_in (omega arith) (omega arith) (λ e k. other (sym e)) (λ e k. omega arith))
                  (λ is. not_at (old (at + 16)) is);
              ends = joined.last ∙ sym (last_append at d.others (chunk ∷ []));
              linked = linked_behind old new at d.others chunk once.1
                  (λ c is. joined_word d.size c 2 (other_in c is) (omega arith) (omega arith) (λ e k. omega arith) (λ e k. not_at c is e))
                  (λ c is other. joined_word d.size c 3 (other_in c is) (omega arith) (omega arith) (λ e k. other (e ∙ d.ring.ends)) (λ e k. omega arith))
                  (λ c is same. ap (λ x. new (x + 24)) (same ∙ sym d.ring.ends) ∙ joined.behind)
                  (joined.prev ∙ d.ring.ends) joined.next d.ring.linked;
            };
            child_is = λ side. let p = slot_at side in
                let same = own p.0 p.1.0 p.1.1.0 (slot_not side p.0 p.1.1.1 2 (omega arith)) (slot_not side p.0 p.1.1.1 3 (omega arith)) in
                subst (λ x. new (at + x) ≡ old (at + x)) (sym p.1.1.1) same ∙ d.child_is side;
            parent_is = own 6 (omega arith) (omega arith) (λ e. omega arith) (λ e. omega arith) ∙ d.parent_is;
            bin_is = own 7 (omega arith) (omega arith) (λ e. omega arith) (λ e. omega arith) ∙ d.bin_is;
          };
          children = λ side.
              let stays = trie_kept old new bin rest at (under side) n (d.child side)
              (λ m a b c is k some few. joined_word m c k (in_without d.size index m c is) some few
              (λ e. absurd (size_apart chunks d.size m c (old (at + 16)) is last_in_index e))
              (λ e. absurd (size_apart chunks d.size m c at is at_in e))) (o.children side) in
              trie_reindexed new bin rest (without_size d.size (with_chunk size chunk index)) at (under side) n (d.child side)
              (λ m a b. without_unchanged (λ (cs : List ℕ). cs ++ chunk ∷ []) d.size size index m (λ is. is ∙ sym same_size)) stays;
        } where
          slot_not : (side : Bool) (k : ℕ) → slot side ≡ 8 * k → (j : ℕ) → j < 4 → k ≢ j
          slot_not false k is j few = λ e. omega arith
          slot_not true k is j few = λ e. omega arith

    pub joined_words : OnlyRangeChanges regions index low (low + 2 * width n) size chunk old new
    joined_words place word no_new no_old =
        let d = o.node in
        let at_no = no_old d.size at d.above d.below at_in in
        let last_no = no_old d.size (old (at + 16)) d.above d.below last_in_index in
        joined.elsewhere place word
        (λ e. elim no_new [ inl x ↦ omega arith | inr (inl x) ↦ omega arith | inr (inr (less, x)) ↦ omega arith ])
        (λ e. elim no_new [ inl x ↦ omega arith | inr (inl x) ↦ omega arith | inr (inr (less, x)) ↦ omega arith ])
        (λ e. elim last_no [ inl x ↦ omega arith | inr (inl x) ↦ omega arith | inr (inr (less, x)) ↦ (let l = large d.size at at_in in omega arith) ])
        (λ e. elim at_no [ inl x ↦ omega arith | inr (inl x) ↦ omega arith | inr (inr (less, x)) ↦ (let l = large d.size at at_in in omega arith) ])

  -- ---- a chunk becomes a leaf below the node
  module _ {new : ℕ → ℕ} (side : Bool) (not_same : o.node.size ≢ size) (no_child : o.node.child side ≡ 0) (whole : low % 16 ≡ 0)
      (above : under side ≤ size) (below : size < under side + width n)
      (leaf : HasLeaf regions old (at + slot side) at bin chunk new) where
    leaf_kept : (m c : ℕ) → IsIn c (index m) → (k : ℕ) → 0 < k → 8 * k < 64 → c + 8 * k ≢ at + slot side → new (c + 8 * k) ≡ old (c + 8 * k)
    leaf_kept m c is k some few not = leaf.elsewhere (c + 8 * k) (chunk_place chunks large m c k is some few).word not
        (elim (not_own m c k is few) [ inl x ↦ inl (omega arith) | inr x ↦ inr x ])

    child_none : IsNone rest (under side) (under side + width n)
    child_none = none_in old rest bin at (under side) n no_child (o.children side)

    -- two sizes do not fit in a range of 16 bytes
    deep : (n' : ℕ) → n' ≡ n → 0 < n'
    deep zero is = absurd (
        let d = o.node in let a = chunks.each d.size at at_in in let f = fresh.is in
        let eight : width n ≡ 8 = ap width (sym is) in
        let half = in_half side low (width n) size above below in
        not_same (omega (arith, a.whole, f.whole, d.above, d.below, half.0, half.1)))
    deep (suc m) is = omega arith

    leaf_trie : (n' : ℕ) → n' ≡ n → IsTrie new (with_chunk size chunk rest) bin at (under side) n' chunk
    leaf_trie zero is = absurd (let d = deep zero is in omega arith)
    leaf_trie (suc m) is =
        let f = fresh.is in
        let s = o.node.size in
        let low' = under side in
        let wide : width n ≡ 2 * width m = ap width (sym is) in
        let none : rest size ≡ [] = child_none size above below in
        let head : new (chunk + 8) ≡ old (chunk + 8) =
        leaf.elsewhere (chunk + 8) (f.granted (chunk + 8) (omega arith) (omega arith) (omega (arith, f.aligned)))
        (λ e. elim (slot_own side) [ inl x ↦ slot_far side e | inr x ↦ omega arith ]) (inl (omega arith)) in
        inr (
          record {
            size = size;
            others = [];
            child = λ b. 0;
            some = let l = f.low in omega arith;
            above = above;
            below = omega arith;
            chunks = with_same size chunk rest ∙ ap (λ (cs : List ℕ). cs ++ chunk ∷ []) none;
            head = ap size_of head ∙ f.head;
            ring = record { begins = leaf.next; ends = leaf.prev; linked = tt };
            child_is = λ b. elim b as (λ x. new (chunk + slot x) ≡ 0) [ false ↦ leaf.child0 | true ↦ leaf.child1 ];
            parent_is = leaf.parent_is;
            bin_is = leaf.bin_is;
          },
          λ b. empty new (without_size size (with_chunk size chunk rest)) bin chunk (low_at b low' (width m)) m
              (λ x a c. let half = in_half b low' (width m) x a c in elim (same_or_not x size) [
                | inl e ↦
                    ap (without_size size (with_chunk size chunk rest)) e ∙ without_same size (with_chunk size chunk rest)
                | inr e ↦
                    without_other size (with_chunk size chunk rest) x e ∙ (with_other size chunk rest x e ∙ child_none x half.0 (omega (arith, half.1)))
              ]),
        )
      where
        slot_far : (b : Bool) → chunk + 8 ≡ at + slot b → ⊥
        slot_far b e = let p = slot_at b in elim (not_own o.node.size at p.0 at_in p.1.1.0) [
          | inl x ↦ omega (arith, p.1.1.1)
          | inr x ↦ omega (arith, p.1.1.1)
        ]

    pub leaf_opened : Opened new (with_chunk size chunk index) bin parent low n at
    leaf_opened = rebuilt new size chunk o side chunk not_same above below
        (λ m c is where_ k some few not. leaf_kept m c is k some few not) leaf.named (leaf_trie n refl) (alone side) (others_apart side)

    pub leaf_words : OnlyRangeChanges regions index low (low + 2 * width n) size chunk old new
    leaf_words place word no_new no_old =
        let d = o.node in
        leaf.elsewhere place word
        (λ e. let p = slot_at side in let l = large d.size at at_in in let s = slot_low side in
        elim (no_old d.size at d.above d.below at_in) [
          | inl x ↦ omega (arith, p.1.1.1)
          | inr (inl x) ↦ omega
              (arith, p.1.1.1, p.1.1.0)
          | inr (inr (less, x)) ↦ omega arith
        ])
        (elim no_new [ inl x ↦ inl x | inr (inl x) ↦ inr x | inr (inr (less, x)) ↦ absurd (omega arith) ])

  -- ---- a chunk goes into a child
  module _ (new : ℕ → ℕ) (side : Bool) (not_same : o.node.size ≢ size)
      (above : under side ≤ size) (below : size < under side + width n)
      (trie : IsTrie new (with_chunk size chunk rest) bin at (under side) n (o.node.child side))
      (words : OnlyRangeChanges regions rest (under side) (under side + width n) size chunk old new) where
    child_kept : (m c : ℕ) → IsIn c (index m) →
        (m ≡ o.node.size) ⊎ (under side ≤ m → m < under side + width n → ⊥) →
        (k : ℕ) → 0 < k → 8 * k < 64 → new (c + 8 * k) ≡ old (c + 8 * k)
    child_kept m c is outside k some few = words (c + 8 * k) (chunk_place chunks large m c k is some few).word
        (elim (not_own m c k is few) [ inl x ↦ inl (omega arith) | inr x ↦ inr (inl x) ])
        (λ j d a b d_is.
        let d_in = in_without o.node.size index j d d_is in
        let lj = large j d d_in in let lm = large m c is in
        let apart : c ≢ d = λ same.
        let one : m ≡ j = one_size m j c chunks is (subst (λ x. IsIn x (index j)) (sym same) d_in) in
        elim outside [
          | inl s ↦ size_apart chunks o.node.size j d d d_is (subst (λ x. IsIn d (index x)) (sym one ∙ s) d_in) refl
          | inr far ↦ far (omega arith) (omega arith)
        ] in
        elim (chunks.apart m c j d is d_in apart) [ inl x ↦ inl (omega arith) | inr x ↦ inr (inl (omega arith)) ])

    pub child_opened : Opened new (with_chunk size chunk index) bin parent low n at
    child_opened =
        let p = slot_at side in
        let same = child_kept o.node.size at at_in (inl refl) p.0 p.1.0 p.1.1.0 in
        rebuilt new size chunk o side (o.node.child side) not_same above below
        (λ m c is outside k some few not. child_kept m c is outside k some few)
        (subst (λ x. new (at + x) ≡ old (at + x)) (sym p.1.1.1) same ∙ o.node.child_is side) trie (alone side) (others_apart side)

    pub child_words : OnlyRangeChanges regions index low (low + 2 * width n) size chunk old new
    child_words place word no_new no_old = words place word no_new
        (λ m c a b is. let half = in_half side low (width n) m a b in no_old m c half.0 half.1 (in_without o.node.size index m c is))
