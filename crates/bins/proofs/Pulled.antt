-- A small bin with a chunk less.
use Rattle.std.proofs.Common.{◌≡◌, ◌≢◌, ℕ, ◌+◌, ◌*◌, ◌/◌, ◌<◌, ◌≤◌, ◌⊎◌, inl, inr, List, [], ◌∷◌, ◌++◌, refl, sym, ap, subst, ◌∙◌, arith}
use Rattle.std.specs.Prelude.{slice_index}
use Rattle.std.specs.Int.{bit_at}
use Rattle.heap_memory.specs.declared.grant.Grant.{Grant}
use Rattle.heap_memory.specs.Regions.{IsWordOf}
use Rattle.dlmalloc_chunks.specs.Bins.{least_size}
use Rattle.bins.specs.declared.bins.Bins.{Bins}
use Rattle.bins.specs.Index.{IsIn, AreDistinct, first_or, last_or, removed, without_chunk, from}
use Rattle.bins.specs.Rings.{AreLinked, IsRing, IsSame}
use Rattle.bins.specs.Tries.{IsTrie}
use Rattle.bins.specs.Linked.{AreChunks, IsSmallBin, IsTreeBin, IsLinked, OnlyLinksChange, low_of, levels_of}
use Rattle.bins.specs.Stores.{IsWordPlace, HasPulled, HasLess}
use Rattle.bins.proofs.Frame.{linked_kept, trie_kept}
use Rattle.bins.proofs.Reindexed.{trie_reindexed}
use Rattle.bins.proofs.Lists.{parted, last_in, last_append, in_front, in_back, distinct_less, apart, in_removed, removed_at, minus_same, minus_other}
use Rattle.bins.proofs.Links.{linked_without, back_of}
use Rattle.bins.proofs.Chunks.{same_or_not, chunk_kept, one_size}
use Rattle.bins.proofs.SmallBins.{last_is, in_from, least_large}
use Rattle.bins.proofs.Changed.{from_unchanged}

pub first_is : (mark first : ℕ) (chunks : List ℕ) → first ≡ first_or mark chunks → ((chunks ≡ []) × (first ≡ mark)) ⊎ IsIn first chunks
first_is mark first [] is = inl (refl, is)
first_is mark first (x ∷ xs) is = inr (inl is)

-- a chunk of an index with one less
pub in_minus : (size chunk : ℕ) (index : ℕ → List ℕ) (n other : ℕ) → IsIn other (without_chunk size chunk index n) → IsIn other (index n)
in_minus size chunk index n other is = elim (same_or_not n size) [
  | inr not ↦ subst (λ (cs : List ℕ). IsIn other cs) (minus_other size chunk index n not) is
  | inl same ↦
      subst (λ m. IsIn other (index m)) (sym same) (in_removed other chunk (index size)
      (subst (λ (cs : List ℕ). IsIn other cs) (ap (without_chunk size chunk index) same ∙ minus_same size chunk index)
      is))
]

-- where a chunk stands in its ring
pub record Between (old : ℕ → ℕ) (chunks : List ℕ) (prev chunk next tag first last : ℕ) : Type 0 where
  pub front : List ℕ
  pub back : List ℕ
  pub is : chunks ≡ front ++ chunk ∷ back
  pub prev_is : prev ≡ last_or tag front
  pub next_is : next ≡ first_or tag back
  pub first_is : first ≡ first_or tag (front ++ chunk ∷ back)
  pub last_is : last ≡ last_or chunk back
  pub linked : AreLinked old tag (front ++ chunk ∷ back) tag
  pub distinct : AreDistinct (front ++ chunk ∷ back)

pub between : {old : ℕ → ℕ} {chunks : List ℕ} {prev : ℕ} (chunk : ℕ) {next tag first last : ℕ} → IsIn chunk chunks →
    AreDistinct chunks → IsRing old tag first last chunks →
    prev ≡ old (chunk + 16) → next ≡ old (chunk + 24) → Between old chunks prev chunk next tag first last
between {old = old} {chunks = chunks} chunk {tag = tag} is distinct ring prev_is next_is =
    let p = parted chunk chunks is in
    let linked : AreLinked old tag (p.front ++ chunk ∷ p.back) tag = subst (λ (cs : List ℕ). AreLinked old tag cs tag) p.is ring.linked in
    let here = back_of old tag p.front (chunk ∷ p.back) tag linked in
    record {
      front = p.front;
      back = p.back;
      is = p.is;
      prev_is = prev_is ∙ here.0;
      next_is = next_is ∙ here.1;
      first_is = ring.begins ∙ ap (λ (cs : List ℕ). first_or tag cs) p.is;
      last_is = ring.ends ∙ (ap (λ (cs : List ℕ). last_or tag cs) p.is ∙ last_append tag p.front (chunk ∷ p.back));
      linked = linked;
      distinct = subst (λ (cs : List ℕ). AreDistinct cs) p.is distinct;
    }

pub first_pulled : (tag chunk : ℕ) (front back : List ℕ) {first : ℕ} (first' : ℕ) {prev next : ℕ} →
    first ≡ first_or tag (front ++ chunk ∷ back) → prev ≡ last_or tag front → next ≡ first_or tag back →
    (IsIn prev front → prev ≢ tag) → (prev ≡ tag → first' ≡ next) → (prev ≢ tag → first' ≡ first) → first' ≡ first_or tag (front ++ back)
first_pulled tag chunk [] back first' begins p n not empty some = empty p ∙ n
first_pulled tag chunk (x ∷ xs) back first' begins p n not empty some = some (not (subst (λ y. IsIn y (x ∷ xs)) (sym p) (last_in x xs))) ∙ begins

pub last_pulled : (tag chunk : ℕ) (front back : List ℕ) {last : ℕ} (last' : ℕ) {prev next : ℕ} → last ≡ last_or chunk back →
    prev ≡ last_or tag front → next ≡ first_or tag back →
    (IsIn next back → next ≢ tag) → (next ≡ tag → last' ≡ prev) → (next ≢ tag → last' ≡ last) → last' ≡ last_or tag (front ++ back)
last_pulled tag chunk front [] last' ends p n not empty some = empty n ∙ (p ∙ sym (last_append tag front []))
last_pulled tag chunk front (y ∷ ys) last' ends p n not empty some = some (not (inl n)) ∙ (ends ∙ sym (last_append tag front (y ∷ ys)))

module _ {regions : List Grant} {old : ℕ → ℕ} {bins : Bins} {index : ℕ → List ℕ} (size chunk : ℕ) {prev next tag : ℕ}
    (linked : IsLinked regions old bins index) (is_in : IsIn chunk (index size)) (small : size < 256)
    (prev_at : prev ≡ old (chunk + 16)) (next_at : next ≡ old (chunk + 24)) (tag_is : tag ≡ 64 + size / 8) where
  bin_size : 8 * (size / 8) ≡ size
  bin_size = let f = linked.chunks.each size chunk is_in in omega (arith, f.whole)

  bin_ring : IsRing old tag (slice_index bins.firsts (size / 8)) (slice_index bins.lasts (size / 8)) (index size)
  bin_ring =
      let r = (linked.small (size / 8) (omega arith)).ring in
      subst (λ t. IsRing old t (slice_index bins.firsts (size / 8)) (slice_index bins.lasts (size / 8)) (index size)) (sym tag_is)
      (subst (λ n. IsRing old (64 + size / 8) (slice_index bins.firsts (size / 8)) (slice_index bins.lasts (size / 8)) (index n)) bin_size r)

  pub place : Between old (index size) prev chunk next tag (slice_index bins.firsts (size / 8)) (slice_index bins.lasts (size / 8))
  place = between chunk is_in (linked.chunks.once size) bin_ring prev_at next_at

  pub in_ring_front : (c : ℕ) → IsIn c place.front → IsIn c (index size)
  in_ring_front c is = subst (λ (cs : List ℕ). IsIn c cs) (sym place.is) (in_front c place.front (chunk ∷ place.back) is)

  pub in_ring_back : (c : ℕ) → IsIn c place.back → IsIn c (index size)
  in_ring_back c is = subst (λ (cs : List ℕ). IsIn c cs) (sym place.is) (in_back c place.front (chunk ∷ place.back) (inr is))

  pub not_tag : (n other : ℕ) → IsIn other (index n) → other ≢ tag
  not_tag n other is = λ same. let low = (linked.chunks.each n other is).low in omega arith

  pub prev_in : prev ≢ tag → IsIn prev place.front
  prev_in not = elim (last_is tag prev place.front place.prev_is) [ inl none ↦ absurd (not none.1) | inr there ↦ there ]

  pub next_in : next ≢ tag → IsIn next place.back
  next_in not = elim (first_is tag next place.back place.next_is) [ inl none ↦ absurd (not none.1) | inr there ↦ there ]

  pub own_place : (k : ℕ) → k < 4 → 0 < k → IsWordPlace regions (chunk + 8 * k)
  own_place k few some =
      let c = linked.chunks.each size chunk is_in in
      record { small = omega (arith, c.high, c.long); word = c.granted (chunk + 8 * k) (omega arith) (omega (arith, c.long)) (omega (arith, c.aligned)) }

  pub prev_place : prev ≢ tag → IsWordPlace regions (prev + 24)
  prev_place not =
      let c = linked.chunks.each size prev (in_ring_front prev (prev_in not)) in
      record { small = omega (arith, c.high, c.long); word = c.granted (prev + 24) (omega arith) (omega (arith, c.long)) (omega (arith, c.aligned)) }

  pub next_place : next ≢ tag → IsWordPlace regions (next + 16)
  next_place not =
      let c = linked.chunks.each size next (in_ring_back next (next_in not)) in
      record { small = omega (arith, c.high, c.long); word = c.granted (next + 16) (omega arith) (omega (arith, c.long)) (omega (arith, c.aligned)) }

  pub places_apart : prev ≢ tag → next ≢ tag → prev + 24 ≢ next + 16
  places_apart p n is =
      let c = linked.chunks.each size prev (in_ring_front prev (prev_in p)) in
      let d = linked.chunks.each size next (in_ring_back next (next_in n)) in
      omega (arith, c.aligned, d.aligned)

  module _ {new : ℕ → ℕ} {bins' : Bins} (pulled : HasPulled regions old prev next tag new) (less : HasLess bins (size / 8) prev next tag bins') where
    word_of : (n other k : ℕ) → IsIn other (index n) → 0 < k → 8 * k < n → IsWordOf regions (other + 8 * k)
    word_of n other k is some few = let c = linked.chunks.each n other is in c.granted (other + 8 * k) (omega arith) (omega arith) (omega (arith, c.aligned))

    -- a word of another chunk than one of the ring is none of that one
    other_word : (n other k c j : ℕ) → IsIn other (index n) → IsIn c (index size) → other ≢ c → 0 < k → 8 * k < n → j < 32 →
        other + 8 * k ≢ c + j
    other_word n other k c j is c_is not some few within =
        let long = (linked.chunks.each size c c_is).long in
        elim (linked.chunks.apart n other size c is c_is not) [ inl below ↦ (λ same. omega arith) | inr above ↦ (λ same. omega arith) ]

    same_word : (n other k : ℕ) → IsIn other (index n) → 0 < k → 8 * k < n → (other ≡ prev → k ≢ 3) →
        (other ≡ next → k ≢ 2) → new (other + 8 * k) ≡ old (other + 8 * k)
    same_word n other k is some few no_prev no_next = pulled.elsewhere (other + 8 * k) (word_of n other k is some few)
        (λ not at. elim (same_or_not other prev) [
          | inl same ↦ no_prev same (omega arith)
          | inr apart ↦ other_word n other k prev 24 is (in_ring_front prev (prev_in not)) apart some few (omega arith) at
        ])
        (λ not at. elim (same_or_not other next) [
          | inl same ↦ no_next same (omega arith)
          | inr apart ↦ other_word n other k next 16 is (in_ring_back next (next_in not)) apart some few (omega arith) at
        ])

    long_ring : (c : ℕ) → IsIn c (index size) → 32 ≤ size
    long_ring c is = (linked.chunks.each size c is).long

    ring_less : IsRing new tag (slice_index bins'.firsts (size / 8)) (slice_index bins'.lasts (size / 8)) (place.front ++ place.back)
    ring_less =
        let long = long_ring chunk is_in in
        let p = place in
        record {
          begins = first_pulled tag chunk p.front p.back (slice_index bins'.firsts (size / 8)) p.first_is p.prev_is p.next_is
              (λ is. not_tag size prev (in_ring_front prev is)) less.first_new less.first_same;
          ends = last_pulled tag chunk p.front p.back (slice_index bins'.lasts (size / 8)) p.last_is p.prev_is p.next_is
              (λ is. not_tag size next (in_ring_back next is)) less.last_new less.last_same;
          linked = linked_without old new tag p.front chunk p.back p.distinct
              (λ c is. same_word size c 2 (in_ring_front c is) (omega arith) (omega arith) (λ same k. omega arith)
              (λ same k. apart c p.front (chunk ∷ p.back) p.distinct is (inr
              (subst (λ x. IsIn x p.back) (sym same) (next_in (λ t. not_tag size c (in_ring_front c is) (same ∙ t)))))))
              (λ c is not. same_word size c 3 (in_ring_front c is) (omega arith) (omega arith) (λ same k. not (same ∙ p.prev_is)) (λ same k. omega arith))
              (λ c is same. let e : c ≡ prev = same ∙ sym p.prev_is in ap (λ x. new (x + 24)) e
              ∙ (pulled.front (λ t. not_tag size c (in_ring_front c is) (e ∙ t)) ∙ p.next_is))
              (λ c is. same_word size c 3 (in_ring_back c is) (omega arith) (omega arith)
              (λ same k. apart c p.front (chunk ∷ p.back) p.distinct (subst (λ x. IsIn x p.front) (sym same)
              (prev_in (λ t. not_tag size c (in_ring_back c is) (same ∙ t)))) (inr is))
              (λ same k. omega arith))
              (λ c is not. same_word size c 2 (in_ring_back c is) (omega arith) (omega arith) (λ same k. omega arith) (λ same k. not (same ∙ p.next_is)))
              (λ c is same. let e : c ≡ next = same ∙ sym p.next_is in ap (λ x. new (x + 16)) e
              ∙ (pulled.back (λ t. not_tag size c (in_ring_back c is) (e ∙ t)) ∙ p.prev_is))
              p.linked;
        }

    index_less : without_chunk size chunk index size ≡ place.front ++ place.back
    index_less = minus_same size chunk index ∙ (ap (λ (cs : List ℕ). removed chunk cs) place.is ∙ removed_at chunk place.front place.back place.distinct)

    chunks_less : AreChunks regions new (without_chunk size chunk index)
    chunks_less = record {
      each = λ n other is. let was = in_minus size chunk index n other is in let long = (linked.chunks.each n other was).long in
          chunk_kept new (same_word n other 1 was (omega arith) (omega arith) (λ same k. omega arith) (λ same k. omega arith)) (linked.chunks.each n other was);
      apart = λ n c m d is_c is_d not. linked.chunks.apart n c m d (in_minus size chunk index n c is_c) (in_minus size chunk index m d is_d) not;
      once = λ n. elim (same_or_not n size) [
        | inr not ↦ subst (λ (cs : List ℕ). AreDistinct cs) (sym (minus_other size chunk index n not)) (linked.chunks.once n)
        | inl same ↦
            subst (λ (cs : List ℕ). AreDistinct cs) (sym (ap (without_chunk size chunk index) same ∙ index_less))
            (distinct_less place.front chunk place.back place.distinct)
      ];
    }

    -- the chunks of another size stay
    size_same : (n : ℕ) → n ≢ size → (other : ℕ) → IsIn other (index n) → IsSame old new n other
    size_same n not other is k some few =
        let not_in : IsIn other (index size) → ⊥ = λ there. not (one_size n size other linked.chunks is there) in
        same_word n other k is some few
        (λ same at. not_in (subst (λ c. IsIn c (index size)) (sym same) (in_ring_front prev (prev_in (λ t. not_tag n other is (same ∙ t))))))
        (λ same at. not_in (subst (λ c. IsIn c (index size)) (sym same) (in_ring_back next (next_in (λ t. not_tag n other is (same ∙ t))))))

    marks : {index' : List ℕ} → index' ≡ place.front ++ place.back →
        (index' ≢ [] → bit_at bins'.small_map (size / 8) ≡ 1) × (index' ≡ [] → bit_at bins'.small_map (size / 8) ≡ 0)
    marks is =
        let was = (linked.small (size / 8) (omega arith)).marked (λ none.
        absurd (subst (λ (cs : List ℕ). IsIn chunk cs) (ap index (sym bin_size) ∙ none) is_in)) in (
          (λ some. elim (same_or_not prev tag) [
            | inr not ↦ less.kept_front not ∙ was
            | inl p ↦ elim (same_or_not next tag) [
              | inr not ↦ less.kept_back not ∙ was
              | inl n ↦ absurd (some (is ∙ both p n))
            ]
          ]),
          (λ none. less.cleared
              (elim (last_is tag prev place.front place.prev_is) [
                | inl h ↦ h.1
                | inr there ↦ absurd
                    (subst (λ (cs : List ℕ). IsIn prev cs) (sym is ∙ none) (in_front prev place.front place.back there))
              ])
              (elim (first_is tag next place.back place.next_is) [
                | inl h ↦ h.1
                | inr there ↦ absurd
                    (subst (λ (cs : List ℕ). IsIn next cs) (sym is ∙ none) (in_back next place.front place.back there))
              ])),
        ) where
          both : prev ≡ tag → next ≡ tag → place.front ++ place.back ≡ []
          both p n = elim (last_is tag prev place.front place.prev_is) [
            | inr there ↦ absurd (not_tag size prev (in_ring_front prev there) p)
            | inl (no_front, _) ↦ elim (first_is tag next place.back place.next_is) [
              | inr there ↦ absurd (not_tag size next (in_ring_back next there) n)
              | inl (no_back, _) ↦ (λ i. no_front i ++ no_back i)
            ]
          ]

    here : IsSmallBin new bins'.firsts bins'.lasts bins'.small_map (without_chunk size chunk index) (size / 8)
    here =
        let index_is : place.front ++ place.back ≡ without_chunk size chunk index (8 * (size / 8)) =
        sym (ap (without_chunk size chunk index) bin_size ∙ index_less) in
        let m = marks (sym index_is) in
        record {
          ring = subst (λ (cs : List ℕ). IsRing new (64 + size / 8) (slice_index bins'.firsts (size / 8)) (slice_index bins'.lasts (size / 8)) cs) index_is
              (subst (λ t. IsRing new t (slice_index bins'.firsts (size / 8)) (slice_index bins'.lasts (size / 8))
              (place.front ++ place.back)) tag_is ring_less);
          marked = m.0;
          clear = m.1;
        }

    others : (bin : ℕ) → bin < 32 → bin ≢ size / 8 → IsSmallBin new bins'.firsts bins'.lasts bins'.small_map (without_chunk size chunk index) bin
    others bin within not =
        let was = linked.small bin within in
        let not_size : 8 * bin ≢ size = λ is. not (omega arith) in
        let index_is : index (8 * bin) ≡ without_chunk size chunk index (8 * bin) = sym (minus_other size chunk index (8 * bin) not_size) in
        record {
          ring = record {
            begins = less.firsts bin not ∙ (was.ring.begins ∙ ap (λ (cs : List ℕ). first_or (64 + bin) cs) index_is);
            ends = less.lasts bin not ∙ (was.ring.ends ∙ ap (λ (cs : List ℕ). last_or (64 + bin) cs) index_is);
            linked = subst (λ (cs : List ℕ). AreLinked new (64 + bin) cs (64 + bin)) index_is
                (linked_kept old new (64 + bin) (index (8 * bin)) (64 + bin)
                (λ c is k some few. let long = (linked.chunks.each (8 * bin) c is).long in
                size_same (8 * bin) not_size c is k some (omega arith)) was.ring.linked);
          };
          marked = λ some. less.map bin within not ∙ was.marked (λ none. some (sym index_is ∙ none));
          clear = λ none. less.map bin within not ∙ was.clear (index_is ∙ none);
        }

    trees : (bin : ℕ) → bin < 32 → IsTreeBin new bins'.roots bins'.tree_map (without_chunk size chunk index) bin
    trees bin within =
        let was = linked.large bin within in
        let kept = trie_kept old new bin (from (least_size bin) index) (128 + bin) (low_of bin) (levels_of bin) (slice_index bins.roots bin)
        (λ n above below c is k some few. let there = in_from (least_size bin) index n c is in let large = least_large bin in
        size_same n (λ e. omega (arith, there.1)) c there.0 k some (omega (arith, there.1))) was.trie in
        let again = trie_reindexed new bin (from (least_size bin) index)
        (from (least_size bin) (without_chunk size chunk index)) (128 + bin) (low_of bin) (levels_of bin)
        (slice_index bins.roots bin)
        (λ n above below. from_unchanged (removed chunk) (least_size bin) size index n (let large = least_large bin in omega arith)) kept in
        record {
          trie = subst (λ (rs : List ℕ). IsTrie new (from (least_size bin) (without_chunk size chunk index)) bin (128 + bin)
              (low_of bin) (levels_of bin) (slice_index rs bin)) (sym less.roots) again;
          marked = λ some. ap (λ m. bit_at m bin) less.tree_map ∙ was.marked (subst (λ (rs : List ℕ). 0 < slice_index rs bin) less.roots some);
          clear = λ none. ap (λ m. bit_at m bin) less.tree_map ∙ was.clear (subst (λ (rs : List ℕ). slice_index rs bin ≡ 0) less.roots none);
        }

    pub small_unlinked : IsLinked regions new bins' (without_chunk size chunk index)
    small_unlinked = record {
      chunks = chunks_less;
      small = λ bin within. elim (same_or_not bin (size / 8)) [
        | inl is ↦ subst (λ b. IsSmallBin new bins'.firsts bins'.lasts bins'.small_map (without_chunk size chunk index) b) (sym is) here
        | inr not ↦ others bin within not
      ];
      large = trees;
    }

    pub pulled_words : OnlyLinksChange regions index size chunk old new
    pulled_words at word no_new no_old =
        pulled.elsewhere at word
        (λ not is. elim (no_old size prev (in_ring_front prev (prev_in not)))
        [ inl low ↦ omega arith | inr (inl high) ↦ omega arith | inr (inr (less, high)) ↦ omega arith ])
        (λ not is. elim (no_old size next (in_ring_back next (next_in not)))
        [ inl low ↦ omega arith | inr (inl high) ↦ omega arith | inr (inr (less, high)) ↦ omega arith ])
