-- A small bin with a further chunk.
use Rattle.std.proofs.Common.{◌≡◌, ◌≢◌, ℕ, ◌+◌, ◌*◌, ◌/◌, ◌%◌, ◌^◌, ◌<◌, ◌≤◌, ◌⊎◌, inl, inr, true, false, List, [], ◌∷◌, ◌++◌, refl, sym, ap, subst, ◌∙◌, arith}
use Rattle.std.specs.Prelude.{slice_index, nat_lt, if◌then◌else◌}
use Rattle.std.specs.Int.{bit_at}
use Rattle.std.proofs.lemmas.Bool.{cases_lt}
use Rattle.std.proofs.lemmas.Bool.Decides.{nat_tests}
use Rattle.std.proofs.Math.Pow.{pow_mono}
use Rattle.std.proofs.Math.Nat.{mul-le-mul_right}
use Rattle.heap_memory.specs.declared.grant.Grant.{Grant}
use Rattle.heap_memory.specs.Regions.{IsWordOf}
use Rattle.dlmalloc_chunks.specs.Bins.{least_size}
use Rattle.bins.specs.declared.bins.Bins.{Bins}
use Rattle.bins.specs.Index.{IsIn, first_or, last_or, with_chunk, from}
use Rattle.bins.specs.Rings.{AreLinked, IsRing, IsSame}
use Rattle.bins.specs.Tries.{IsTrie}
use Rattle.bins.specs.Linked.{AreChunks, IsFreshChunk, IsSmallBin, IsTreeBin, IsLinked, OnlyLinksChange, low_of, levels_of}
use Rattle.bins.specs.Stores.{IsWordPlace, HasPushed, HasNewest}
use Rattle.bins.proofs.Frame.{linked_kept, trie_kept}
use Rattle.bins.proofs.Reindexed.{trie_reindexed}
use Rattle.bins.proofs.Lists.{last_in, last_append, with_same, with_other}
use Rattle.bins.proofs.Links.{linked_behind}
use Rattle.bins.proofs.Chunks.{same_or_not, away, chunks_with, one_size}
use Rattle.bins.proofs.Changed.{from_unchanged}

-- the last of a ring is its mark if it is empty, or one of its chunks
pub last_is : (mark last : ℕ) (chunks : List ℕ) → last ≡ last_or mark chunks → ((chunks ≡ []) × (last ≡ mark)) ⊎ IsIn last chunks
last_is mark last [] is = inl (refl, is)
last_is mark last (x ∷ xs) is = inr (subst (λ y. IsIn y (x ∷ xs)) (sym is) (last_in x xs))

pub first_pushed : (mark chunk : ℕ) (chunks : List ℕ) {first : ℕ} (first' : ℕ) {last : ℕ} → first ≡ first_or mark chunks →
    last ≡ last_or mark chunks →
    (last ≡ mark → first' ≡ chunk) → (last ≢ mark → first' ≡ first) → (IsIn last chunks → last ≢ mark) → first' ≡ first_or mark (chunks ++ chunk ∷ [])
first_pushed mark chunk [] first' begins ends empty some not = empty ends
first_pushed mark chunk (x ∷ xs) first' begins ends empty some not = some (not (subst (λ y. IsIn y (x ∷ xs)) (sym ends) (last_in x xs))) ∙ begins

pub in_from : (least : ℕ) (index : ℕ → List ℕ) (n chunk : ℕ) → IsIn chunk (from least index n) → IsIn chunk (index n) × (least ≤ n)
in_from least index n chunk is = elim (cases_lt n least) [
  | inl less ↦ (let b : nat_lt n least ≡ true = grind (arith, nat_tests) in absurd (subst (λ c. IsIn chunk (if c then [] else index n)) b is))
  | inr more ↦ (let b : nat_lt n least ≡ false = grind (arith, nat_tests) in (subst (λ c. IsIn chunk (if c then [] else index n)) b is, more))
]

pub least_large : (bin : ℕ) → 256 ≤ least_size bin
least_large bin =
    let few : 7 ≤ bin / 2 + 7 = omega arith in
    let p : 2 ^ 7 ≤ 2 ^ (bin / 2 + 7) = pow_mono few in
    let two : 2 ≤ 2 + bin % 2 = omega arith in
    let q : 2 * 2 ^ (bin / 2 + 7) ≤ (2 + bin % 2) * 2 ^ (bin / 2 + 7) = mul-le-mul_right (2 ^ (bin / 2 + 7)) two in
    omega arith

module _ {regions : List Grant} {old new : ℕ → ℕ} {index : ℕ → List ℕ} {size chunk last tag : ℕ}
    (chunks : AreChunks regions old index) (fresh : IsFreshChunk regions old index size chunk) (pushed : HasPushed regions old last tag chunk new)
    (last_of : ((index size ≡ []) × (last ≡ tag)) ⊎ IsIn last (index size)) (tag_small : tag < 4096) where
  last_in_index : last ≢ tag → IsIn last (index size)
  last_in_index not = elim last_of [ inl none ↦ absurd (not none.1) | inr is ↦ is ]

  not_tag : (n other : ℕ) → IsIn other (index n) → other ≢ tag
  not_tag n other is = λ same. let low = (chunks.each n other is).low in omega arith

  -- a word of a chunk is none of the chunk that is put in
  not_new : (n other k j : ℕ) → IsIn other (index n) → 0 < k → 8 * k < n → j < 32 → other + 8 * k ≢ chunk + j
  not_new n other k j is some few within = let f = fresh.is in away chunk size other n k j (fresh.apart n other is) (omega (arith, f.long)) some few

  word_of : (n other k : ℕ) → IsIn other (index n) → 0 < k → 8 * k < n → IsWordOf regions (other + 8 * k)
  word_of n other k is some few = let c = chunks.each n other is in c.granted (other + 8 * k) (omega arith) (omega arith) (omega (arith, c.aligned))

  -- no word of another chunk than the last changes
  pub other_same : (n other : ℕ) → IsIn other (index n) → other ≢ last → IsSame old new n other
  other_same n other is not k some few = pushed.elsewhere (other + 8 * k) (word_of n other k is some few)
      (not_new n other k 16 is some few (omega arith)) (not_new n other k 24 is some few (omega arith))
      (λ not_empty. let there = last_in_index not_empty in let long = (chunks.each size last there).long in
      elim (chunks.apart n other size last is there not) [
        | inl below ↦ (λ same. omega arith)
        | inr above ↦ (λ same. omega arith)
      ])

  -- of the last only the next word changes
  pub last_same : (n other k : ℕ) → IsIn other (index n) → 0 < k → 8 * k < n → k ≢ 3 → new (other + 8 * k) ≡ old (other + 8 * k)
  last_same n other k is some few not = elim (same_or_not other last) [
    | inr apart ↦ other_same n other is apart k some few
    | inl same ↦ pushed.elsewhere (other + 8 * k) (word_of n other k is some few)
        (not_new n other k 16 is some few (omega arith)) (not_new n other k 24 is some few (omega arith)) (λ not_empty at. not (omega arith))
  ]

  pub ring_pushed : {first : ℕ} (first' : ℕ) → IsRing old tag first last (index size) → (last ≡ tag → first' ≡ chunk) →
      (last ≢ tag → first' ≡ first) →
      IsRing new tag first' chunk (index size ++ chunk ∷ [])
  ring_pushed {first = first} first' ring empty some =
      let long : 32 ≤ size = fresh.is.long in
      record {
        begins = first_pushed tag chunk (index size) first' ring.begins ring.ends empty some (λ is. not_tag size last is);
        ends = sym (last_append tag (index size) (chunk ∷ []));
        linked = linked_behind old new tag (index size) chunk (chunks.once size)
            (λ c is. last_same size c 2 is (omega arith) (omega arith) (λ is. omega arith))
            (λ c is not. other_same size c is (λ same. not (same ∙ ring.ends)) 3 (omega arith) (omega arith))
            (λ c is same. let e : c ≡ last = same ∙ sym ring.ends in ap (λ x. new (x + 24)) e ∙ pushed.behind (λ is_tag. not_tag size c is (e ∙ is_tag)))
            (pushed.prev ∙ ring.ends) pushed.next ring.linked;
      }

  pub chunks_pushed : AreChunks regions new (with_chunk size chunk index)
  chunks_pushed = chunks_with new chunks fresh
      (λ n other is. let long = (chunks.each n other is).long in last_same n other 1 is (omega arith) (omega arith) (λ is. omega arith))
      (let f = fresh.is in pushed.elsewhere (chunk + 8) (f.granted (chunk + 8) (omega arith) (omega (arith, f.long))
      (omega (arith, f.aligned))) (λ is. omega arith) (λ is. omega arith)
      (λ not_empty is. let there = last_in_index not_empty in elim (fresh.apart size last there)
      [ inl above ↦ omega (arith, f.long) | inr below ↦ omega (arith, f.long) ]))

-- what stands at entry
module _ {regions : List Grant} {old : ℕ → ℕ} {bins : Bins} {index : ℕ → List ℕ} {size chunk : ℕ} {last tag : ℕ}
    (linked : IsLinked regions old bins index) (fresh : IsFreshChunk regions old index size chunk) (small : size < 256)
    (last_at : last ≡ slice_index bins.lasts (size / 8)) (tag_is : tag ≡ 64 + size / 8) where
  bin_size : 8 * (size / 8) ≡ size
  bin_size = let f = fresh.is in omega (arith, f.whole)

  bin_ring : IsRing old tag (slice_index bins.firsts (size / 8)) last (index size)
  bin_ring =
      let r = (linked.small (size / 8) (omega arith)).ring in
      let r' : IsRing old (64 + size / 8) (slice_index bins.firsts (size / 8)) (slice_index bins.lasts (size / 8)) (index size) =
      subst (λ n. IsRing old (64 + size / 8) (slice_index bins.firsts (size / 8)) (slice_index bins.lasts (size / 8)) (index n)) bin_size r in
      subst (λ t. IsRing old t (slice_index bins.firsts (size / 8)) last (index size)) (sym tag_is)
      (subst (λ l. IsRing old (64 + size / 8) (slice_index bins.firsts (size / 8)) l (index size)) (sym last_at) r')

  last_of : ((index size ≡ []) × (last ≡ tag)) ⊎ IsIn last (index size)
  last_of = last_is tag last (index size) bin_ring.ends

  -- what the call requires of the places that it stores to
  pub start_place : last ≢ tag → IsWordPlace regions (last + 24) × ((last + 24 ≢ chunk + 16) × (last + 24 ≢ chunk + 24))
  start_place not = elim last_of [
    | inl none ↦ absurd (not none.1)
    | inr there ↦
        let c = linked.chunks.each size last there in
        let f = fresh.is in (
          record { small = omega (arith, c.high, c.long); word = c.granted (last + 24) (omega arith) (omega (arith, c.long)) (omega (arith, c.aligned)) },
          (
            (λ is. omega (arith, c.aligned, f.aligned)),
            (λ is. elim (fresh.apart size last there) [ inl above ↦ omega (arith, c.long) | inr below ↦ omega (arith, c.long) ]),
          ),
        )
  ]

-- a chunk is put into its ring
module _ {regions : List Grant} {old new : ℕ → ℕ} {bins bins' : Bins} {index : ℕ → List ℕ} {size chunk last tag : ℕ}
    (linked : IsLinked regions old bins index) (fresh : IsFreshChunk regions old index size chunk) (small : size < 256)
    (last_at : last ≡ slice_index bins.lasts (size / 8)) (tag_is : tag ≡ 64 + size / 8)
    (pushed : HasPushed regions old last tag chunk new) (newest : HasNewest bins (size / 8) last tag chunk bins') where
  size_is : 8 * (size / 8) ≡ size
  size_is = bin_size linked fresh small last_at tag_is

  ring_is : IsRing old tag (slice_index bins.firsts (size / 8)) last (index size)
  ring_is = bin_ring linked fresh small last_at tag_is

  end_is : ((index size ≡ []) × (last ≡ tag)) ⊎ IsIn last (index size)
  end_is = last_of linked fresh small last_at tag_is

  tag_small : tag < 4096
  tag_small = omega arith

  same : (n other : ℕ) → IsIn other (index n) → other ≢ last → IsSame old new n other
  same = other_same linked.chunks fresh pushed end_is tag_small

  -- the chunks of another size stay
  size_same : (n : ℕ) → n ≢ size → (other : ℕ) → IsIn other (index n) → IsSame old new n other
  size_same n not other is = same n other is (λ is_last. elim end_is [
    | inl none ↦ not_tag linked.chunks fresh pushed end_is tag_small n other is (is_last ∙ none.1)
    | inr there ↦ not (one_size n size other linked.chunks is (subst (λ c. IsIn c (index size)) (sym is_last) there))
  ])

  here : IsSmallBin new bins'.firsts bins'.lasts bins'.small_map (with_chunk size chunk index) (size / 8)
  here =
      let ring = ring_pushed linked.chunks fresh pushed end_is tag_small (slice_index bins'.firsts (size / 8)) ring_is newest.first_new newest.first_same in
      let index_is : index size ++ chunk ∷ [] ≡ with_chunk size chunk index (8 * (size / 8)) =
      sym (ap (with_chunk size chunk index) size_is ∙ with_same size chunk index) in
      record {
        ring = subst (λ (cs : List ℕ). IsRing new (64 + size / 8) (slice_index bins'.firsts (size / 8)) (slice_index bins'.lasts (size / 8)) cs) index_is
            (subst (λ l. IsRing new (64 + size / 8) (slice_index bins'.firsts (size / 8)) l (index size ++ chunk ∷ [])) (sym newest.last_new)
            (subst (λ t. IsRing new t (slice_index bins'.firsts (size / 8)) chunk (index size ++ chunk ∷ [])) tag_is ring));
        marked = λ some. newest.marked;
        clear = λ none. absurd (not_empty (index size) (index_is ∙ none));
      } where
        not_empty : (xs : List ℕ) → xs ++ chunk ∷ [] ≡ [] → ⊥
        not_empty [] is = cc
        not_empty (x ∷ xs) is = cc

  others : (bin : ℕ) → bin < 32 → bin ≢ size / 8 → IsSmallBin new bins'.firsts bins'.lasts bins'.small_map (with_chunk size chunk index) bin
  others bin within not =
      let was = linked.small bin within in
      let not_size : 8 * bin ≢ size = λ is. not (omega arith) in
      let index_is : index (8 * bin) ≡ with_chunk size chunk index (8 * bin) = sym (with_other size chunk index (8 * bin) not_size) in
      record {
        ring = record {
          begins = newest.firsts bin not ∙ (was.ring.begins ∙ ap (λ (cs : List ℕ). first_or (64 + bin) cs) index_is);
          ends = newest.lasts bin not ∙ (was.ring.ends ∙ ap (λ (cs : List ℕ). last_or (64 + bin) cs) index_is);
          linked = subst (λ (cs : List ℕ). AreLinked new (64 + bin) cs (64 + bin)) index_is
              (linked_kept old new (64 + bin) (index (8 * bin)) (64 + bin)
              (λ c is k some few. let long = (linked.chunks.each (8 * bin) c is).long in
              size_same (8 * bin) not_size c is k some (omega arith)) was.ring.linked);
        };
        marked = λ some. newest.map bin not ∙ was.marked (λ none. some (sym index_is ∙ none));
        clear = λ none. newest.map bin not ∙ was.clear (index_is ∙ none);
      }

  trees : (bin : ℕ) → bin < 32 → IsTreeBin new bins'.roots bins'.tree_map (with_chunk size chunk index) bin
  trees bin within =
      let was = linked.large bin within in
      let kept = trie_kept old new bin (from (least_size bin) index) (128 + bin) (low_of bin) (levels_of bin) (slice_index bins.roots bin)
      (λ n above below c is k some few. let there = in_from (least_size bin) index n c is in let large = least_large bin in
      size_same n (λ e. omega (arith, there.1)) c there.0 k some (omega (arith, there.1))) was.trie in
      let again = trie_reindexed new bin (from (least_size bin) index) (from (least_size bin) (with_chunk size chunk index))
      (128 + bin) (low_of bin) (levels_of bin) (slice_index bins.roots bin)
      (λ n above below. from_unchanged (λ (cs : List ℕ). cs ++ chunk ∷ []) (least_size bin) size index n (let large = least_large bin in omega arith)) kept in
      record {
        trie = subst (λ (rs : List ℕ). IsTrie new (from (least_size bin) (with_chunk size chunk index)) bin (128 + bin)
            (low_of bin) (levels_of bin) (slice_index rs bin)) (sym newest.roots) again;
        marked = λ some. ap (λ m. bit_at m bin) newest.tree_map ∙ was.marked (subst (λ (rs : List ℕ). 0 < slice_index rs bin) newest.roots some);
        clear = λ none. ap (λ m. bit_at m bin) newest.tree_map ∙ was.clear (subst (λ (rs : List ℕ). slice_index rs bin ≡ 0) newest.roots none);
      }

  pub small_inserted : IsLinked regions new bins' (with_chunk size chunk index)
  small_inserted = record {
    chunks = chunks_pushed linked.chunks fresh pushed end_is tag_small;
    small = λ bin within. elim (same_or_not bin (size / 8)) [
      | inl is ↦ subst (λ b. IsSmallBin new bins'.firsts bins'.lasts bins'.small_map (with_chunk size chunk index) b) (sym is) here
      | inr not ↦ others bin within not
    ];
    large = trees;
  }

  pub small_words : OnlyLinksChange regions index size chunk old new
  small_words at word no_new no_old =
      let f = fresh.is in
      pushed.elsewhere at word
      (λ is. elim no_new [ inl low ↦ omega arith | inr (inl high) ↦ omega arith | inr (inr (less, high)) ↦ omega arith ])
      (λ is. elim no_new [ inl low ↦ omega arith | inr (inl high) ↦ omega arith | inr (inr (less, high)) ↦ omega arith ])
      (λ not_tag is. elim end_is [
        | inl none ↦ not_tag none.1
        | inr there ↦ elim (no_old size last there) [ inl low ↦ omega arith | inr (inl high) ↦ omega arith | inr (inr (less, high)) ↦ omega arith ]
      ])
