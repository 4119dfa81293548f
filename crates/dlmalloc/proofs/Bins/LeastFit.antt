-- The chunk that the bins find is the least binned extent of a heap.
use Rattle.dlmalloc.proofs.Names.{◌≡◌, ◌≢◌, ℕ, ◌^◌, ◌<◌, ◌≤◌, ◌⊎◌, inl, inr, Bool, true, false, not, ◌&&◌, ◌==◌, nat_lt, min, if◌then◌else◌, List, [], ◌∷◌, map, Option, Some, None, refl, sym, ◌∙◌, ap, subst, arith, dec_lt, unwrap_or, option_map, filter, nat_tests, Grant, Extent, Kind, Free, Victim, IsIn, extent_at, MayStand, HeapState, extents_in, is_free_below_top, is_binned, least_from, least_fit, binned_sizes, IsAmong, segments_of, state_of, IsSound, IsFreeAt, IsBinned, Dlmalloc}
use Rattle.bins.specs.Index.{IsNone, IsLeastFit}
use Rattle.dlmalloc.proofs.Extents.Lookup.{extent, the_extent}
use Rattle.dlmalloc.proofs.Extents.OneMoreUsed.{AreDistinct}
use Rattle.dlmalloc.proofs.Extents.Least.{among_found}
use Rattle.dlmalloc.proofs.Segments.Among.{all_distinct}
use Rattle.dlmalloc.proofs.Extents.Disjoint.{stands_there}
use Rattle.dlmalloc.proofs.Words.OfLinks.{is_chunk}

-- ---- the least of some sizes

abbrev IsLeast : ℕ → List ℕ → Option ℕ → Type 0
IsLeast n sizes None = (size : ℕ) → IsIn size sizes → size < n
IsLeast n sizes (Some least) = IsIn least sizes × (n ≤ least) × ((size : ℕ) → IsIn size sizes → n ≤ size → least ≤ size)

least_of : (n : ℕ) (sizes : List ℕ) → IsLeast n sizes (least_from n sizes)
least_of n [] = λ size is. absurd is
least_of n (first ∷ sizes) = go (nat_lt first n) refl (least_from n sizes) (least_of n sizes)
  where
    both : (least : ℕ) → IsIn least sizes → IsIn (min first least) (first ∷ sizes)
    both least is = elim (dec_lt least first) [
      | yes less ↦ (let same : min first least ≡ least = omega arith in inr (subst (λ k. IsIn k sizes) (sym same) is))
      | no more ↦ inl (omega arith)
    ]

    go : (b : Bool) → nat_lt first n ≡ b → (o : Option ℕ) → IsLeast n sizes o →
        IsLeast n (first ∷ sizes) (if b then o else Some (unwrap_or (option_map (min first) o) first))
    go true test None h = λ size is. elim is [ inl same ↦ (let less : first < n = grind (arith, nat_tests) in omega arith) | inr later ↦ h size later ]
    go true test (Some least) h = (
      inr h.0,
      h.1,
      λ size is more. elim is [
        | inl same ↦ absurd (let less : first < n = grind (arith, nat_tests) in omega arith)
        | inr later ↦ h.2 size later
            more
      ],
    )
    go false test None h = (
      inl refl,
      grind (arith, nat_tests),
      λ size is more.
          elim is [ inl same ↦ omega arith | inr later ↦ absurd (let less = h size later in omega arith) ],
    )
    go false test (Some least) h = (
      both least h.0,
      (let enough : n ≤ first = grind (arith, nat_tests) in let more = h.1 in omega arith),
      λ size is more. elim is [ inl same ↦ omega arith | inr later ↦ (let less = h.2 size later more in omega arith) ],
    )

pub least_is : (n : ℕ) (sizes : List ℕ) (size : ℕ) → IsIn size sizes → n ≤ size →
    ((other : ℕ) → IsIn other sizes → n ≤ other → size ≤ other) → least_from n sizes ≡ Some size
least_is n sizes size is enough least = go (least_from n sizes) (least_of n sizes)
  where
    go : (o : Option ℕ) → IsLeast n sizes o → o ≡ Some size
    go None h = absurd (let less = h size is in omega arith)
    go (Some other) h = (let one = h.2 size is enough in let two = least other h.0 h.1 in let same : other ≡ size = omega arith in ap (λ k. Some k) same)

pub least_none : (n : ℕ) (sizes : List ℕ) → ((size : ℕ) → IsIn size sizes → size < n) → least_from n sizes ≡ None
least_none n sizes few = go (least_from n sizes) (least_of n sizes)
  where
    go : (o : Option ℕ) → IsLeast n sizes o → o ≡ None
    go None h = refl
    go (Some other) h = absurd (let less = few other h.0 in let enough = h.1 in omega arith)

-- ---- the sizes of binned extents

found_among : (k : ℕ) (extents : List Extent) {one : Extent} → extent_at k extents ≡ Some one → IsAmong one extents
found_among k [] there = absurd (cc)
found_among k (first ∷ extents) {one} there = go (first.at == k) there (found_among k extents)
  where
    go : (b : Bool) → (if b then Some first else extent_at k extents) ≡ Some one →
        (extent_at k extents ≡ Some one → IsAmong one extents) → (first ≡ one) ⊎ IsAmong one extents
    go true is rest = inl (the_extent is)
    go false is rest = inr (rest is)

in_sizes : (heap : HeapState) (extents : List Extent) (one : Extent) → IsAmong one extents → is_binned heap one ≡ true →
    IsIn one.size (binned_sizes heap extents)
in_sizes heap [] one is binned = absurd is
in_sizes heap (first ∷ extents) one (inl same) binned =
    let test : is_binned heap first ≡ true = ap (is_binned heap) same ∙ binned in
    rw test (inl (ap (λ e. e.size) (sym same)))
in_sizes heap (first ∷ extents) one (inr later) binned = go (is_binned heap first) (in_sizes heap extents one later binned)
  where
    go : (b : Bool) → IsIn one.size (binned_sizes heap extents) →
        IsIn one.size (map (λ extent. extent.size) (if b then first ∷ filter (is_binned heap) extents else filter (is_binned heap) extents))
    go true rest = inr rest
    go false rest = rest

-- a binned one of some extents has a size
record OfSize (heap : HeapState) (extents : List Extent) (size : ℕ) : Type 0 where
  one : Extent
  among : IsAmong one extents
  binned : is_binned heap one ≡ true
  is : one.size ≡ size

of_sizes : (heap : HeapState) (extents : List Extent) (size : ℕ) → IsIn size (binned_sizes heap extents) → OfSize heap extents size
of_sizes heap [] size is = absurd is
of_sizes heap (first ∷ extents) size is = go (is_binned heap first) refl is (of_sizes heap extents size)
  where
    later : OfSize heap extents size → OfSize heap (first ∷ extents) size
    later o = record { one = o.one; among = inr o.among; binned = o.binned; is = o.is }

    go : (b : Bool) → is_binned heap first ≡ b → IsIn size (map (λ extent. extent.size) (if b then first ∷ filter (is_binned heap) extents else filter
        (is_binned heap) extents)) → (IsIn size (binned_sizes heap extents) → OfSize heap extents size) → OfSize heap (first ∷ extents) size
    go true test (inl same) rest = record { one = first; among = inl refl; binned = test; is = sym same }
    go true test (inr there) rest = later (rest there)
    go false test there rest = later (rest there)

-- ---- in a heap

plain_free : (before kind : Kind) → MayStand before kind → is_free_below_top kind ≡ true → kind ≡ Free
plain_free before Free may plain = refl
plain_free before Victim may plain = absurd may
plain_free before kind may plain = absurd (cc)

and_first : (a b : Bool) → (a && b) ≡ true → a ≡ true
and_first true b is = refl
and_first false b is = is

and_second : (a b : Bool) → (a && not b) ≡ true → b ≡ false
and_second true true is = sym is
and_second true false is = refl
and_second false b is = absurd (cc)

module _ {A : Type 0} {regions : A → List Grant} {word : A → ℕ → ℕ} {heap : Dlmalloc A} (sound : IsSound regions word heap)
    (b : IsBinned regions word heap) (n : ℕ) where
  abbrev state : HeapState
  state = state_of word heap

  distinct : AreDistinct (extents_in state)
  distinct = all_distinct (regions heap.system) (word heap.system) (segments_of word heap) sound.segments sound.apart

  -- a binned size is one of the index
  of_index : (size : ℕ) → IsIn size (binned_sizes state (extents_in state)) → (at : ℕ) × IsIn at (b.index size)
  of_index size is =
      let o = of_sizes state (extents_in state) size is in
      let there = among_found o.one (extents_in state) distinct o.among in
      let s = stands_there (regions heap.system) (word heap.system) (segments_of word heap) sound.segments there in
      let free : o.one.kind ≡ Free = plain_free s.0 o.one.kind s.1.kind (and_first (is_free_below_top o.one.kind) (not (o.one.at == heap.victim)) o.binned) in
      let test : (o.one.at == heap.victim) ≡ false = and_second (is_free_below_top o.one.kind) (o.one.at == heap.victim) o.binned in
      let found : IsFreeAt state o.one.at size = there ∙ (λ i. Some (extent o.one.at (o.is i) (free i))) in (
        o.one.at,
        b.holds.all o.one.at size found (λ same. (let no : (o.one.at == heap.victim) ≡ true =
            (let e = same in grind (arith, nat_tests)) in cc)) (λ none. none),
      )

  none_in : (chunks : List ℕ) (at : ℕ) → chunks ≡ [] → IsIn at chunks → ⊥
  none_in [] at none is = is
  none_in (first ∷ chunks) at none is = (let no = none in cc)

  -- a least fit of the index is the least binned extent
  module _ {chunk : ℕ} (fit : IsLeastFit b.index n chunk) where
    pub fit_free : IsFreeAt state chunk fit.size
    fit_free = b.holds.free chunk fit.size fit.binned

    pub fit_other : chunk ≢ heap.victim
    fit_other = b.holds.no_victim chunk fit.size fit.binned

    pub fit_least : least_fit state n ≡ Some fit.size
    fit_least =
        let test : (chunk == heap.victim) ≡ false = (let o = fit_other in grind (arith, nat_tests)) in
        let binned : is_binned state (extent chunk fit.size Free) ≡ true = rw test refl in
        least_is n (binned_sizes state (extents_in state)) fit.size (in_sizes state (extents_in state) (extent chunk fit.size Free)
        (found_among chunk (extents_in state) fit_free) binned) fit.enough (λ other is enough. elim (dec_lt other fit.size) [
          | yes less ↦ absurd (let i = of_index other is in none_in (b.index other) i.0 (fit.least other enough less) i.1)
          | no more ↦ omega arith
        ])

  -- if the index has none that is large enough, the heap has none
  pub fit_none : IsNone b.index n (2 ^ 64) → least_fit state n ≡ None
  fit_none none = least_none n (binned_sizes state (extents_in state)) (λ size is. elim (dec_lt size n) [
    | yes less ↦ less
    | no more ↦ absurd (let i = of_index size is in let c = is_chunk sound (b.holds.free i.0 size i.1) in
        let high = c.high in none_in (b.index size) i.0 (none size (omega arith) (omega arith)) i.1)
  ])
