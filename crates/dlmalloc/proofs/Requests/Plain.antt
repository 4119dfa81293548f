-- Requests: their sizes, and the blocks that they are given.
use Rattle.dlmalloc.proofs.Names.{◌≡◌, ℕ, ◌+◌, ◌-◌, ◌*◌, ◌/◌, ◌%◌, ◌^◌, ◌<◌, ◌≤◌, Bool, true, false, ◌==◌, if◌then◌else◌, List, [], ◌∷◌, ◌++◌, Some, None, Result, Ok, Err, refl, sym, ◌∙◌, ap, subst, arith, nat_lt, nat_le, pow_mono, dec_lt, unwrap_or, IsPowerOfTwo, flat_map, flat_map-append, nat_tests, Grant, padded, limit, Extent, Used, extent_at, HeapState, Segment, extents_in, IsBlock, chosen, state_of, Dlmalloc, replaced, cut, taken, in_segments}
use Rattle.std.proofs.Common.{IfErr}
use Rattle.std.specs.Result.{IsErrAnd}
use Rattle.dlmalloc.specs.Taken.{leaves_rest}
use Rattle.dlmalloc.proofs.Extents.Lookup.{nat_is, nat_same}
use Rattle.dlmalloc.proofs.Requests.Granularity.{granularity_whole}
use Rattle.dlmalloc.proofs.Segments.HeadTop.{no_segments}

-- a power of two below 2 ^ 64 is at most 2 ^ 63
granularity_bound : (g : ℕ) → IsPowerOfTwo g → g < 2 ^ 64 → g ≤ 2 ^ 63
granularity_bound g power less =
    elim (dec_lt 63 power.0) [
      | yes more ↦ absurd (let k : 64 ≤ power.0 = omega arith in let high : 2 ^ 64 ≤ 2 ^ power.0 = pow_mono k in let is = power.1 in omega arith)
      | no few ↦ (let k : power.0 ≤ 63 = omega arith in let low : 2 ^ power.0 ≤ 2 ^ 63 = pow_mono k in let is = power.1 in omega arith)
    ]

-- a request that is not too large leaves room for the grant that it may need
pub request_small : (g size : ℕ) {n : ℕ} → IsPowerOfTwo g → 16 ≤ g → size < limit g → n % 16 ≡ 0 → n ≤ size + 32 → n ≡ padded size → n + 96 + g ≤ 2 ^ 64
unfolding padded limit
request_small g size {n} power least less whole near is = go (g == 16) refl (nat_lt size 23) refl less is
  where
    units : g % 16 ≡ 0
    units = granularity_whole g power least

    go : (b : Bool) → (g == 16) ≡ b → (s : Bool) → nat_lt size 23 ≡ s → size < (if b then 2 ^ 64 - 135 else 2 ^ 64 - g - 103) →
        n ≡ (if s then 32 else (size + 8 + (16 - 1)) / 16 * 16) → n + 96 + g ≤ 2 ^ 64
    go true sixteen true small bound is = let sixteen' = nat_is sixteen in omega arith
    go true sixteen false large bound is = let sixteen' = nat_is sixteen in omega arith
    go false other true small bound is = let most = granularity_bound g power (omega arith) in omega arith
    go false other false large bound is = let u = units in let most = granularity_bound g power (omega arith) in omega arith

-- ---- the block that is cut

pub replaced_segments : (at : ℕ) (others : Extent → List Extent) (segments : List Segment) →
    flat_map (λ segment. segment.extents) (in_segments (replaced at others) segments) ≡ replaced at others (flat_map (λ segment. segment.extents) segments)
replaced_segments at others [] = refl
replaced_segments at others (segment ∷ segments) =
    ap (λ l. replaced at others segment.extents ++ l) (replaced_segments at others segments) ∙ sym
    (flat_map-append (λ extent. if extent.at == at then others extent else extent ∷ []) segment.extents (flat_map (λ segment. segment.extents) segments))

replaced_found : (at : ℕ) (others : Extent → List Extent) (extents : List Extent) (extent first : Extent) (rest : List Extent) →
    extent_at at extents ≡ Some extent → others extent ≡ first ∷ rest → first.at ≡ at → extent_at at (replaced at others extents) ≡ Some first
replaced_found at others [] extent first rest found is place = absurd (cc)
replaced_found at others (one ∷ extents) extent first rest found is place = go (one.at == at) refl found (replaced_found at others extents extent first rest)
  where
    here : (first.at == at) ≡ true
    here = subst (λ k. (first.at == k) ≡ true) place (nat_same first.at)

    go : (b : Bool) → (one.at == at) ≡ b → (if b then Some one else extent_at at extents) ≡ Some extent → (extent_at at extents ≡ Some extent →
        others extent ≡ first ∷ rest → first.at ≡ at → extent_at at (replaced at others extents) ≡ Some first) →
        extent_at at ((if b then others one else one ∷ []) ++ replaced at others extents) ≡ Some first
    go true test found later =
        let same : one ≡ extent = ap (λ o. unwrap_or o one) found in
        subst (λ l. extent_at at (l ++ replaced at others extents) ≡ Some first) (sym (ap others same ∙ is)) (rw here refl)
    go false test found later = rw test (later found is place)

-- what is cut holds the block, and little more
pub taken_block : (old : HeapState) {extent : Extent} (n size : ℕ) → extent_at extent.at (extents_in old) ≡ Some extent → n ≤ extent.size →
    size + 8 ≤ n → n ≤ size + 32 → IsBlock (taken old extent n) (extent.at + 16) size
taken_block old {extent} n size there fits holds near = go (leaves_rest n extent) refl
  where
    back : extent.at + 16 - 16 ≡ extent.at
    back = omega arith

    found : (first : Extent) (rest : List Extent) → cut n extent ≡ first ∷ rest → first.at ≡ extent.at →
        extent_at (extent.at + 16 - 16) (extents_in (taken old extent n)) ≡ Some first
    found first rest is place =
        (λ i. extent_at (back i) (replaced_segments extent.at (cut n) old.segments i))
        ∙ replaced_found extent.at (cut n) (extents_in old) extent first rest there is place

    go : (b : Bool) → leaves_rest n extent ≡ b → IsBlock (taken old extent n) (extent.at + 16) size
    go true test = record {
      extent = record { at = extent.at; size = n; kind = Used };
      there = found (record { at = extent.at; size = n; kind = Used }) ((record {
        at = extent.at + n;
        size =
            extent.size - n;
        kind = extent.kind;
      }) ∷ []) (rw test refl) refl;
      low = omega arith;
      used = refl;
      holds = holds;
      little = omega arith;
    }
    go false test =
        let less : extent.size < n + 32 = grind (arith, nat_tests) in
        record {
          extent = record extent { kind = Used };
          there = found (record extent { kind = Used }) [] (rw test refl) refl;
          low = omega arith;
          used = refl;
          holds = omega arith;
          little = omega arith;
        }

-- what holds of a fault holds of the one that an answer passes on
pub if_err : {T E : Type 0} (r : Result T E) (P : E → Type 0) {one : E} → IsErrAnd r (λ fault. fault ≡ one) → P one → IfErr r P
if_err (Ok x) P is holds = tt
if_err (Err fault) P is holds = subst P (sym is) holds

-- nothing is chosen in a heap with no segment
pub none_chosen_empty : {A : Type 0} (regions : A → List Grant) (word : A → ℕ → ℕ) (heap : Dlmalloc A) → heap.size ≡ 0 →
    (n : ℕ) → 32 ≤ n → chosen (state_of word heap) n ≡ None
none_chosen_empty regions word heap none n least =
    let some : nat_le n 0 ≡ false = grind (arith, nat_tests) in
    let more : nat_lt n 0 ≡ false = grind (arith, nat_tests) in
    ap (λ l. chosen (record (state_of word heap) { segments = l }) n) (no_segments word heap none) ∙ rw (some, more) refl
