-- What a top leaves when another segment becomes the head: a record, and a free chunk if it has more than 16 bytes.
use Rattle.dlmalloc.proofs.Names.{◌≡◌, ℕ, ◌+◌, ◌-◌, ◌%◌, ◌<◌, ◌≤◌, ◌⊎◌, inl, inr, Bool, true, false, ◌==◌, nat_lt, if◌then◌else◌, List, [], ◌∷◌, ◌++◌, Some, refl, sym, ◌∙◌, ap, subst, arith, dec_lt, flat_map, nat_tests, Extent, Kind, Used, Free, Top, Record, head_of, ends_segment, extent_at, is_used, HasChunk, Tiles, last_kind, IsRecordAt, record_of, IsIn, AreChunks, SegmentRecord}
use Rattle.dlmalloc.proofs.Extents.Tiling.{free_chunk}
use Rattle.dlmalloc.specs.Granted.{closed}
use Rattle.dlmalloc.proofs.Moves.OfFreeExtents.{IsThere}
use Rattle.dlmalloc.proofs.Extents.Lookup.{extent, nat_same, nat_isnt, found_here, the_one, of_two}

-- chunks stay if a top is closed
pub closed_chunks : (chunks : List Extent) → AreChunks chunks → flat_map closed chunks ≡ chunks
closed_chunks [] are = refl
closed_chunks (chunk ∷ chunks) are = λ i. same are.0 i ++ closed_chunks chunks are.1 i
  where
    same : (chunk.kind ≡ Used) ⊎ (chunk.kind ≡ Free) → closed chunk ≡ chunk ∷ []
    same (inl is) = rw is refl
    same (inr is) = rw is refl

-- what a top of a given size leaves, and where the record is in it
abbrev pub left : Bool → ℕ → ℕ → List Extent
left b at size = if b then extent at 96 Record ∷ [] else extent at size Free ∷ extent (at + size) 80 Record ∷ []

-- if it is free
abbrev pub left_free : Bool → ℕ → List ℕ
left_free small top = if small then [] else top ∷ []

pub in_left : (small : Bool) (top size k bytes : ℕ) → extent_at k (left small top size) ≡ Some (extent k bytes Free) → IsIn k (left_free small top)
in_left true top size k bytes found = (let no : Record ≡ Free = ap (λ e. e.kind) (the_one k (extent top 96 Record) found) in cc)
in_left false top size k bytes found = elim (of_two k (extent top size Free) (extent (top + size) 80 Record) found) [
  | inl first ↦ inl (sym (ap (λ e. e.at) first))
  | inr later ↦ absurd (let no : Record ≡ Free = ap (λ e. e.kind) later in cc)
]

pub left_there : (small : Bool) (top size k : ℕ) → IsIn k (left_free small top) → IsThere k (left small top size)
left_there true top size k is = absurd is
left_there false top size k (inl same) = (
  extent top size Free,
  subst
      (λ a. extent_at a (left false top size) ≡ Some (extent top size Free)) (sym same)
      (found_here (extent top size Free) (extent (top + size) 80 Record ∷ [])),
)
left_there false top size k (inr none) = absurd none

abbrev pub place : Bool → ℕ → ℕ → ℕ
place b at size = if b then at else at + size

-- where the record begins
pub record_place : (at top size : ℕ) → at ≡ (if nat_lt size 32 then top else top + size) → size % 16 ≡ 0 → 16 ≤ size →
    ((size == 16) ≡ (at == top)) × (at ≡ place (at == top) top size)
record_place at top size is units long = go (nat_lt size 32) refl is
  where
    go : (b : Bool) → nat_lt size 32 ≡ b → at ≡ (if b then top else top + size) → ((size == 16) ≡ (at == top)) × (at ≡ place (at == top) top size)
    go true test is =
        let small : size < 32 = grind (arith, nat_tests) in
        let bytes : size ≡ 16 = omega arith in
        let sixteen : (size == 16) ≡ true = grind (arith, nat_tests) in
        let here : (at == top) ≡ true = grind (arith, nat_tests) in
        (sixteen ∙ sym here, is ∙ ap (λ b. place b top size) (sym here))
    go false test is =
        let large : 32 ≤ size = grind (arith, nat_tests) in
        let other : (size == 16) ≡ false = nat_isnt (inr (omega arith)) in
        let beyond : (at == top) ≡ false = nat_isnt (inr (omega arith)) in
        (other ∙ sym beyond, is ∙ ap (λ b. place b top size) (sym beyond))

-- beyond a top that is left as a free chunk
pub large_at : {at : ℕ} (top size : ℕ) → at ≡ (if nat_lt size 32 then top else top + size) → 32 ≤ size → top + size ≤ at
large_at top size is large = (let test : nat_lt size 32 ≡ false = grind (arith, nat_tests) in omega (arith, is ∙ ap (λ b. if b then top else top + size) test))

-- it stands up to the segment's end, where the top stood
pub left_stands : (words : ℕ → ℕ) {old : ℕ → ℕ} {before : Kind} {at size : ℕ} {end : ℕ} {told : SegmentRecord} →
    HasChunk old before (extent at size Top) → at + size + 80 ≡ end → (b : Bool) → (size == 16) ≡ b → IsRecordAt words (place b at size) told end b →
    (b ≡ false → words (at + 8) ≡ size + 1) → (b ≡ false → words (at + size) ≡ size) → Tiles words before at (left b at size) end
left_stands words {size} top ends_at true is recorded head foot =
    let s : size ≡ 16 = grind (arith, nat_tests) in (
      refl,
      record {
        whole = top.whole;
        size = inr refl;
        kind = inl top.kind;
        head = recorded.head ∙ ap (λ k. head_of 48 (is_used k) true) (sym top.kind);
        foot = λ free. absurd (cc);
        fence = λ is k low high m. recorded.fences k low (omega arith) m;
      },
      omega arith,
    )
left_stands words {size} top ends_at false isnt recorded head foot =
    let more = large isnt in (
      refl,
      free_chunk top.whole (top.size.0, more) top.kind (head refl ∙ (omega arith ∙ ap (λ k. head_of size (is_used k) false) (sym top.kind))) (foot refl),
      (
        refl,
        record {
          whole = omega (arith, top.whole, top.size.0);
          size = inl refl;
          kind = inr refl;
          head = recorded.head;
          foot = λ free. absurd (cc);
          fence = λ is k low high m. recorded.fences k low (omega arith) m;
        },
        ends_at,
      ),
    )
  where
    large : (size == 16) ≡ false → 32 ≤ size
    large test = elim (dec_lt size 32) [
      | yes small ↦ absurd (let sixteen : size ≡ 16 = omega (arith, top.size.0, top.size.1) in let yes : (size == 16) ≡ true = grind (arith, nat_tests) in cc)
      | no more ↦ omega arith
    ]

pub left_tail : (before : Kind) (at size : ℕ) (b : Bool) → ends_segment (last_kind before (left b at size)) ≡ true
left_tail before at size true = refl
left_tail before at size false = refl

-- the record is found in it
pub left_record : (at size : ℕ) {end : ℕ} → 16 ≤ size → at + size + 80 ≡ end → (b : Bool) → (size == 16) ≡ b →
    extent_at (place b at size) (left b at size) ≡ Some (record_of (place b at size) end)
left_record at size {end} long ends_at true is =
    let s : size ≡ 16 = grind (arith, nat_tests) in
    let bytes : 96 ≡ end - at = omega arith in
    let here = nat_same at in
    rw here (λ i. Some (extent at (bytes i) Record))
left_record at size {end} long ends_at false isnt =
    let first : (at == at + size) ≡ false = nat_isnt (inl (omega arith)) in
    let second = nat_same (at + size) in
    let bytes : 80 ≡ end - (at + size) = omega arith in
    rw (first, second) (λ i. Some (extent (at + size) (bytes i) Record))
