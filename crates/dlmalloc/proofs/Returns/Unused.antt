-- Whether a segment is free up to its record, as its first head says.
use Rattle.dlmalloc.proofs.Names.{◌≡◌, ℕ, ◌+◌, ◌-◌, ◌%◌, ◌<◌, ◌≤◌, ◌⊎◌, inl, inr, Bool, true, false, ◌&&◌, ◌==◌, if◌then◌else◌, List, [], ◌∷◌, ◌++◌, Some, None, refl, sym, ◌∙◌, ap, subst, arith, nat_tests, Grant, Extent, Kind, Used, Free, Record, HasHead, size_of, free_of, head_of, pinuse_of-head_of, cinuse_of-head_of, kind_of, is_used, extent_at, Tiles, Segment, is_free_below_top, IsSegment, record_of, IsChunkKind, AreChunks, is_unused}
use Rattle.dlmalloc.proofs.Extents.Lookup.{extent, same_extent, nat_is, the_extent}
use Rattle.dlmalloc.proofs.Extents.FromWords.{told}
use Rattle.dlmalloc.proofs.Segments.Among.{with_extents, IsIn, in_part}
use Rattle.dlmalloc.proofs.Extents.Walk.{HasTail, record_tail, run_read, none_left}

-- a head of a record is no free chunk's
record_in_use : (size : ℕ) (before : Bool) → size % 8 ≡ 0 → free_of (head_of size before true) ≡ false
record_in_use size true whole = rw (pinuse_of-head_of size true true whole, cinuse_of-head_of size true true whole) refl
record_in_use size false whole = rw (pinuse_of-head_of size false true whole) refl

plain_told : (free : Bool) → is_free_below_top (if free then Free else Used) ≡ free
plain_told true = refl
plain_told false = refl

left_of : (part whole : ℕ) → 96 < whole → (part == whole - 80) ≡ (part + 80 == whole)
left_of part whole long = grind (arith, nat_tests)

pub both : (b c : Bool) → (b && c) ≡ true → (b ≡ true) × (c ≡ true)
both true c h = (refl, h)
both false c h = absurd (cc)

-- what is found of a free extent and a record after it
pub two_found : (base size at end : ℕ) (k : ℕ) {one : Extent} → extent_at k (extent base size Free ∷ record_of at end ∷ []) ≡ Some one →
    ((one.kind ≡ Free) × (base ≡ k)) ⊎ (one.kind ≡ Record)
two_found base size at end k {one} there = go (base == k) refl (at == k) there
  where
    go : (b : Bool) → (base == k) ≡ b → (c : Bool) → (if b then Some (extent base size Free) else if c then Some (record_of at end) else None) ≡ Some
        one → ((one.kind ≡ Free) × (base ≡ k)) ⊎ (one.kind ≡ Record)
    go true is c found = inl (ap (λ e. e.kind) (sym (the_extent found)), nat_is is)
    go false isnt true found = inr (ap (λ e. e.kind) (sym (the_extent found)))
    go false isnt false found = absurd (cc)

module _ {regions : List Grant} {words : ℕ → ℕ} {segment : Segment} (part : IsSegment regions words segment) (at : ℕ)
    (there : extent_at at segment.extents ≡ Some (record_of at (segment.base + segment.size))) where
  abbrev end : ℕ
  end = segment.base + segment.size

  tail : HasTail regions words segment at (record_of at end ∷ [])
  tail = record_tail part at there

  abbrev chunks : List Extent
  chunks = tail.run.chunks

  record_in : IsIn words segment.base end (record_of at end)
  record_in = in_part words Used segment.base segment.extents end part.extents there

  long : 80 ≤ end - at
  long = elim (record_in.stands.size) [ inl short ↦ omega arith | inr longer ↦ omega arith ]

  extents_are : segment.extents ≡ chunks ++ record_of at end ∷ []
  extents_are = tail.is ∙ ap (λ es. es ++ record_of at end ∷ []) (run_read tail.run)

  base_whole : segment.base % 16 ≡ 0
  base_whole = go chunks tail.run.stand
    where
      go : (chunks : List Extent) → Tiles words Used segment.base chunks at → segment.base % 16 ≡ 0
      go [] h = omega (arith, record_in.stands.whole)
      go (chunk ∷ chunks) h = omega arith

  -- its first head is granted
  pub first_head : HasHead regions segment.base
  first_head = record {
    aligned = omega (arith, base_whole);
    small = omega arith;
    granted = record { granted = part.run.covered (segment.base + 8) (omega arith) (omega arith); aligned = omega (arith, base_whole) };
  }

  -- and it says whether the segment is free up to its record
  pub unused_told : (free_of (words (segment.base + 8)) && size_of (words (segment.base + 8)) == segment.size - 80) ≡ is_unused segment
  unused_told = go chunks tail.run.stand tail.run.are extents_are
    where
      go : (chunks : List Extent) → Tiles words Used segment.base chunks at → AreChunks chunks → segment.extents ≡ chunks ++ record_of at end ∷ [] →
          (free_of (words (segment.base + 8)) && size_of (words (segment.base + 8)) == segment.size - 80) ≡ is_unused segment
      go [] h are is =
          let used : free_of (words (segment.base + 8)) ≡ false = ap (λ a. free_of (words (a + 8))) h
          ∙ (ap free_of record_in.stands.head ∙ record_in_use 48 (is_used record_in.before) refl) in
          ap (λ b. b && size_of (words (segment.base + 8)) == segment.size - 80) used ∙ sym (ap (λ es. is_unused (with_extents segment es)) is)
      go (chunk ∷ chunks) h are is =
          let same : extent segment.base (size_of (words (segment.base + 8))) (kind_of (words (segment.base + 8))) ≡ chunk =
          subst (λ a. extent a (size_of (words (a + 8))) (kind_of (words (a + 8))) ≡ chunk) h.0 (told are.0 h.1) in
          let free : free_of (words (segment.base + 8)) ≡ is_free_below_top chunk.kind =
          sym (plain_told (free_of (words (segment.base + 8)))) ∙ ap (λ e. is_free_below_top e.kind) same in
          let size : (size_of (words (segment.base + 8)) == segment.size - 80) ≡ (chunk.size + 80 == segment.size) =
          ap (λ e. e.size == segment.size - 80) same ∙ left_of chunk.size segment.size part.long in
          (λ i. free i && size i) ∙ sym (ap (λ es. is_unused (with_extents segment es)) is)

  -- then it is one free extent and the record
  pub unused_extents : is_unused segment ≡ true → segment.extents ≡ extent segment.base (segment.size - 80) Free ∷ record_of at end ∷ []
  unused_extents test = extents_are ∙ go chunks tail.run.stand tail.run.are (sym (ap (λ es. is_unused (with_extents segment es)) extents_are) ∙ test)
    where
      of_kind : (kind : Kind) → IsChunkKind kind → is_free_below_top kind ≡ true → kind ≡ Free
      of_kind kind (inl is) plain = absurd (let no = sym (ap is_free_below_top is) ∙ plain in cc)
      of_kind kind (inr is) plain = is

      go : (chunks : List Extent) → Tiles words Used segment.base chunks at → AreChunks chunks → is_unused (with_extents segment (chunks ++ record_of at
          end ∷ [])) ≡ true → chunks ++ record_of at end ∷ [] ≡ extent segment.base (segment.size - 80) Free ∷ record_of at end ∷ []
      go [] h are test = absurd (cc)
      go (chunk ∷ chunks) h are test =
          let b = both (is_free_below_top chunk.kind) (chunk.size + 80 == segment.size) test in
          let size = nat_is b.1 in
          let none : chunks ≡ [] = none_left words chunk.kind (segment.base + chunk.size) chunks at (omega (arith, long)) h.2 in
          let same : chunk ≡ extent segment.base (segment.size - 80) Free = same_extent {at = chunk.at} {at' = segment.base} {size = chunk.size}
          {size' = segment.size - 80} {kind = chunk.kind} {kind' = Free} h.0 (omega arith) (of_kind chunk.kind are.0 b.0) in
          λ i. same i ∷ (none i ++ record_of at end ∷ [])
