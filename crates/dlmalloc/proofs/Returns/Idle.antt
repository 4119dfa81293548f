-- The segments that a release pass hands out are those that are idle.
use Rattle.dlmalloc.proofs.Names.{◌≡◌, ℕ, ◌+◌, ◌-◌, inl, inr, Bool, true, false, ◌&&◌, ◌==◌, List, [], ◌∷◌, Some, IsTrue, refl, sym, ◌∙◌, ap, subst, arith, nat_tests, AllByRecursion, Grant, Used, Free, Record, extent_at, Tiles, Segment, is_free_below_top, IsSegment, AreSegments, record_of, AreRecords, is_own, is_unused, may_leave, segments_of, AreTold, IsSound, Dlmalloc}
use Rattle.std.specs.Prelude.{◌↔◌}
use Rattle.dlmalloc.specs.Released.{IsIdle, IdleAreHandedOut}
use Rattle.dlmalloc.proofs.Extents.Lookup.{extent, found_here}
use Rattle.dlmalloc.proofs.Segments.Among.{with_extents}
use Rattle.dlmalloc.proofs.Extents.Top.{no_record}
use Rattle.dlmalloc.proofs.Extents.FreeParted.{bare, either}
use Rattle.dlmalloc.proofs.Returns.Unused.{both, unused_extents, two_found}

module _ {regions : List Grant} {words : ℕ → ℕ} {segment : Segment} (part : IsSegment regions words segment) (at : ℕ)
    (there : extent_at at segment.extents ≡ Some (record_of at (segment.base + segment.size))) where
  abbrev end : ℕ
  end = segment.base + segment.size

  unused_idle : is_unused segment ≡ true → IsIdle segment
  unused_idle test = record {
    unused = λ one found used. elim (two_found segment.base (segment.size - 80) at end one.at (ap (extent_at one.at) (sym is) ∙ found)) [
      | inl free ↦ (let no : Free ≡ Used = sym free.0 ∙ used in cc)
      | inr last ↦ (let no : Record ≡ Used = sym last ∙ used in cc)
    ];
    record_at = at;
    short = there ∙ ap (λ size. Some (extent at size Record)) short;
  }
    where
      is : segment.extents ≡ extent segment.base (segment.size - 80) Free ∷ record_of at end ∷ []
      is = unused_extents part at there test

      short : end - at ≡ 80
      short = (let tiles = subst (λ es. Tiles words Used segment.base es end) is part.extents in let place = tiles.2.0 in let long = part.long in omega arith)

  idle_unused : IsIdle segment → is_unused segment ≡ true
  idle_unused idle = ap (λ es. is_unused (with_extents segment es)) b.is ∙ rw (free, fits) refl
    where
      b : Rattle.dlmalloc.proofs.Extents.FreeParted.IsBare part idle.unused
      b = bare part idle.unused

      free : is_free_below_top b.one.kind ≡ true
      free = elim b.free [
        | inl is ↦ ap is_free_below_top is
        | inr top ↦ absurd (no_record part at
            (ap (extent_at b.one.at) b.is ∙ (found_here b.one (b.last ∷ []) ∙ ap (λ kind. Some (extent b.one.at b.one.size kind)) top)) there)
      ]

      last : b.last ≡ extent idle.record_at 80 Record
      last = elim (either part idle.unused idle.record_at idle.short) [
        | inl one ↦ absurd (let no : is_free_below_top Record ≡ true = sym (ap (λ e. is_free_below_top e.kind) one) ∙ free in cc)
        | inr is ↦ is
      ]

      fits : (b.one.size + 80 == segment.size) ≡ true
      fits =
          let tiles = subst (λ es. Tiles words Used segment.base es (segment.base + segment.size)) b.is part.extents in
          let size : b.last.size ≡ 80 = ap (λ e. e.size) last in
          let whole = tiles.2.2 in
          let is : b.one.size + 80 ≡ segment.size = omega arith in
          grind (arith, nat_tests)

  and : (b c : Bool) → IsTrue b → IsTrue c → IsTrue (b && c)
  and true c one two = two
  and false c one two = absurd (cc)

  leaves_idle : (parts : Bool) → IsTrue (may_leave parts segment) ↔ (IsTrue parts × IsTrue (is_own segment) × IsIdle segment)
  leaves_idle parts = (
    λ leaves.
        let one = both (is_own segment) (parts && is_unused segment) leaves in
        let two = both parts (is_unused segment) one.1 in
        (two.0, one.0, unused_idle two.1),
    λ idle. and (is_own segment) (parts && is_unused segment) idle.1 (and parts (is_unused segment) idle.0 (idle_unused idle.2)),
  )

module _ {A : Type 0} {regions : A → List Grant} {word : A → ℕ → ℕ} {heap : Dlmalloc A} (sound : IsSound regions word heap) (parts : Bool) where
  in_records : (segments : List Segment) → AreSegments (regions heap.system) (word heap.system) segments → (payload : ℕ) →
      AreRecords (word heap.system) payload segments →
      AllByRecursion (λ segment. IsTrue (may_leave parts segment) ↔ (IsTrue parts × IsTrue (is_own segment) × IsIdle segment)) segments
  in_records [] all payload h = tt
  in_records (segment ∷ segments) all payload h = (
    leaves_idle all.0 (payload - 16) h.4 parts,
    in_records segments all.1 (word heap.system (payload + 16)) h.5,
  )

  pub idle_handed_out : IdleAreHandedOut parts (segments_of word heap)
  idle_handed_out = go (segments_of word heap) sound.segments sound.told
    where
      go : (segments : List Segment) → AreSegments (regions heap.system) (word heap.system) segments →
          AreTold (word heap.system) heap segments → IdleAreHandedOut parts segments
      go [] all h = tt
      go (segment ∷ segments) all h = in_records segments all.1 heap.next h.5
