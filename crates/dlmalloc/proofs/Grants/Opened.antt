-- A grant as a segment of its own, and the segments that were there before it.
use Rattle.dlmalloc.proofs.Names.{◌≡◌, ℕ, ◌+◌, ◌-◌, ◌<◌, List, [], ◌∷◌, refl, sym, ◌∙◌, ap, subst, arith, AllByRecursion, Grant, IsWordOf, Used, Top, Foot, Tiles, countdown_from, trim_threshold, opened, granted, IsFreshGrant, HasSameUsed, IsFlaggedRun, IsSegment, AreSegments, IsApartFrom, AreRecords, FreeMoves, segments_of, state_of, IsSound, Dlmalloc, IsRunOf}
use Rattle.dlmalloc.proofs.Extents.Lookup.{extent, nat_same}
use Rattle.dlmalloc.proofs.Segments.Among.{extents_all, flip}
use Rattle.dlmalloc.proofs.Segments.WordsKept.{KeepsIts, IsOutside, parts_stay, records_stay, apart_stay}
use Rattle.dlmalloc.proofs.Segments.Exchange.{Exchange, exchanged_read, exchanged_used, exchanged_sound, none_exchanged}
use Rattle.dlmalloc.proofs.Segments.HeadTop.{no_segments, top_stands, top_run, head_first, behind_parts, head_beside, behind_told}

-- a heap that had no segment, with a grant as its head segment
abbrev pub opened_heap : {A : Type 0} → Dlmalloc A → Grant → A → ℕ → Dlmalloc A
opened_heap heap grant system countdown = record heap {
  system = system;
  base = grant.base;
  size = grant.size;
  flags = grant.flags;
  next = 0;
  top = grant.base;
  top_size = grant.base + grant.size - 80 - grant.base;
  countdown = countdown;
  trim_check = trim_threshold;
}

module _ {A : Type 0} {regions : A → List Grant} {word : A → ℕ → ℕ} {heap : Dlmalloc A} (system : A) (sound : IsSound regions word heap)
    {grant : Grant} (fresh : IsFreshGrant (regions heap.system) (segments_of word heap) grant) (same : regions system ≡ regions heap.system) where
  -- ---- the grant as the head segment

  module _ (head : word system (grant.base + 8) ≡ grant.base + grant.size - 80 - grant.base + 1) (foot : word system (grant.base + grant.size - 72) ≡ 80) where
    abbrev bytes : ℕ
    bytes = grant.base + grant.size - 80 - grant.base

    fits : grant.base + bytes + 80 ≡ grant.base + grant.size
    fits = omega arith

    pub opened_segment : IsSegment (regions system) (word system) (opened grant)
    opened_segment = record {
      run = subst (λ rs. IsFlaggedRun rs grant.base grant.size grant.flags) (sym same) fresh.run;
      low = fresh.low;
      high = fresh.high;
      long = omega arith;
      extents = stands;
      tail = refl;
    }
      where
        stands : Tiles (word system) Used grant.base (opened grant).extents (grant.base + grant.size)
        stands =
            let place : grant.base + bytes + 8 ≡ grant.base + grant.size - 72 = omega (arith, fits) in
            subst (λ end. Tiles (word system) Used grant.base (opened grant).extents end) fits (subst (λ at. Tiles (word system) Used grant.base
            (extent grant.base bytes Top ∷ extent at 80 Foot ∷ []) (grant.base + bytes + 80)) (omega (arith, fits)) (top_stands (word system)
            {before = Used} grant.base bytes refl fresh.base_aligned (omega (arith, fits)) (omega (arith, fits)) head (ap (word system) place ∙ foot)))

    -- ---- the first grant

    module _ (none : heap.size ≡ 0) {countdown : ℕ} (counted : countdown ≡ countdown_from heap.rate) where
      abbrev new : Dlmalloc A
      new = opened_heap heap grant system countdown

      -- nothing gives way to the top and its foot
      abbrev only : Exchange regions word heap new
      only = record {
        now = opened grant ∷ [];
        parts = (opened_segment, tt);
        apart = (tt, tt);
        told = (omega arith, refl, refl, refl, (let here = nat_same grant.base in rw here refl), refl);
        some = omega arith;
        granularity = refl;
        ahead = (opened grant).extents;
        first = [];
        less = [];
        more = [];
        last = [];
        were = ap extents_all (no_segments word heap none);
        are = refl;
      }

      pub opened_sound : IsSound regions word new
      opened_sound = exchanged_sound sound only tt refl refl

      pub opened_state : (n : ℕ) → state_of word new ≡ granted grant n (state_of word heap)
      opened_state n =
          (λ i. record (state_of word heap) { segments = exchanged_read sound only i; countdown = counted i; trim_check = trim_threshold })
          ∙ ap (λ ss. granted grant n (record (state_of word heap) { segments = ss })) (sym (no_segments word heap none))

      -- no extent is in use before, nor after
      pub opened_used : HasSameUsed (state_of word heap) (state_of word new)
      opened_used = exchanged_used sound only tt ((λ is. cc), ((λ is. cc), tt)) tt

      -- no free extent but the top is there before, nor after
      pub opened_free : FreeMoves (state_of word heap) (state_of word new) [] []
      opened_free = none_exchanged sound only ((λ is. cc), ((λ is. cc), tt)) tt tt

  -- ---- the segments after the head

  module _ (some : 0 < heap.size) where
    abbrev run : IsRunOf (word heap.system) (segments_of word heap) heap.top (heap.top + heap.top_size) (extent heap.top heap.top_size Top ∷ [])
    run = top_run sound some

    pub grant_apart : IsApartFrom run.segment (opened grant) × AllByRecursion (λ segment. IsApartFrom segment (opened grant)) run.back
    grant_apart = subst (AllByRecursion (λ segment. IsApartFrom segment (opened grant))) (head_first sound some) fresh.apart

    -- the grant is before none of them, and none before it
    pub apart_grant : AllByRecursion (IsApartFrom (opened grant)) run.back
    apart_grant = flip (opened grant) run.back grant_apart.1

    module _ (kept : (k : ℕ) → IsWordOf (regions heap.system) k → IsOutside run.segment k → IsOutside (opened grant) k →
        word system k ≡ word heap.system k) where
      back_keeps : AllByRecursion (KeepsIts (word heap.system) (word system)) run.back
      back_keeps = apart_stay (regions heap.system) (word heap.system) (word system) run.segment (opened grant) run.back (behind_parts sound some)
          (head_beside sound some) grant_apart.1 kept

      pub parts_kept : AreSegments (regions system) (word system) run.back
      parts_kept = subst (λ rs. AreSegments rs (word system) run.back) (sym same)
          (parts_stay (regions heap.system) (word heap.system) (word system) run.back (behind_parts sound some) back_keeps)

      pub told_kept : AreRecords (word system) heap.next run.back
      told_kept = records_stay (regions heap.system) (word heap.system) (word system) run.back (behind_parts sound some) back_keeps heap.next
          (behind_told sound some)
