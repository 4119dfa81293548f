-- If nothing is chosen for a request, no run of a little more bytes is clear of blocks.
use Rattle.dlmalloc.proofs.Names.{◌≡◌, ℕ, ◌+◌, ◌-◌, ◌<◌, ◌≤◌, ◌⊎◌, inl, inr, Bool, true, false, ◌==◌, nat_le, nat_lt, min, max, if◌then◌else◌, List, [], ◌∷◌, ◌++◌, Option, Some, None, refl, sym, ◌∙◌, ap, subst, arith, append_assoc, unwrap_or, option_map, AllByRecursion, dec_lt, nat_tests, Grant, Extent, Kind, Used, Free, Victim, Top, Record, Foot, IsSize, extent_at, MayStand, Tiles, HeapState, Segment, extents_in, is_free_below_top, is_binned, IsFull, TheVictim, TheTop, least_from, least_fit, choose, chosen, IsSegment, AreSegments, binned_sizes, segments_of, state_of, AreTold, IsSound, Dlmalloc}
use Rattle.dlmalloc.specs.Blocks.{IsMet}
use Rattle.dlmalloc.proofs.Extents.Lookup.{extent, nat_is, found_here, the_extent}
use Rattle.dlmalloc.proofs.Extents.OneMoreUsed.{AreDistinct, tiles_distinct}
use Rattle.dlmalloc.proofs.Segments.Among.{all_at, distinct_later, among_all}
use Rattle.dlmalloc.proofs.Extents.Top.{is_top}
use Rattle.dlmalloc.proofs.Cuts.Chosen.{free_low, chosen_is, top_there}

-- ---- what is not chosen is too small

record IsTooSmall (n : ℕ) (fit : Option ℕ) (victim top : ℕ) : Type 0 where
  pub none_fits : fit ≡ None
  pub victim_less : victim < n
  pub top_most : top ≤ n

too_small : (n : ℕ) (fit : Option ℕ) (victim top : ℕ) → choose n fit victim top ≡ None → IsTooSmall n fit victim top
too_small n (Some size) victim top none = absurd (cc)
too_small n None victim top none = go (nat_le n victim) (nat_lt n top) refl refl
  where
    go : (a b : Bool) → nat_le n victim ≡ a → nat_lt n top ≡ b → IsTooSmall n None victim top
    go true b one two = absurd (let some : choose n None victim top ≡ Some TheVictim = rw one refl in cc)
    go false true one two = absurd (let some : choose n None victim top ≡ Some TheTop = rw (one, two) refl in cc)
    go false false one two = record { none_fits = refl; victim_less = grind (arith, nat_tests); top_most = grind (arith, nat_tests) }

-- so is each chunk in a bin, if none fits
module _ (heap : HeapState) (n : ℕ) where
  record AreLess (first : Extent) (chunks : List Extent) : Type 0 where
    pub here : is_binned heap first ≡ true → first.size < n
    pub later : least_from n (binned_sizes heap chunks) ≡ None

  are_less : (first : Extent) (chunks : List Extent) → least_from n (binned_sizes heap (first ∷ chunks)) ≡ None → AreLess first chunks
  are_less first chunks none = go (is_binned heap first) (nat_lt first.size n) refl refl
    where
      go : (binned less : Bool) → is_binned heap first ≡ binned → nat_lt first.size n ≡ less → AreLess first chunks
      go false less out test =
          let same : least_from n (binned_sizes heap (first ∷ chunks)) ≡ least_from n (binned_sizes heap chunks) = rw out refl in
          record { here = λ binned. absurd (cc); later = sym same ∙ none }
      go true true binned test =
          let same : least_from n (binned_sizes heap (first ∷ chunks)) ≡ least_from n (binned_sizes heap chunks) = rw (binned, test) refl in
          record { here = λ binned. grind (arith, nat_tests); later = sym same ∙ none }
      go true false binned test =
          let fits : least_from n (binned_sizes heap (first ∷ chunks)) ≡ Some
          (unwrap_or (option_map (min first.size) (least_from n (binned_sizes heap chunks))) first.size) = rw (binned, test) refl in
          absurd (cc)

  binned_less : (chunks : List Extent) → least_from n (binned_sizes heap chunks) ≡ None →
      (chunk : Extent) → extent_at chunk.at chunks ≡ Some chunk → is_binned heap chunk ≡ true → chunk.size < n
  binned_less [] none chunk there binned = absurd (cc)
  binned_less (first ∷ chunks) none chunk there binned = go (first.at == chunk.at) there (binned_less chunks less.later chunk)
    where
      less : AreLess first chunks
      less = are_less first chunks none

      go : (b : Bool) → (if b then Some first else extent_at chunk.at chunks) ≡ Some chunk →
          (extent_at chunk.at chunks ≡ Some chunk → is_binned heap chunk ≡ true → chunk.size < n) → chunk.size < n
      go true is later =
          let same = the_extent is in
          subst (λ e. e.size < n) same (less.here (ap (is_binned heap) same ∙ binned))
      go false is later = later is binned

-- ---- the walk over the extents of a segment

-- an extent in use whose block meets a run, whatever the block's size
record MeetsOne (extents : List Extent) (from to : ℕ) : Type 0 where
  pub used : Extent
  pub there : extent_at used.at extents ≡ Some used
  pub is : used.kind ≡ Used
  pub begins : used.at + 16 < to
  pub ends : from < used.at + max 17 (used.size - 63)

module _ (words : ℕ → ℕ) (n from : ℕ) where
  -- If none is met and each free extent has at most n bytes, what stands after one in use begins at most 63 bytes after
  -- the run's start, and else at most as many bytes further as the extent before may have.
  abbrev further : Kind → ℕ
  further Used = 0
  further Record = n + 96
  further Foot = n + 80
  further kind = n

  abbrev Outcome : List Extent → ℕ → Type 0
  Outcome extents end = MeetsOne extents from (from + (n + 256)) ⊎ (end ≤ from + (n + 160))

  last_near : (kind : Kind) → further kind ≤ n + 96
  last_near Used = omega arith
  last_near kind = omega arith

  meets_one : (before : Kind) (at : ℕ) (extents : List Extent) (end : ℕ) → Tiles words before at extents end →
      AreDistinct extents → at ≤ from + 63 + further before →
      ((one : Extent) → extent_at one.at extents ≡ Some one → (one.kind ≡ Free) ⊎ (one.kind ≡ Top) → one.size ≤ n) → Outcome extents end
  meets_one before at [] end h distinct near short = inr (let most = last_near before in omega arith)
  meets_one before at (first ∷ extents) end h distinct near short =
      by_kind first.kind refl h.1.kind h.1.size (λ near. meets_one first.kind (at + first.size) extents end h.2 distinct.1 near
      (λ other there. short other (distinct_later (first ∷ []) extents other.at distinct there)))
    where
      place : first.at ≡ at
      place = h.0

      -- one that is met after it is met among all
      later : Outcome extents end → Outcome (first ∷ extents) end
      later (inr past) = inr past
      later (inl met) = inl (record {
        used = met.used;
        there = distinct_later (first ∷ []) extents met.used.at distinct
            met.there;
        is = met.is;
        begins = met.begins;
        ends = met.ends;
      })

      behind_used : (kind : Kind) → kind ≡ Used → at ≤ from + 63 + further kind → at ≤ from + 63
      behind_used kind is close = let c = subst (λ k. at ≤ from + 63 + further k) is close in omega arith

      behind_free : (kind : Kind) → (kind ≡ Used) ⊎ (kind ≡ Free) → at ≤ from + 63 + further kind → at ≤ from + 63 + n
      behind_free kind (inl is) close = (let c = behind_used kind is close in omega arith)
      behind_free kind (inr is) close = subst (λ k. at ≤ from + 63 + further k) is close

      on : (kind : Kind) → first.kind ≡ kind → (at + first.size ≤ from + 63 + further first.kind → Outcome extents end) →
          at + first.size ≤ from + 63 + further kind → Outcome (first ∷ extents) end
      on kind is rest close = later (rest (subst (λ k. at + first.size ≤ from + 63 + further k) (sym is) close))

      by_kind : (kind : Kind) → first.kind ≡ kind → MayStand before first.kind → IsSize first.kind first.size →
          (at + first.size ≤ from + 63 + further first.kind → Outcome extents end) → Outcome (first ∷ extents) end
      by_kind Used is may size rest =
          let close = behind_free before (subst (MayStand before) is may) near in
          let p = place in
          elim (dec_lt from (first.at + max 17 (first.size - 63))) [
            | yes meets ↦ inl (record { used = first; there = found_here first extents; is = is; begins = omega arith; ends = meets })
            | no past ↦ on Used is rest (omega arith)
          ]
      by_kind Free is may size rest =
          let close = behind_used before (subst (MayStand before) is may) near in
          let less = short first (found_here first extents) (inl is) in
          on Free is rest (omega arith)
      by_kind Victim is may size rest = absurd (subst (MayStand before) is may)
      by_kind Top is may size rest =
          let close = behind_used before (subst (MayStand before) is may) near in
          let less = short first (found_here first extents) (inr is) in
          on Top is rest (omega arith)
      by_kind Record is may size rest =
          let close = behind_free before (subst (MayStand before) is may) near in
          let bytes : first.size ≤ 96 = elim (subst (λ k. IsSize k first.size) is size) [ inl short ↦ omega arith | inr long ↦ omega arith ] in
          on Record is rest (omega arith)
      by_kind Foot is may size rest =
          let close = subst (λ k. at ≤ from + 63 + further k) (subst (MayStand before) is may) near in
          let bytes : first.size ≡ 80 = subst (λ k. IsSize k first.size) is size in
          on Foot is rest (omega arith)

module _ {A : Type 0} {regions : A → List Grant} {word : A → ℕ → ℕ} {heap : Dlmalloc A} (sound : IsSound regions word heap) (some : 0 < heap.size)
    (n : ℕ) (none : chosen (state_of word heap) n ≡ None) where
  small : IsTooSmall n (least_fit (state_of word heap) n) heap.victim_size heap.top_size
  small = too_small n (least_fit (state_of word heap) n) heap.victim_size heap.top_size
      (sym (chosen_is sound some n {fit = (least_fit (state_of word heap) n)} refl) ∙ none)

  free_less : (one : Extent) → extent_at one.at (extents_in (state_of word heap)) ≡ Some one → one.kind ≡ Free → one.size < n
  free_less one there free = go (one.at == heap.victim) refl
    where
      no_victim : heap.victim_size ≡ 0 → one.at ≡ heap.victim → ⊥
      no_victim zero same =
          let gone = sound.no_victim zero in let low = free_low sound there in
          omega arith

      go : (b : Bool) → (one.at == heap.victim) ≡ b → one.size < n
      go true test =
          let same = nat_is test in let named = sound.victim (λ zero. no_victim zero same) in
          let is = the_extent (sym there ∙ (ap (λ a. extent_at a (extents_in (state_of word heap))) same ∙ named)) in
          let size : one.size ≡ heap.victim_size = ap (λ e. e.size) is in
          let less = small.victim_less in
          omega arith
      go false test =
          binned_less (state_of word heap) n (extents_in (state_of word heap)) small.none_fits one there
          (let plain : is_free_below_top one.kind ≡ true = ap is_free_below_top free in rw (plain, test) refl)

  -- in each segment
  run_met : (front : List Segment) (segment : Segment) (back : List Segment) → segments_of word heap ≡ front ++ segment ∷ back →
      (from : ℕ) → segment.base ≤ from → from + (n + 256) ≤ segment.base + segment.size → IsMet (state_of word heap) from (from + (n + 256))
  run_met front segment back is from low high =
      elim (meets_one (word heap.system) n from Used segment.base segment.extents (segment.base + segment.size) part.extents
      (tiles_distinct (word heap.system) Used segment.base segment.extents (segment.base + segment.size) part.extents) (omega arith) short) [
        | inl met ↦ record {
          used = met.used;
          there = all met.used met.there;
          is = met.is;
          begins = met.begins;
          ends = met.ends;
        }
        | inr past ↦ absurd (omega arith)
      ]
    where
      part : IsSegment (regions heap.system) (word heap.system) segment
      part = all_at (IsSegment (regions heap.system) (word heap.system)) front segment back
          (subst (AreSegments (regions heap.system) (word heap.system)) is sound.segments)

      all : (one : Extent) → extent_at one.at segment.extents ≡ Some one → extent_at one.at (extents_in (state_of word heap)) ≡ Some one
      all one there = among_all (regions heap.system) (word heap.system) sound.segments sound.apart front segment back is one.at there

      short : (one : Extent) → extent_at one.at segment.extents ≡ Some one → (one.kind ≡ Free) ⊎ (one.kind ≡ Top) → one.size ≤ n
      short one there (inl free) = let less = free_less one (all one there) free in omega arith
      short one there (inr top) =
          let here = ap (λ k. Some (extent one.at one.size k)) top in
          let place = (is_top sound front segment back is (there ∙ here)).1 in
          let same = the_extent (sym (all one there) ∙ (ap (λ a. extent_at a (extents_in (state_of word heap))) place ∙ top_there sound some)) in
          let size : one.size ≡ heap.top_size = ap (λ e. e.size) same in
          let most = small.top_most in
          omega arith

-- so all are full
abbrev AreMet : HeapState → ℕ → List Segment → Type 0
AreMet heap bytes segments = AllByRecursion (λ segment. (from : ℕ) → segment.base ≤ from →
    from + bytes ≤ segment.base + segment.size → IsMet heap from (from + bytes)) segments

pub full : {A : Type 0} {regions : A → List Grant} {word : A → ℕ → ℕ} {heap : Dlmalloc A} → IsSound regions word heap →
    (n : ℕ) → chosen (state_of word heap) n ≡ None → IsFull (state_of word heap) (n + 256)
full {word} {heap} sound n none = go (segments_of word heap) refl sound.told
  where
    each : 0 < heap.size → (front segments : List Segment) → segments_of word heap ≡ front ++ segments → AreMet (state_of word heap) (n + 256) segments
    each some front [] is = tt
    each some front (segment ∷ segments) is = (
      run_met sound some n none front segment segments is,
      each some (front ++ segment ∷ []) segments (is ∙ sym (append_assoc front (segment ∷ []) segments)),
    )

    go : (segments : List Segment) → segments_of word heap ≡ segments → AreTold (word heap.system) heap segments →
        AreMet (state_of word heap) (n + 256) segments
    go [] is told = tt
    go (segment ∷ segments) is told = each told.0 [] (segment ∷ segments) is
