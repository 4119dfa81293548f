-- Of a region that was granted for a block that moves, some byte is granted still as the old block was freed: the new block
-- has one, or the head segment stays whole.
use Rattle.dlmalloc.proofs.Names.{◌≡◌, ℕ, ◌+◌, ◌-◌, ◌<◌, ◌≤◌, inl, inr, Bool, List, Some, IsTrue, refl, sym, ◌∙◌, ap, subst, arith, dec_lt, AllByRecursion, IsPowerOfTwo, Grant, Event, IsApart, is_granted, with_grant, padded, enlarged, Extent, extent_at, HeapState, extents_in, granted, IsBlock, IsInside, segments_of, state_of, IsSound, IsBehindTop, IsTakenFromGrant, IsObtained, IsServed, spans, IsServedAligned, IsElsewhere, Dlmalloc}
use Rattle.dlmalloc.specs.Moved.{HasByteOf}
use Rattle.dlmalloc.proofs.Extents.Lookup.{found}
use Rattle.dlmalloc.proofs.Segments.RegionsMore.{with_other, one_more, none_granted}
use Rattle.dlmalloc.proofs.Segments.HeadTop.{some_segment, ends}
use Rattle.dlmalloc.proofs.Laws.{used_inside}
use Rattle.dlmalloc.proofs.Requests.AlignedPlace.{is_place}
use Rattle.dlmalloc.proofs.Requests.Aligned.{padded_holds, enlarged_is}
use Rattle.dlmalloc.proofs.Blocks.HandedOut.{spans_aligned, spans_new}
use Rattle.dlmalloc.proofs.Segments.Head.{HasSameFirst, first_spans, first_granted, first_told, first_end, top_place, head_granted, beside_top}

-- the chunk of a block
module _ {A : Type 0} {regions : A → List Grant} {word : A → ℕ → ℕ} {heap : Dlmalloc A} (sound : IsSound regions word heap) {address size : ℕ}
    (block : IsBlock (state_of word heap) address size) where
  chunk_place : block.extent.at ≡ address - 16
  chunk_place = (found (address - 16) block.extent (extents_in (state_of word heap)) block.there).place

  chunk_there : extent_at block.extent.at (extents_in (state_of word heap)) ≡ Some block.extent
  chunk_there = ap (λ a. extent_at a (extents_in (state_of word heap))) chunk_place ∙ block.there

  chunk_inside : IsInside (regions heap.system) block.extent
  chunk_inside = used_inside regions word heap sound block.extent block.used chunk_there

  -- its first byte is granted
  chunk_granted : IsTrue (is_granted (regions heap.system) block.extent.at)
  chunk_granted = chunk_inside.granted block.extent.at (omega arith) (omega (arith, chunk_inside.long))

module _ {A : Type 0} {regions : A → List Grant} {word : A → ℕ → ℕ} {zeros : A → Bool} {follows : A → List Event → A → Type 0} {frees parts : Bool} {unit : ℕ}
    {old new : Dlmalloc A} {from held align size address n : ℕ} (sound : IsSound regions word old)
    (power : IsPowerOfTwo align) (block : IsBlock (state_of word old) from n)
    (out : IsElsewhere regions word zeros follows frees parts unit old from held align size address new) where
  abbrev chunk : Extent
  chunk = out.block.extent

  some : 0 < old.size
  some = some_segment word old block.extent.at (chunk_there sound block)

  -- a region was granted for a chunk, in which the new block's begins
  module _ {bytes at : ℕ} {grant : Grant} {heap : HeapState} (taken : IsTakenFromGrant (state_of word old) bytes at grant heap)
      (fresh : AllByRecursion (IsApart grant.base (grant.base + grant.size)) (regions old.system)) (stays : spans (state_of word out.filled) ≡ spans heap)
      (low : at ≤ chunk.at) (high : chunk.at < at + bytes) where
    -- after the head segment
    module _ (behind : IsBehindTop (state_of word old) grant at) where
      end : grant.base ≡ old.base + old.size
      end = first_end sound grant behind.0

      first : HasSameFirst (segments_of word out.filled) (granted grant bytes (state_of word old)).segments
      first = first_spans (state_of word out.filled) (granted grant bytes (state_of word old)) (stays ∙ (spans_new taken).0)

      longer : (out.filled.base ≡ old.base) × (out.filled.size ≡ old.size + grant.size)
      longer =
          let told = first_told sound in let told_then = first_told out.same.sound in
          let more = first_granted grant bytes (state_of word old) behind.0 in
          let bytes_then : out.filled.size ≡ old.size + grant.size = told_then.0 ∙ (first.1 ∙ (more.1 ∙ ap (λ n. n + grant.size) (sym told.0))) in
          (told_then.1 (omega (arith, some)) ∙ (first.0 ∙ (more.0 ∙ sym (told.1 some))), bytes_then)

      -- a block that was the last of the longer head segment would have been in the region
      not_last : chunk.at + chunk.size ≤ from - 16 → from - 16 < grant.base + grant.size → ⊥
      not_last before within = elim (beside_top sound some block.used (chunk_there sound block)) [
        | inl sooner ↦ omega (arith, chunk_place sound block, top_place sound behind.1.1, (chunk_inside sound block).long)
        | inr beyond ↦ none_granted grant.base (grant.base + grant.size) (regions old.system) fresh (from - 16)
            (omega (arith, end, chunk_place sound block)) within
            ((chunk_inside sound block).granted (from - 16) (omega (arith, chunk_place sound block))
            (omega (arith, chunk_place sound block, (chunk_inside sound block).long)))
      ]

      still_behind : HasByteOf grant (regions new.system)
      still_behind = elim (dec_lt chunk.at grant.base) [
        | yes below ↦ elim out.freed.head [
          | inl whole ↦ (
            grant.base,
            omega arith,
            omega arith,
            head_granted out.freed.sound (omega (arith, longer.1, some)) grant.base (omega (arith, end, longer.0)) (omega (arith, end, longer.0, longer.1)),
          )
          | inr last ↦ absurd (elim (last.behind chunk out.block.used (chunk_there out.freed.sound out.block)) [
            | inl before ↦ not_last before (omega (arith, longer.0, longer.1, end))
            | inr beyond ↦ omega (arith, longer.0, longer.1, end)
          ])
        ]
        | no above ↦ (chunk.at, omega arith, omega (arith, top_place sound behind.1.1, ends sound some, end), chunk_granted out.freed.sound out.block)
      ]

    still_new : HasByteOf grant (regions new.system)
    still_new = elim taken.place [
      | inl here ↦ (chunk.at, omega arith, omega arith, chunk_granted out.freed.sound out.block)
      | inr behind ↦ still_behind behind
    ]

  -- whichever way the chunk was cut
  still_cut : (middle : Dlmalloc A) (bytes at : ℕ) →
      IsObtained follows regions old.system (state_of word old) bytes at middle.system (state_of word middle) →
      spans (state_of word out.filled) ≡ spans (state_of word middle) → regions out.filled.system ≡ regions middle.system → at ≤ chunk.at →
      chunk.at < at + bytes → (grant : Grant) → regions out.filled.system ≡ with_grant grant (regions old.system) → HasByteOf grant (regions new.system)
  still_cut middle bytes at (inl here) stays same low high grant with_it = absurd (with_other grant (sym with_it ∙ (same ∙ here.2)))
  still_cut middle bytes at (inr cut) stays same low high grant with_it =
      subst (λ g. HasByteOf g (regions new.system)) (one_more cut.0 grant (regions old.system) (sym (same ∙ cut.3) ∙ with_it))
      (still_new cut.1 cut.4 stays low high)

  still_low : IsServed regions word zeros follows old size address out.middle →
      (grant : Grant) → regions out.filled.system ≡ with_grant grant (regions old.system) → HasByteOf grant (regions new.system)
  still_low served = still_cut out.middle (padded size) (address - 16) served.cut (ap spans out.same.state) out.same.regions_same
      (omega (arith, chunk_place out.freed.sound out.block)) (omega (arith, chunk_place out.freed.sound out.block, padded_holds size))

  still_high : 16 < align → IsServedAligned regions word zeros follows old size align address out.middle →
      (grant : Grant) → regions out.filled.system ≡ with_grant grant (regions old.system) → HasByteOf grant (regions new.system)
  still_high large served =
      let p = is_place (served.greater - 16) align power large (omega arith) in
      let more = enlarged_is size align {n = (padded size)} refl in
      still_cut served.middle (padded (enlarged size align)) (served.greater - 16) served.served.cut
      (ap spans out.same.state ∙ (ap spans served.state ∙ spans_aligned (state_of word served.middle) (served.greater - 16) align (padded size)))
      (out.same.regions_same ∙ served.regions_same) (omega (arith, chunk_place out.freed.sound out.block))
      (omega (arith, chunk_place out.freed.sound out.block, padded_holds (enlarged size align), padded_holds size))

  pub still_granted : (grant : Grant) → regions out.filled.system ≡ with_grant grant (regions old.system) → HasByteOf grant (regions new.system)
  still_granted = elim out.served [
    | inl few ↦ still_low few.1
    | inr many ↦ still_high many.0 many.1
  ]
