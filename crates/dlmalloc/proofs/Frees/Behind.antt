-- What stands after a chunk in use.
use Rattle.dlmalloc.proofs.Names.{◌≡◌, ◌≢◌, ℕ, ◌+◌, inl, false, ◌==◌, List, [], ◌∷◌, ◌++◌, Some, refl, sym, ◌∙◌, ap, subst, arith, Grant, Extent, Used, Top, extent_at, extents_in, IsBoundary, IsRunOf, segments_of, state_of, IsSound, Dlmalloc}
use Rattle.dlmalloc.proofs.Extents.Lookup.{extent, nat_isnt, found_here}
use Rattle.dlmalloc.proofs.Extents.OneMoreUsed.{AreDistinct, tiles_distinct}
use Rattle.dlmalloc.proofs.Segments.Among.{distinct_later, among_all}
use Rattle.dlmalloc.proofs.Extents.Top.{is_top, the_top}
use Rattle.dlmalloc.proofs.Extents.RunReplaced.{run_of, run_part, HasNext, has_next, behind}

module _ {A : Type 0} {regions : A → List Grant} {word : A → ℕ → ℕ} {heap : Dlmalloc A} (sound : IsSound regions word heap) {at size : ℕ}
    (there : extent_at at (extents_in (state_of word heap)) ≡ Some (extent at size Used)) where
  abbrev chunk : Extent
  chunk = extent at size Used

  abbrev pub run_one : IsRunOf (word heap.system) (segments_of word heap) at (at + size) (chunk ∷ [])
  run_one = run_of (regions heap.system) (word heap.system) (segments_of word heap) sound.segments there

  abbrev pub next : HasNext run_one.last
  next = has_next (regions heap.system) sound.segments run_one refl

  pub place : next.next.at ≡ at + size
  place = (behind (regions heap.system) sound.segments run_one next).0

  extents : run_one.segment.extents ≡ run_one.first ++ (chunk ∷ next.next ∷ next.rest)
  extents = run_one.extents ∙ ap (λ es. run_one.first ++ (chunk ∷ es)) next.is

  pub in_segment : extent_at next.next.at run_one.segment.extents ≡ Some next.next
  in_segment =
      let part = run_part (regions heap.system) sound.segments run_one in
      let other : (at == next.next.at) ≡ false = nat_isnt (inl (let some = run_one.some in let p = place in omega arith)) in
      let here : extent_at next.next.at (chunk ∷ next.next ∷ next.rest) ≡ Some next.next = rw other (found_here next.next next.rest) in
      ap (extent_at next.next.at) extents ∙ distinct_later run_one.first (chunk ∷ next.next ∷ next.rest) next.next.at (subst AreDistinct extents
      (tiles_distinct (word heap.system) Used run_one.segment.base run_one.segment.extents (run_one.segment.base + run_one.segment.size) part.extents)) here

  -- a top there is the heap's
  pub next_top : at + size ≡ heap.top → next.next ≡ extent heap.top heap.top_size Top
  next_top is = the_top sound run_one.front run_one.segment run_one.back run_one.is in_segment (place ∙ is)

  pub no_top : at + size ≢ heap.top → next.next.kind ≢ Top
  no_top isnt kind = isnt (sym place ∙ (is_top sound run_one.front run_one.segment run_one.back run_one.is (in_segment
      ∙ (λ i. Some (extent next.next.at next.next.size (kind i))))).1)

  pub next_there : extent_at next.next.at (extents_in (state_of word heap)) ≡ Some next.next
  next_there = among_all (regions heap.system) (word heap.system) sound.segments sound.apart run_one.front run_one.segment run_one.back run_one.is
      next.next.at in_segment

  -- a head does
  pub next_boundary : IsBoundary (state_of word heap) (at + size + 8)
  next_boundary = record { extent = next.next; there = next_there; is = inl (ap (λ a. a + 8) (sym place)) }
