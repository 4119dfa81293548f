-- What a free or a trim does to its system: it gives regions back, and is granted none.
use Rattle.std.specs.Prelude.{◌≡◌, ℕ, Bool, true, false, if◌then◌else◌, List, [], ◌∷◌, ◌++◌}
use Rattle.std.proofs.Common.{refl}
use Rattle.heap_memory.specs.Events.{Event, Granted, Refused, Released}
use Rattle.heap_memory.specs.Runs.{begins_in}
use Rattle.dlmalloc.specs.AfterFree.{is_above_check, free_releases}
use Rattle.dlmalloc.specs.Released.{releases, handed_out, taken_back, left_by_count}
use Rattle.dlmalloc.specs.State.{HeapState, Segment}
use Rattle.dlmalloc.specs.Trimmed.{cut_of, is_cut, cut_off, end_released, is_trimmed, trim_releases}
use Rattle.heap_arena.specs.Arena.{grants_in}

module _ (base end : ℕ) where
  none_of_both : (a b : List Event) → grants_in base end a ≡ [] → grants_in base end b ≡ [] → grants_in base end (a ++ b) ≡ []
  none_of_both [] b first second = second
  none_of_both (Granted size grant ∷ a) b first second = go (begins_in base end grant) first (λ is. none_of_both a b is second)
    where
      go : (own : Bool) → (if own then grant ∷ grants_in base end a else grants_in base end a) ≡ [] → (grants_in base end a ≡ [] → grants_in base end (a ++ b) ≡ []) →
          (if own then grant ∷ grants_in base end (a ++ b) else grants_in base end (a ++ b)) ≡ []
      go true is rest = absurd cc
      go false is rest = rest is
  none_of_both (Refused size fault ∷ a) b first second = none_of_both a b first second
  none_of_both (Released at old_size new_size ∷ a) b first second = none_of_both a b first second

  of_either : (is : Bool) → (a b : List Event) → grants_in base end a ≡ [] → grants_in base end b ≡ [] → grants_in base end (if is then a else b) ≡ []
  of_either true a b first second = first
  of_either false a b first second = second

  segments_back : (segments : List Segment) → grants_in base end (releases segments) ≡ []
  segments_back [] = refl
  segments_back (segment ∷ segments) = segments_back segments

  end_back : (less : ℕ) (segments : List Segment) → grants_in base end (end_released less segments) ≡ []
  end_back less [] = refl
  end_back less (head ∷ rest) = refl

  pub trim_back : (frees parts : Bool) (unit pad : ℕ) (heap : HeapState) → grants_in base end (trim_releases frees parts unit pad heap) ≡ []
  trim_back frees parts unit pad heap =
      let segments = taken_back frees (handed_out parts heap.segments) in
      of_either (is_trimmed pad heap) (cut_off parts unit pad heap ++ releases segments) []
      (none_of_both (cut_off parts unit pad heap) (releases segments)
      (of_either (is_cut parts unit pad heap) (end_released (cut_of heap pad) heap.segments) [] (end_back (cut_of heap pad) heap.segments) refl)
      (segments_back segments))
      refl

  pub free_back : (frees parts : Bool) (unit : ℕ) (heap : HeapState) (at : ℕ) → grants_in base end (free_releases frees parts unit heap at) ≡ []
  free_back frees parts unit heap at =
      of_either (is_above_check heap at) (trim_releases frees parts unit 0 heap) (releases (left_by_count frees parts heap at))
      (trim_back frees parts unit 0 heap) (segments_back (left_by_count frees parts heap at))
