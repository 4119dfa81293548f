use Rattle.std.proofs.Common.{◌≡◌, ℕ, ◌-◌, ◌≤◌, Bool, true, false, if◌then◌else◌, Option, Some, None, refl, sym, ◌∙◌, ap, subst, arith, option_map}
use Rattle.std.specs.Prelude.{unwrap_or}
use Rattle.heap_memory.specs.FlatSystem.{regions_of, word_of}
use Rattle.dlmalloc_chunks.specs.declared.extent.Extent.{Extent}
use Rattle.dlmalloc_chunks.specs.declared.extent.Kind.{Kind}
use Rattle.dlmalloc_chunks.specs.declared.extent.Kind.TheVariants.{Used, Victim}
use Rattle.dlmalloc.specs.Extents.{extent_at}
use Rattle.dlmalloc.specs.State.{HeapState, extents_in, is_victim, shown}
use Rattle.dlmalloc.specs.Heap.{state_of}
use Rattle.dlmalloc.proofs.Extents.Lookup.{extent, found}
use Rattle.dlmalloc.proofs.Laws.{used_inside}
use Rattle.dlmalloc_rows.proofs.calls.chunk_of.Goals as goal

abbrev told : Extent → Kind × ℕ
told extent = (extent.kind, extent.size)

-- an extent that is listed as in use is one
listed : (heap : HeapState) (at size : ℕ) → option_map told (option_map (shown heap) (extent_at at (extents_in heap))) ≡ Some (Used, size) →
    extent_at at (extents_in heap) ≡ Some (extent at size Used)
listed heap at size is = go (extent_at at (extents_in heap)) refl is
  where
    as_used : (one : Extent) → extent_at at (extents_in heap) ≡ Some one → (victim : Bool) → is_victim heap one ≡ victim →
        Some (told (shown heap one)) ≡ Some (Used, size) → extent_at at (extents_in heap) ≡ Some (extent at size Used)
    as_used one there true test is =
        let other : Some (Victim, one.size) ≡ Some (Used, size) = subst (λ b.
        Some (told (if b then record one { kind = Victim } else one)) ≡ Some (Used, size)) test is in
        let kinds : Victim ≡ Used = ap (λ (o : Option (Kind × ℕ)). (unwrap_or o (Used, size)).0) other in
        absurd (cc)
    as_used one there false test is =
        let same : Some (told one) ≡ Some (Used, size) = subst (λ b. Some
        (told (if b then record one { kind = Victim } else one)) ≡ Some (Used, size)) test is in
        let kinds : one.kind ≡ Used = ap (λ (o : Option (Kind × ℕ)). (unwrap_or o (Used, size)).0) same in
        let sizes : one.size ≡ size = ap (λ (o : Option (Kind × ℕ)). (unwrap_or o (Used, size)).1) same in
        let place : one.at ≡ at = (found at one (extents_in heap) there).place in
        there ∙ (λ i. Some (extent (place i) (sizes i) (kinds i)))

    go : (one : Option Extent) → extent_at at (extents_in heap) ≡ one → option_map told (option_map (shown heap) one) ≡ Some (Used, size) →
        extent_at at (extents_in heap) ≡ Some (extent at size Used)
    go None there is = absurd (cc)
    go (Some one) there is = as_used one there (is_victim heap one) refl is

pub returns : goal.returns
returns g c =
    let heap = c.args.heap.now in let state = state_of word_of heap in let at = c.args.address - 16 in
    let size = c.in-Some-Used-default.size in
    let low : 16 ≤ c.args.address = omega arith in
    let is : option_map told (option_map (shown state) (extent_at at (extents_in state))) ≡ Some (Used, size) =
    sym (ap (λ l. option_map told (extent_at at l)) c.as_slice.ensures ∙ ap (option_map told) (c.in_ok-extents.ensures.found at))
    ∙ (sym c.chunk_at.ensures ∙ (c.in-Some-Used-default.is ∙ (λ i. Some (c.in-Some-Used-default.field-0-0-is i, size)))) in
    let there = listed state at size is in
    (low, (used_inside regions_of word_of heap c.requires (extent at size Used) refl there).long, there)
