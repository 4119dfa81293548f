use Rattle.std.proofs.Common.{◌≡◌, ◌-◌, ◌≤◌, ◌∙◌, List, Some, refl, sym, ap, arith}
use Rattle.std.specs.Prelude.{option_map}
use Rattle.dlmalloc_chunks.specs.declared.extent.Extent.{Extent}
use Rattle.dlmalloc_chunks.specs.declared.extent.Kind.TheVariants.{Used}
use Rattle.dlmalloc.specs.Extents.{extent_at}
use Rattle.dlmalloc.specs.State.{extents_in, shown}
use Rattle.dlmalloc.specs.Heap.{state_of}
use Rattle.dlmalloc.proofs.Extents.Lookup.{extent}
use Rattle.dlmalloc.proofs.Laws.{used_inside}
use Rattle.paged_systems_rows.proofs.TwinHeaps.{regions, word, told, listed}
use Rattle.paged_systems_rows.proofs.twin_rows.chunk_of.Goals as goal

pub returns : goal.returns
returns g c =
    let heap = c.args.heap.now in
    let state = state_of word heap in
    let at = c.args.address - 16 in
    let size = c.in-Some-Used-default.size in
    let low : 16 ≤ c.args.address = omega arith in
    let is : option_map told (option_map (shown state) (extent_at at (extents_in state))) ≡ Some (Used, size) =
    sym (ap (λ (l : List Extent). option_map told (extent_at at l)) c.as_slice.ensures ∙ ap (option_map told) (c.in_ok-extents.ensures.found at))
    ∙ (sym c.chunk_at.ensures ∙ (c.in-Some-Used-default.is ∙ (λ i. Some (c.in-Some-Used-default.field-0-0-is i, size)))) in
    let there = listed state at size is in
    (low, (used_inside regions word heap c.law_intact.ensures.sound (extent at size Used) refl there).long, there)
