-- A block is freed, and joins the free extents beside it (dlmalloc: `dispose_chunk`).
use Rattle.std.specs.Prelude.{ℕ, ◌+◌, Bool, ◌&&◌, ◌==◌, nat_le, nat_lt, if◌then◌else◌, List, [], ◌∷◌, map, find, unwrap_or, option_map}
use Rattle.dlmalloc_chunks.specs.declared.extent.Extent.{Extent}
use Rattle.dlmalloc_chunks.specs.declared.extent.Kind.TheVariants.{Free}
use Rattle.dlmalloc.specs.Extents.{is_free}
use Rattle.dlmalloc.specs.State.{HeapState, extents_in, is_free_below_top}
use Rattle.dlmalloc.specs.Taken.{in_segments}

-- an extent before others, as one with the first of them if both are free; it is the top if the first is
abbrev pub before : Extent → List Extent → List Extent
before extent [] = extent ∷ []
before extent (next ∷ extents) =
    if is_free extent.kind && is_free next.kind
    then (record { at = extent.at; size = extent.size + next.size; kind = next.kind }) ∷ extents
    else extent ∷ next ∷ extents

-- the extents, with free ones that touch made one
abbrev pub merged : List Extent → List Extent
merged [] = []
merged (extent ∷ extents) = before extent (merged extents)

abbrev pub set_free : ℕ → Extent → Extent
set_free at extent = if extent.at == at then record extent { kind = Free } else extent

abbrev pub freed_in : ℕ → List Extent → List Extent
freed_in at extents = merged (map (set_free at) extents)

-- whether an extent is free, and no top, and has the byte at an address
abbrev pub has : ℕ → Extent → Bool
has at extent = is_free_below_top extent.kind && nat_le extent.at at && nat_lt at (extent.at + extent.size)

-- the victim is what the old victim is part of, unless that is the top
abbrev pub victim_in : ℕ → List Extent → ℕ
victim_in victim extents = unwrap_or (option_map (λ extent. extent.at) (find (has victim) extents)) 0

abbrev pub freed : HeapState → ℕ → HeapState
freed heap at =
    let segments = in_segments (freed_in at) heap.segments in
    record heap { segments = segments; victim = victim_in heap.victim (extents_in (record heap { segments = segments })) }
