-- A region is granted to the heap (dlmalloc: `sys_alloc`).
use Rattle.std.specs.Prelude.{ℕ, ◌+◌, ◌-◌, ◌%◌, Bool, false, not, ◌&&◌, ◌==◌, if◌then◌else◌, List, [], ◌∷◌, map, flat_map}
use Rattle.std.specs.List.{list_any}
use Rattle.heap_memory.specs.declared.grant.Grant.{Grant}
use Rattle.dlmalloc_chunks.specs.declared.extent.Extent.{Extent}
use Rattle.dlmalloc_chunks.specs.declared.extent.Kind.{Kind}
use Rattle.dlmalloc_chunks.specs.declared.extent.Kind.TheVariants.{Used, Free, Top, Record, Foot}
use Rattle.dlmalloc.specs.State.{HeapState, Segment, countdown_from, trim_threshold}
use Rattle.dlmalloc.specs.Freed.{freed}

-- the top up to 80 bytes before an address, and the foot after it
abbrev pub top_and_foot : ℕ → ℕ → List Extent
top_and_foot top end = (record { at = top; size = end - 80 - top; kind = Top }) ∷ (record { at = end - 80; size = 80; kind = Foot }) ∷ []

-- a segment of its own is all top and foot
abbrev pub opened : Grant → Segment
opened grant = record { base = grant.base; size = grant.size; flags = grant.flags; extents = top_and_foot grant.base (grant.base + grant.size) }

-- ---- a grant becomes part of a segment

-- A grant may become part of a segment if neither is extern, as bit 0 of the flags says, and if their flags are equal.
abbrev pub may_join : Grant → Segment → Bool
may_join grant segment = grant.flags % 2 == 0 && grant.flags == segment.flags

-- whether it begins where such a segment ends, or ends where one begins
abbrev pub is_behind : Grant → Segment → Bool
is_behind grant segment = grant.base == segment.base + segment.size && may_join grant segment

abbrev pub is_before : Grant → Segment → Bool
is_before grant segment = segment.base == grant.base + grant.size && may_join grant segment

-- the extents of the head segment, when more bytes are added after it: the top grows, and its foot moves
abbrev pub grown : ℕ → Extent → Extent
grown more extent = grown_as more extent extent.kind
  where
    grown_as : ℕ → Extent → Kind → Extent
    grown_as more extent Top = record extent { size = extent.size + more }
    grown_as more extent Foot = record extent { at = extent.at + more }
    grown_as more extent kind = extent

abbrev pub extended : ℕ → Segment → Segment
extended more segment = record segment { size = segment.size + more; extents = map (grown more) segment.extents }

-- A grant stands before a segment, in two parts: the first n bytes, and the others. Both are in use.
abbrev pub put_before : Grant → ℕ → Segment → Segment
put_before grant n segment = record segment {
  base = grant.base;
  size = grant.size + segment.size;
  extents = (record { at = grant.base; size = n; kind = Used }) ∷ (record { at = grant.base + n; size = grant.size - n; kind = Used }) ∷ segment.extents;
}

-- the same before the one of the segments that it may join there
abbrev pub joined : Grant → ℕ → Segment → Segment
joined grant n segment = if is_before grant segment then put_before grant n segment else segment

abbrev pub prepended : Grant → ℕ → HeapState → HeapState
prepended grant n heap = record heap { segments = map {B = Segment} (joined grant n) heap.segments }

-- ---- a grant becomes the head segment

-- What was the top is a free extent with a record of 80 bytes after it, or if it has only 16 bytes, part of a record of
-- 96.
abbrev pub closed : Extent → List Extent
closed extent = closed_as extent extent.kind
  where
    closed_as : Extent → Kind → List Extent
    closed_as extent Top =
        if extent.size == 16
        then (record { at = extent.at; size = 96; kind = Record }) ∷ []
        else (record extent { kind = Free }) ∷ (record { at = extent.at + extent.size; size = 80; kind = Record }) ∷ []
    closed_as extent Foot = []
    closed_as extent kind = extent ∷ []

-- the head segment, when another becomes the head
abbrev pub without_top : Segment → Segment
without_top segment = record segment { extents = flat_map closed segment.extents }

-- ---- where a grant goes

-- whether it is after the head segment
abbrev pub is_behind_head : Grant → List Segment → Bool
is_behind_head grant [] = false
is_behind_head grant (head ∷ rest) = is_behind grant head

-- whether it is put before one of the segments: it does not make the head segment longer
abbrev pub is_put_before : Grant → List Segment → Bool
is_put_before grant [] = false
is_put_before grant (head ∷ rest) = not (is_behind grant head) && list_any (is_before grant) (head ∷ rest)

-- The heap with a grant, from which a chunk of n bytes is to be cut. The first grant is the head segment, and begins
-- the countdown. A grant at the end of the head segment makes its top longer. Else one before a segment becomes part of
-- it: the chunk is cut from its start, and what is left of it is freed. Any other is the new head segment. The trim
-- check is set if the top is another or longer, but not if the grant is put before a segment.
abbrev pub granted : Grant → ℕ → HeapState → HeapState
granted grant n heap = granted_to heap.segments
  where
    granted_to : List Segment → HeapState
    granted_to [] = record heap { segments = opened grant ∷ []; countdown = countdown_from heap.rate; trim_check = trim_threshold }
    granted_to (head ∷ rest) =
        if is_behind grant head then record heap { segments = extended grant.size head ∷ rest; trim_check = trim_threshold } else
        if list_any (is_before grant) (head ∷ rest) then freed (prepended grant n heap) (grant.base + n) else
        record heap { segments = opened grant ∷ without_top head ∷ rest; trim_check = trim_threshold }
