-- The end of the top goes back to the system (dlmalloc: `sys_trim`).
use Rattle.std.specs.Prelude.{ℕ, ◌+◌, ◌-◌, ◌*◌, ◌/◌, ◌%◌, ◌^◌, Bool, false, ◌&&◌, ◌||◌, ◌==◌, nat_lt, if◌then◌else◌, List, [], ◌∷◌, ◌++◌, map, length}
use Rattle.heap_memory.specs.declared.grant.Grant.{Grant}
use Rattle.heap_memory.specs.Events.{Event, Released}
use Rattle.heap_memory.specs.Runs.{without_run, is_in_units}
use Rattle.dlmalloc_chunks.specs.Request.{limit}
use Rattle.dlmalloc_chunks.specs.declared.extent.Extent.{Extent}
use Rattle.dlmalloc_chunks.specs.declared.extent.Kind.{Kind}
use Rattle.dlmalloc_chunks.specs.declared.extent.Kind.TheVariants.{Top, Foot}
use Rattle.dlmalloc.specs.State.{HeapState, Segment, extents_in, is_top, size_where, trim_threshold}
use Rattle.dlmalloc.specs.Released.{handed_out, taken_back, bytes_of, releases, regions_without, passed}

-- the bytes of the top, 0 if there is none
abbrev pub top_bytes : HeapState → ℕ
top_bytes heap = size_where (λ extent. is_top extent.kind) (extents_in heap)

-- What a trim cuts off the top: the most whole granularities that leave it more than `pad` bytes besides the 80 of a
-- foot.
abbrev pub cut_of : HeapState → ℕ → ℕ
cut_of heap pad = if nat_lt (pad + 80) (top_bytes heap) then (top_bytes heap - pad - 80 - 1) / heap.granularity * heap.granularity else 0

-- ---- the head segment without its last bytes

-- its extents: the top is shorter, and its foot moves
abbrev pub shrunk : ℕ → Extent → Extent
shrunk less extent = shrunk_as extent.kind
  where
    shrunk_as : Kind → Extent
    shrunk_as Top = record extent { size = extent.size - less }
    shrunk_as Foot = record extent { at = extent.at - less }
    shrunk_as kind = extent

abbrev pub shortened : ℕ → Segment → Segment
shortened less segment = record segment { size = segment.size - less; extents = map (shrunk less) segment.extents }

-- the same of the heap; its trim check begins anew
abbrev pub cut_top : ℕ → HeapState → HeapState
cut_top less heap = cut_from heap.segments
  where
    cut_from : List Segment → HeapState
    cut_from [] = heap
    cut_from (head ∷ rest) = record heap { segments = shortened less head ∷ rest; trim_check = trim_threshold }

-- ---- a trim

-- Whether a system may be asked for the last bytes of a segment, a given number of them: there are some, the segment is
-- not extern, as bit 0 of its flags says, and the system takes parts.
abbrev pub may_go : Bool → ℕ → Segment → Bool
may_go parts less segment = nat_lt 0 less && segment.flags % 2 == 0 && parts

-- and whether it takes them: the rest is made of its units
abbrev pub takes_end : Bool → ℕ → ℕ → Segment → Bool
takes_end parts unit less segment = may_go parts less segment && is_in_units unit (segment.size - less)

-- whether a trim cuts the top
abbrev pub is_cut : Bool → ℕ → ℕ → HeapState → Bool
is_cut parts unit pad heap = is_cut_in heap.segments
  where
    is_cut_in : List Segment → Bool
    is_cut_in [] = false
    is_cut_in (head ∷ rest) = takes_end parts unit (cut_of heap pad) head

-- the heap after that, before segments go back that are not in use
abbrev pub after_cut : Bool → ℕ → ℕ → HeapState → HeapState
after_cut parts unit pad heap = if is_cut parts unit pad heap then cut_top (cut_of heap pad) heap else heap

-- If a trim gave nothing back, though the top is above the trim check, no later one is tried: the trim check is the
-- greatest of a u64, until the top is another, longer or cut.
abbrev pub given_up : HeapState → HeapState
given_up heap = if nat_lt heap.trim_check (top_bytes heap) then record heap { trim_check = 2 ^ 64 - 1 } else heap

-- A trim is made if there is a segment, and a request for `pad` bytes is not too large.
abbrev pub is_trimmed : ℕ → HeapState → Bool
is_trimmed pad heap = nat_lt pad (limit heap.granularity) && nat_lt 0 (length heap.segments)

-- whether it gives bytes back: it cuts the top, or segments leave in its release pass
abbrev pub gives_back : Bool → Bool → ℕ → ℕ → HeapState → Bool
gives_back frees parts unit pad heap = is_cut parts unit pad heap || nat_lt 0 (bytes_of (taken_back frees (handed_out parts heap.segments)))

-- The heap after a trim: the top is cut, a release pass is made, and if neither gave bytes back, it may give up.
abbrev pub trimmed : Bool → Bool → ℕ → ℕ → HeapState → HeapState
trimmed frees parts unit pad heap =
    let after = passed frees parts (after_cut parts unit pad heap) in
    if is_trimmed pad heap then (if gives_back frees parts unit pad heap then after else given_up after) else heap

-- ---- what the system gets by it

-- the last bytes of the head segment
abbrev pub end_released : ℕ → List Segment → List Event
end_released less [] = []
end_released less (head ∷ rest) = Released head.base head.size (head.size - less) ∷ []

abbrev pub without_end : ℕ → List Segment → List Grant → List Grant
without_end less [] regions = regions
without_end less (head ∷ rest) regions = without_run (head.base + (head.size - less)) (head.base + head.size) regions

-- which are those of the cut
abbrev pub cut_off : Bool → ℕ → ℕ → HeapState → List Event
cut_off parts unit pad heap = if is_cut parts unit pad heap then end_released (cut_of heap pad) heap.segments else []

abbrev pub regions_cut : Bool → ℕ → ℕ → HeapState → List Grant → List Grant
regions_cut parts unit pad heap regions = if is_cut parts unit pad heap then without_end (cut_of heap pad) heap.segments regions else regions

-- and then segments
abbrev pub trim_releases : Bool → Bool → ℕ → ℕ → HeapState → List Event
trim_releases frees parts unit pad heap =
    if is_trimmed pad heap then cut_off parts unit pad heap ++ releases (taken_back frees (handed_out parts heap.segments)) else []

abbrev pub regions_trimmed : Bool → Bool → ℕ → ℕ → HeapState → List Grant → List Grant
regions_trimmed frees parts unit pad heap regions =
    if is_trimmed pad heap then regions_without (taken_back frees (handed_out parts heap.segments)) (regions_cut parts unit pad heap regions) else regions
