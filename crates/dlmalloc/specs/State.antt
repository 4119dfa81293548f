-- The state of a heap: its segments with their extents, and the numbers that steer it.
use Rattle.std.specs.Prelude.{ℕ, ◌-◌, ◌^◌, Bool, true, false, not, ◌&&◌, ◌==◌, nat_lt, if◌then◌else◌, List, [], ◌∷◌, flat_map, find, unwrap_or, option_map}
use Rattle.dlmalloc_chunks.specs.declared.extent.Extent.{Extent}
use Rattle.dlmalloc_chunks.specs.declared.extent.Kind.{Kind}
use Rattle.dlmalloc_chunks.specs.declared.extent.Kind.TheVariants.{Used, Free, Victim, Top, Record, Foot}
pub use Rattle.dlmalloc_chunks.specs.Kinds.{is_top}

-- a run of granted bytes, and the extents that tile it
pub record Segment : Type 0 where
  pub base : ℕ
  pub size : ℕ
  pub flags : ℕ
  pub extents : List Extent

pub record HeapState : Type 0 where
  -- the head first; it ends with the top and its foot
  pub segments : List Segment
  -- where the free extent that is cut first for small requests begins, 0 if there is none
  pub victim : ℕ
  -- regions are asked for in multiples of this number of bytes
  pub granularity : ℕ
  -- how many large chunks are freed between two release passes, and how many of them are left
  pub rate : ℕ
  pub countdown : ℕ
  -- a free that leaves the top longer than this many bytes gives some of it back
  pub trim_check : ℕ

-- the extents of all segments
abbrev pub extents_in : HeapState → List Extent
extents_in heap = flat_map (λ segment. segment.extents) heap.segments

-- an item before the first that has a greater key
abbrev pub with_item : {X : Type 0} → (X → ℕ) → X → List X → List X
with_item key item [] = item ∷ []
with_item key item (first ∷ rest) = if nat_lt (key item) (key first) then item ∷ first ∷ rest else first ∷ with_item key item rest

-- segments by ascending address
abbrev pub by_address : List Segment → List Segment
by_address [] = []
by_address (segment ∷ segments) = with_item (λ (one : Segment). one.base) segment (by_address segments)

-- the extents of all segments, by ascending address
abbrev pub extents_by_address : HeapState → List Extent
extents_by_address heap = flat_map (λ segment. segment.extents) (by_address heap.segments)

-- whether an extent is free and not the top
abbrev pub is_free_below_top : Kind → Bool
is_free_below_top Used = false
is_free_below_top Free = true
is_free_below_top Victim = true
is_free_below_top Top = false
is_free_below_top Record = false
is_free_below_top Foot = false

-- whether it is the victim, or else in a bin
abbrev pub is_victim : HeapState → Extent → Bool
is_victim heap extent = is_free_below_top extent.kind && extent.at == heap.victim

abbrev pub is_binned : HeapState → Extent → Bool
is_binned heap extent = is_free_below_top extent.kind && not (extent.at == heap.victim)

-- an extent, with the victim distinguished from the other free ones
abbrev pub shown : HeapState → Extent → Extent
shown heap extent = if is_victim heap extent then record extent { kind = Victim } else extent

-- the size of the first extent that is of some sort, 0 if none is
abbrev pub size_where : (Extent → Bool) → List Extent → ℕ
size_where is extents = unwrap_or (option_map (λ extent. extent.size) (find is extents)) 0

-- a countdown that begins: a rate of 0 stands for the greatest number
abbrev pub countdown_from : ℕ → ℕ
countdown_from rate = if rate == 0 then 2 ^ 64 - 1 else rate

-- the trim check of a heap that was granted a region, in bytes (dlmalloc: DEFAULT_TRIM_THRESHOLD)
abbrev pub trim_threshold : ℕ
trim_threshold = 2097152

-- a new heap (dlmalloc: `Dlmalloc::new`)
abbrev pub new_heap : HeapState
new_heap = record { segments = []; victim = 0; granularity = 65536; rate = 4095; countdown = 0; trim_check = 0 }
