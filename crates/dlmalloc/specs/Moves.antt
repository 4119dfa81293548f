-- A move of the heap: some extents give way to others.
use Rattle.std.specs.Prelude.{◌≡◌, ◌≢◌, ℕ, ◌+◌, ◌<◌, ⊤, List, [], ◌∷◌, ◌++◌, filter}
use Rattle.heap_memory.specs.declared.grant.Grant.{Grant}
use Rattle.heap_memory.specs.Regions.{IsWordOf}
use Rattle.dlmalloc_chunks.specs.declared.extent.Extent.{Extent}
use Rattle.dlmalloc_chunks.specs.declared.extent.Kind.{Kind}
use Rattle.dlmalloc_chunks.specs.declared.extent.Kind.TheVariants.{Used, Free, Victim, Top, Record, Foot}
use Rattle.dlmalloc.specs.Extents.{is_used, Tiles, last_kind}
use Rattle.dlmalloc.specs.State.{Segment}

-- A word is at no boundary of an extent: not its head, and not the word after a free one, since its size stands there.
abbrev pub IsSpared : ℕ → Kind → ℕ → ℕ → Type 0
IsSpared k Used at size = k ≢ at + 8
IsSpared k Free at size = (k ≢ at + 8) × (k ≢ at + size)
IsSpared k Victim at size = (k ≢ at + 8) × (k ≢ at + size)
IsSpared k Top at size = k ≢ at + 8
IsSpared k Record at size = k ≢ at + 8
IsSpared k Foot at size = k ≢ at + 8

abbrev pub AllSpare : List Extent → ℕ → Type 0
AllSpare [] k = ⊤
AllSpare (extent ∷ extents) k = IsSpared k extent.kind extent.at extent.size × AllSpare extents k

-- A run of extents gives way to others, from the same address on and after the same kind, and the words are as these
-- say. All granted words stay but those at boundaries of the others.
pub record IsMove (regions : List Grant) (old new : ℕ → ℕ) (before : Kind) (from to to' : ℕ) (less more : List Extent) : Type 0 where
  pub less_stand : Tiles old before from less to
  pub more_stand : Tiles new before from more to'
  pub kept : (k : ℕ) → IsWordOf regions k → AllSpare more k → new k ≡ old k

-- those of some extents that are in use
abbrev pub used_of : List Extent → List Extent
used_of extents = filter (λ extent. is_used extent.kind) extents

-- of two lists, one has one more extent in use
pub record HasMore (less more : List Extent) (one : Extent) : Type 0 where
  pub front : List Extent
  pub back : List Extent
  pub fewer : used_of less ≡ front ++ back
  pub further : used_of more ≡ front ++ one ∷ back

-- where a run of extents stands in a heap
pub record IsRunOf (words : ℕ → ℕ) (segments : List Segment) (from to : ℕ) (run : List Extent) : Type 0 where
  pub front : List Segment
  pub segment : Segment
  pub back : List Segment
  pub is : segments ≡ front ++ segment ∷ back
  pub first : List Extent
  pub last : List Extent
  pub extents : segment.extents ≡ first ++ (run ++ last)
  pub first_stand : Tiles words Used segment.base first from
  pub here : Tiles words (last_kind Used first) from run to
  pub last_stand : Tiles words (last_kind (last_kind Used first) run) to last (segment.base + segment.size)
  pub some : from < to
