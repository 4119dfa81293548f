-- A heap before and after some of its segments went back to the system.
use Rattle.std.specs.Prelude.{◌≡◌, ℕ, Bool, List, []}
use Rattle.heap_memory.specs.declared.grant.Grant.{Grant}
use Rattle.heap_memory.specs.Regions.{IsWordOf}
use Rattle.heap_memory.specs.Events.{Event}
use Rattle.dlmalloc.specs.State.{Segment, extents_in}
use Rattle.dlmalloc.specs.Blocks.{KeepsBlocks}
use Rattle.dlmalloc.specs.Boundaries.{IsInFree, IsInRecord}
use Rattle.dlmalloc.specs.Released.{handed_out, taken_back, releases, regions_without, bytes_of, passed, counted, left_by_count}
use Rattle.dlmalloc.specs.Grown.{HasSameUsed}
use Rattle.dlmalloc.specs.Order.{after_pass, after_count, IsReindexed}
use Rattle.dlmalloc.specs.Heap.{segments_of, state_of, IsSound}
use Rattle.dlmalloc.specs.declared.heap.Dlmalloc.{Dlmalloc}
use Rattle.dlmalloc.specs.declared.record.SegmentRecord.{SegmentRecord}

-- A release pass was made, in which `bytes` bytes went back. Of the words that are still granted only those in free
-- extents and of records changed, and the extents in use are the same.
pub record IsPassed {A : Type 0} (regions : A → List Grant) (word : A → ℕ → ℕ) (follows : A → List Event → A → Type 0) (frees parts : Bool) (old : Dlmalloc A) (bytes : ℕ) (new : Dlmalloc A) : Type 0 where
  pub state : state_of word new ≡ passed frees parts (state_of word old)
  pub bytes_are : bytes ≡ bytes_of (taken_back frees (handed_out parts (segments_of word old)))
  pub sound : IsSound regions word new
  pub used : HasSameUsed (state_of word old) (state_of word new)
  pub kept : KeepsBlocks (extents_in (state_of word old)) (word old.system) (word new.system)
  pub words : (k : ℕ) → IsWordOf (regions new.system) k → (IsInFree (state_of word old) k → ⊥) → (IsInRecord (state_of word old) k → ⊥) → word new.system k ≡ word old.system k
  pub regions_are : regions new.system ≡ regions_without (taken_back frees (handed_out parts (segments_of word old))) (regions old.system)
  pub followed : follows old.system (releases (taken_back frees (handed_out parts (segments_of word old)))) new.system
  pub index : IsReindexed regions word (after_pass frees parts (segments_of word old)) old new

-- A freed chunk was counted, and if the countdown ended, a release pass was made.
pub record IsCounted {A : Type 0} (regions : A → List Grant) (word : A → ℕ → ℕ) (follows : A → List Event → A → Type 0) (frees parts : Bool) (old : Dlmalloc A) (at : ℕ) (new : Dlmalloc A) : Type 0 where
  pub state : state_of word new ≡ counted frees parts (state_of word old) at
  pub sound : IsSound regions word new
  pub used : HasSameUsed (state_of word old) (state_of word new)
  pub kept : KeepsBlocks (extents_in (state_of word old)) (word old.system) (word new.system)
  pub words : (k : ℕ) → IsWordOf (regions new.system) k → (IsInFree (state_of word old) k → ⊥) → (IsInRecord (state_of word old) k → ⊥) → word new.system k ≡ word old.system k
  pub regions_are : regions new.system ≡ regions_without (left_by_count frees parts (state_of word old) at) (regions old.system)
  pub followed : follows old.system (releases (left_by_count frees parts (state_of word old) at)) new.system
  pub index : IsReindexed regions word (after_count frees parts (state_of word old) at) old new

-- Segments went back to the system, `bytes` bytes in all. All words that are still granted are as they were.
pub record AreGivenBack {A : Type 0} (regions : A → List Grant) (word : A → ℕ → ℕ) (follows : A → List Event → A → Type 0) (segments : List Segment) (old : A) (bytes : ℕ) (new : A) : Type 0 where
  pub bytes_are : bytes ≡ bytes_of segments
  pub words : (k : ℕ) → IsWordOf (regions new) k → word new k ≡ word old k
  pub regions_are : regions new ≡ regions_without segments (regions old)
  pub followed : follows old (releases segments) new

-- what the words of a record say of a segment
abbrev pub told_of : SegmentRecord → Segment
told_of told = record { base = told.base; size = told.size; flags = told.flags; extents = [] }
