-- In what order a call leaves the chunks of each size in the bins (dlmalloc: `insert_chunk`, `unlink_chunk`).
use Rattle.std.specs.Prelude.{◌≡◌, ℕ, ◌≤◌, ◌⊎◌, List, [], ◌∷◌, ◌++◌, length, Bool, ◌&&◌, nat_le, ◌-◌, if◌then◌else◌}
use Rattle.heap_memory.specs.declared.grant.Grant.{Grant}
use Rattle.heap_memory.specs.Events.{Event}
use Rattle.bins.specs.Index.{IsIn, AreDistinct, with_chunk, without_chunk}
use Rattle.dlmalloc.specs.State.{HeapState, Segment}
use Rattle.dlmalloc.specs.Released.{may_leave, is_counted}
use Rattle.dlmalloc.specs.Trimmed.{is_trimmed}
use Rattle.dlmalloc.specs.Binned.{HoldsBinned, IsBinned}
use Rattle.dlmalloc.specs.Turned.{IsTurned}
use Rattle.dlmalloc.specs.declared.heap.Dlmalloc.{Dlmalloc}

-- chunks are some of others, in the order in which they stand there
abbrev pub IsPart : List ℕ → List ℕ → Type 0
IsPart part [] = part ≡ []
IsPart part (chunk ∷ chunks) = IsPart part chunks ⊎ ((rest : List ℕ) × (part ≡ chunk ∷ rest) × IsPart rest chunks)

-- The chunks of a size that stay keep their order, and at most one more is there, which stands after them as the
-- newest.
pub record IsInOrder (old new : List ℕ) : Type 0 where
  pub stayed : List ℕ
  pub came : List ℕ
  pub are : new ≡ stayed ++ came
  pub part : IsPart stayed old
  pub others : (chunk : ℕ) → IsIn chunk came → IsIn chunk old → ⊥
  pub few : length came ≤ 1

-- the same for the chunks of each size
abbrev pub AreInOrder : (ℕ → List ℕ) → (ℕ → List ℕ) → Type 0
AreInOrder old new = (size : ℕ) → IsInOrder (old size) (new size)

-- Two lists that are both in order after one list, with the same chunks, are the same list. So a state and the index
-- before a call determine the index after it.
abbrev pub OneOrder : Type 0
OneOrder = (old one two : List ℕ) → AreDistinct old → IsInOrder old one → IsInOrder old two →
    ((chunk : ℕ) → IsIn chunk one → IsIn chunk two) → ((chunk : ℕ) → IsIn chunk two → IsIn chunk one) → one ≡ two

-- A call keeps the order of the bins: for each index that is linked before it, one is linked after it that is in order.
abbrev pub KeepsOrder : {A : Type 0} → (A → List Grant) → (A → ℕ → ℕ) → Dlmalloc A → Dlmalloc A → Type 0
KeepsOrder regions word old new = (before : IsBinned regions word old) → (after : IsBinned regions word new) × AreInOrder before.index after.index

-- The same of a call in two steps, between which the heap is in a state.
abbrev pub KeepsOrderThrough : {A : Type 0} → (A → List Grant) → (A → ℕ → ℕ) → HeapState → Dlmalloc A → Dlmalloc A → Type 0
KeepsOrderThrough regions word state old new = (before : IsBinned regions word old) →
    (middle : ℕ → List ℕ) × HoldsBinned state middle × AreInOrder before.index middle × ((after : IsBinned regions word new) × AreInOrder middle after.index)

-- The bins hold what they should, and chunks of one size keep their order.
pub record KeepsBinsInOrder {A : Type 0} (regions : A → List Grant) (word : A → ℕ → ℕ) (old new : Dlmalloc A) : Type 0 where
  pub linked : IsBinned regions word new
  pub order : KeepsOrder regions word old new

-- The heap moved with its bins, and they are in order.
pub record TurnsInOrder {A : Type 0} (regions : A → List Grant) (word : A → ℕ → ℕ) (follows : A → List Event → A → Type 0) (old new : Dlmalloc A) : Type 0 where
  pub moved : IsTurned regions word follows old new
  pub bins : KeepsBinsInOrder regions word old new

-- ---- a release pass

-- The index after a segment was visited: if it is handed out, its free chunk leaves, and if the system does not take
-- it, the chunk goes into its bin as the newest.
abbrev pub after_visit : Bool → Bool → Segment → (ℕ → List ℕ) → ℕ → List ℕ
after_visit frees parts segment index =
    let left = without_chunk (segment.size - 80) segment.base index in
    if may_leave parts segment then (if frees then left else with_chunk (segment.size - 80) segment.base left) else index

abbrev pub after_visits : Bool → Bool → List Segment → (ℕ → List ℕ) → ℕ → List ℕ
after_visits frees parts [] index = index
after_visits frees parts (segment ∷ segments) index = after_visits frees parts segments (after_visit frees parts segment index)

-- the same for each segment after the head, one after the other
abbrev pub after_pass : Bool → Bool → List Segment → (ℕ → List ℕ) → ℕ → List ℕ
after_pass frees parts [] index = index
after_pass frees parts (head ∷ segments) index = after_visits frees parts segments index

-- the index if a freed chunk was counted, and if a heap was trimmed
abbrev pub after_count : Bool → Bool → HeapState → ℕ → (ℕ → List ℕ) → ℕ → List ℕ
after_count frees parts heap at index = if is_counted heap at && nat_le heap.countdown 1 then after_pass frees parts heap.segments index else index

abbrev pub after_trim : Bool → Bool → ℕ → HeapState → (ℕ → List ℕ) → ℕ → List ℕ
after_trim frees parts pad heap index = if is_trimmed pad heap then after_pass frees parts heap.segments index else index

-- for each index that is linked before a call, the one that a rule makes of it is linked after the call
abbrev pub IsReindexed : {A : Type 0} → (A → List Grant) → (A → ℕ → ℕ) → ((ℕ → List ℕ) → ℕ → List ℕ) → Dlmalloc A → Dlmalloc A → Type 0
IsReindexed regions word rule old new = (before : IsBinned regions word old) → (after : IsBinned regions word new) × ((n : ℕ) → after.index n ≡ rule before.index n)

-- no chunk goes in, and none leaves
abbrev pub KeepsIndex : {A : Type 0} → (A → List Grant) → (A → ℕ → ℕ) → Dlmalloc A → Dlmalloc A → Type 0
KeepsIndex regions word old new = IsReindexed regions word (λ index. index) old new

-- ---- one step

-- some chunks left an index
abbrev pub IsLessened : (ℕ → List ℕ) → (ℕ → List ℕ) → Type 0
IsLessened old new = (n : ℕ) → IsPart (new n) (old n)

-- at most one chunk of a size went into an index, as the newest
abbrev pub IsAdded : ℕ → ℕ → (ℕ → List ℕ) → (ℕ → List ℕ) → Type 0
IsAdded size at old new = (n : ℕ) → (new n ≡ old n) ⊎ ((n ≡ size) × (new n ≡ old n ++ at ∷ []))
