-- Good states, and runs.
use Rattle.std.specs.Prelude.{◌≡◌, ◌≢◌, ℕ, ◌+◌, ◌*◌, ◌/◌, ◌%◌, ◌<◌, ◌≤◌, ⊤, IsTrue, IsFalse, List, [], ◌∷◌, length, Option, Some, None}
use Rattle.std.specs.List.{list_any, AllByRecursion}
use Rattle.paging_core.specs.Address.{IsCanonicalRange}
use Rattle.machine_model.specs.declared.region.Region.{Region}
use Rattle.machine_model.specs.declared.call.Call.{Call}
use Rattle.machine_model.specs.declared.answer.Answer.{Answer}
use Rattle.machine_model.specs.State.{State, Block, block_at, cover, end_of_region, is_within}
use Rattle.machine_model.specs.Tables.{used_frames}
use Rattle.machine_model.specs.Slots.{IsSlot, is_whole_in, AreDistinctSlots}
use Rattle.machine_model.specs.Place.{meets_any, all_regions}
use Rattle.machine_model.specs.Room.{AreBytesApart, heap_region}
use Rattle.machine_model.specs.Answer.{IsAllowed, after}

-- a live block: at a multiple of its alignment and of 16, with each byte in a heap region
pub record IsGoodBlock (heap : List Region) (block : Block) : Type 0 where
  pub aligned : block.address % block.align ≡ 0
  pub aligned_16 : block.address % 16 ≡ 0
  pub cells : length block.cells ≡ block.size
  pub granted : (k : ℕ) → k < cover block → IsTrue (list_any (is_within (block.address + k)) heap)

-- each region ends before every later one starts: they are sorted, and have no byte in common
abbrev pub AreRegionsInOrder : List Region → Type 0
AreRegionsInOrder [] = ⊤
AreRegionsInOrder (region ∷ rest) = AllByRecursion (λ later. end_of_region region ≤ later.start) rest × AreRegionsInOrder rest

-- whole pages, at least one, in one canonical half
abbrev pub IsWholePages : Region → Type 0
IsWholePages region = (region.start % 4096 ≡ 0) × IsCanonicalRange (region.start / 4096) region.pages

-- a heap region lies in the window, with the rights of the heap
abbrev pub IsHeapRegion : State → Region → Type 0
IsHeapRegion s region = IsWholePages region × (s.base ≤ region.start) × (end_of_region region ≤ s.base + 4096 * s.pages) × (region ≡ heap_region region.start region.pages)

-- a user region meets no heap region
abbrev pub IsUserRegion : List Region → Region → Type 0
IsUserRegion heap region = IsFalse region.heap × IsWholePages region × IsFalse (meets_any region.start region.pages heap)

-- what holds of every state of a run: live blocks are aligned, disjoint and granted, regions are disjoint, the frames suffice,
-- and each slot that is mapped by one entry lies whole in one region
pub record IsGood (s : State) : Type 0 where
  pub each : (number : ℕ) (block : Block) → block_at s.blocks number ≡ Some block → IsGoodBlock s.heap block
  pub apart : (i j : ℕ) (a b : Block) → block_at s.blocks i ≡ Some a → block_at s.blocks j ≡ Some b → i ≢ j → AreBytesApart a.address (cover a) b.address (cover b)
  pub heap_order : AreRegionsInOrder s.heap
  pub user_order : AreRegionsInOrder s.users
  pub heap : AllByRecursion (IsHeapRegion s) s.heap
  pub users : AllByRecursion (IsUserRegion s.heap) s.users
  pub frames : used_frames s ≤ s.frames
  pub slots : AllByRecursion (λ slot. IsTrue (is_whole_in (all_regions s) slot)) s.large
  pub are_slots : AllByRecursion IsSlot s.large
  pub no_slot_twice : AreDistinctSlots s.large

-- one item of a run: a call with an answer that it may have, or a bad line (None) that is answered as one
abbrev pub IsItem : State → Option Call → Option Answer → Type 0
IsItem s (Some call) (Some answer) = IsAllowed s call answer × IsGood (after s call answer)
IsItem s None None = ⊤
IsItem s (Some call) None = ⊥
IsItem s None (Some answer) = ⊥

-- the state after it
abbrev pub next : State → Option Call → Option Answer → State
next s (Some call) (Some answer) = after s call answer
next s (Some call) None = s
next s None answer = s

-- one answer for each item, each allowed in the state that the answers before it determine
abbrev pub IsAllowedRun : State → List (Option Call) → List (Option Answer) → Type 0
IsAllowedRun s [] [] = ⊤
IsAllowedRun s (item ∷ items) (answer ∷ answers) = IsItem s item answer × IsAllowedRun (next s item answer) items answers
IsAllowedRun s [] (answer ∷ answers) = ⊥
IsAllowedRun s (item ∷ items) [] = ⊥

-- the state at its end
abbrev pub last_state : State → List (Option Call) → List (Option Answer) → State
last_state s (item ∷ items) (answer ∷ answers) = last_state (next s item answer) items answers
last_state s [] answers = s
last_state s (item ∷ items) [] = s

-- a run over the items from the state s ends in the state e
pub record RunsTo (s : State) (items : List (Option Call)) (answers : List (Option Answer)) (e : State) : Type 0 where
  pub run : IsAllowedRun s items answers
  pub last : e ≡ last_state s items answers
