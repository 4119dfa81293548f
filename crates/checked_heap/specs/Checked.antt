-- A heap over an arena, and what its marks say (own).
use Rattle.std.specs.Prelude.{◌≡◌, ℕ, ◌+◌, ◌-◌, ◌*◌, ◌/◌, ◌^◌, ◌<◌, ◌≤◌, min, Bool, true, false, List, length, take, drop, replicate, slice_index}
use Rattle.std.specs.Int.{div_ceil}
use Rattle.heap_memory.specs.declared.grant.Grant.{Grant}
use Rattle.heap_memory.specs.declared.grant.GrantFault.{GrantFault}
use Rattle.heap_memory.specs.Events.{Event}
use Rattle.heap_memory.specs.Regions.{is_granted}
use Rattle.dlmalloc.specs.State.{HeapState}
use Rattle.dlmalloc.specs.Heap.{state_of}
use Rattle.dlmalloc.specs.declared.heap.Dlmalloc.{Dlmalloc}
use Rattle.heap_arena.specs.declared.arena.Arena.{Arena}
use Rattle.heap_arena.specs.Arena.{word_of, IsArenaAfter, IsDenied}
use Rattle.sound_heap.specs.Heap.{HasBlock}
use Rattle.checked_heap.specs.Marks.{is_marked}
use Rattle.checked_heap.specs.Counted.{count_below}

-- no grant of an arena is known to be zero
abbrev pub arena_zeros : Arena → Bool
arena_zeros arena = false

-- what a heap over an arena says of the time between two moments: its top and its peak are where what was granted and what came
-- back left them, and the words that were granted at no moment are as they were
abbrev pub arena_follows : Arena → List Event → Arena → Type 0
arena_follows old events new = IsArenaAfter old events new

abbrev pub arena_refuses : Arena → Arena → Type 0
arena_refuses old new = new ≡ old

abbrev pub arena_denies : Arena → ℕ → GrantFault → Type 0
arena_denies arena size fault = IsDenied arena size fault

-- the words of an arena outside of these regions are as they were
abbrev pub KeepsWordsOutside : List Grant → Arena → Arena → Type 0
KeepsWordsOutside regions old new = (i : ℕ) → is_granted regions (old.base + 8 * i) ≡ false → slice_index new.words.now i ≡ slice_index old.words.now i

-- its state
abbrev pub arena_heap_state : Dlmalloc Arena → HeapState
arena_heap_state heap = state_of word_of heap

-- Marks stand where blocks begin, and nowhere else, and are counted: a condition of the type. There is a mark for each 16
-- bytes of the arena.
pub record IsMarked (base : ℕ) (marks : List ℕ) (count : ℕ) (heap : Dlmalloc Arena) : Type 0 where
  pub some : 0 < base
  pub count_is : count ≡ count_below (is_marked base marks) (2 ^ 64)
  pub base_is : heap.system.base ≡ base
  pub room : length heap.system.words.now ≤ 128 * length marks
  pub blocks : (address : ℕ) → is_marked base marks address ≡ true → HasBlock (arena_heap_state heap) address
  pub marked : (address : ℕ) → HasBlock (arena_heap_state heap) address → is_marked base marks address ≡ true

-- Of the words of one memory: those that are left beside a bit for each two of all; of them those for the table, which has a
-- place of two words beside each granularity of bytes; and the others.
abbrev pub left_beside_marks : ℕ → ℕ
left_beside_marks count = count - (count + 127) / 128

abbrev pub table_in : (granularity rest : ℕ) → ℕ
table_in granularity rest = min rest (2 * div_ceil rest (granularity / 8 + 2))

abbrev pub table_of : (granularity count : ℕ) → ℕ
table_of granularity count = table_in granularity (left_beside_marks count)

abbrev pub left_for_words : (granularity count : ℕ) → ℕ
left_for_words granularity count = left_beside_marks count - table_of granularity count

-- Where they stand: those for blocks from the first one on, those for the table after them, and those for the marks at the end.
abbrev pub words_for_blocks : (granularity : ℕ) → List ℕ → List ℕ
words_for_blocks granularity memory = take (left_for_words granularity (length memory)) memory

abbrev pub words_for_table : (granularity : ℕ) → List ℕ → List ℕ
words_for_table granularity memory = drop (left_for_words granularity (length memory)) (take (left_beside_marks (length memory)) memory)

-- the words of a memory that are for the marks are 0
abbrev pub IsCleared : List ℕ → Type 0
IsCleared words = drop (left_beside_marks (length words)) words ≡ replicate ((length words + 127) / 128) 0
