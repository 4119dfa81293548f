-- A heap over an arena as it begins (own).
use Rattle.std.specs.Prelude.{◌≡◌, ℕ, ◌+◌, ◌*◌, ◌%◌, ◌^◌, ◌<◌, ◌≤◌, List, [], length}
use Rattle.dlmalloc.specs.State.{new_heap}
use Rattle.dlmalloc.specs.declared.heap.Dlmalloc.{Dlmalloc}
use Rattle.heap_arena.specs.Arena.{regions_of}
use Rattle.heap_arena.specs.declared.arena.Arena.{Arena}
use Rattle.checked_heap.specs.Checked.{arena_heap_state, left_for_words, table_of, words_for_blocks, words_for_table}

-- This many words can stand at the address: it is a multiple of 16, not in the lowest page, and no byte of theirs is past 64 bits.
pub record FitsAt (address count : ℕ) : Type 0 where
  pub aligned : address % 16 ≡ 0
  pub low : 4096 ≤ address
  pub high : address + 8 * count < 2 ^ 64

-- A heap of a granularity that has nothing yet, over words that begin at an address. No word was ever in a grant.
pub record IsNewAt (address granularity : ℕ) (heap : Dlmalloc Arena) : Type 0 where
  pub state : arena_heap_state heap ≡ record new_heap { granularity = granularity }
  pub regions : regions_of heap.system ≡ []
  pub base : heap.system.base ≡ address
  pub top : heap.system.top ≡ address
  pub peak : heap.system.peak ≡ address

-- The same with a granularity of 64 KiB, over these words and with this table.
pub record IsBegunOver (address : ℕ) (words table : List ℕ) (heap : Dlmalloc Arena) : Type 0 where
  pub new : IsNewAt address 65536 heap
  pub words_are : heap.system.words.now ≡ words
  pub table_is : heap.system.table.words.now ≡ table

-- A heap of a granularity that has nothing yet, over one memory: its first words are for blocks, and the table stands after them. Words and table are as they were given.
pub record IsBegun (memory : List ℕ) (address granularity : ℕ) (heap : Dlmalloc Arena) : Type 0 where
  pub new : IsNewAt address granularity heap
  pub words : heap.system.words.now ≡ words_for_blocks granularity memory
  pub len : length heap.system.words.now ≡ left_for_words granularity (length memory)
  pub table : heap.system.table.words.now ≡ words_for_table granularity memory
  pub table_len : length heap.system.table.words.now ≡ table_of granularity (length memory)
