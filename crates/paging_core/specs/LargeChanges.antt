-- A slot that one entry maps is changed and stays mapped: by a table of single entries, or with other rights. A slot goes
-- by its first three indices, as in specs/Large. `old` and `free` are the words and the flags before, `new` and `free'` after.
use Rattle.std.specs.Prelude.{◌≡◌, ℕ, ◌+◌, ◌*◌, ◌/◌, ◌%◌, ◌<◌, ◌≤◌, Bool, true, false, List, length, set, Some, None}
use Rattle.paging_core.specs.Memory.{word_at}
use Rattle.paging_core.specs.Entry.{table_entry, page_entry, large_entry}
use Rattle.paging_core.specs.Pool.{is_frame_free, free_count}
use Rattle.paging_core.specs.Walk.{Place, reach, large_of, walk_of, top, place_with, page_in}
use Rattle.paging_core.specs.Large.{slot_of, above}
use Rattle.paging_core.specs.declared.page_table.PageBits.{PageBits}

-- The large page of the slot was split: its 512 pages lead where they led, now by a table of single entries, which lies
-- in the lowest frame that was free.
pub record IsLargeSplit (old new : List ℕ) (free free' : List Bool) (root page : ℕ) : Type 0 where
  pub large : Place
  pub made : ℕ
  pub was : large_of old root (slot_of page) ≡ Some large
  pub size : length new ≡ length old
  -- the walk in the slot: each page leads to its frame of the large page, with its rights, as before
  pub led : (k : ℕ) → k < 512 → walk_of old root (512 * page + k) ≡ Some (page_in k large)
  pub stays : (k : ℕ) → k < 512 → walk_of new root (512 * page + k) ≡ Some (page_in k large)
  pub table : reach new root 3 (slot_of page) ≡ Some (top made)
  pub no_large : large_of new root (slot_of page) ≡ None
  -- nothing but that table and that large page is changed in the walk
  pub others : (l n : ℕ) → l ≤ 4 → (l ≡ 3 → n ≡ slot_of page → ⊥) → reach new root l n ≡ reach old root l n
  pub larges : (n : ℕ) → (n ≡ slot_of page → ⊥) → large_of new root n ≡ large_of old root n
  -- the frame of the table, and every other flag
  pub was_free : is_frame_free free made ≡ true
  pub lowest : (lower : ℕ) → lower < made → is_frame_free free lower ≡ false
  pub taken : free' ≡ set free made false
  pub count : free_count free' + 1 ≡ free_count free
  -- the words: of the new table, of the entry that names it, and all others
  pub page_words : (k : ℕ) → k < 512 →
      word_at new made k ≡ page_entry (large.frame + k) (record { write = large.write; user = large.user; fetch = large.fetch; through = large.through; uncached = large.uncached; global = large.global })
  pub entry : (at : Place) → reach old root 2 (above page 2) ≡ Some at → word_at new at.frame (slot_of page % 512) ≡ table_entry made
  pub words :
      (f i : ℕ) → i < 512 → (f ≡ made → ⊥) → ((at : Place) → reach old root 2 (above page 2) ≡ Some at → f ≡ at.frame → i ≡ slot_of page % 512 → ⊥) →
      word_at new f i ≡ word_at old f i

-- The entry that maps the slot maps the same frames with these rights now, and all other words stay.
pub record IsLargeRegranted (old new : List ℕ) (root page : ℕ) (rights : PageBits) : Type 0 where
  pub large : Place
  pub table : Place
  pub was : large_of old root (slot_of page) ≡ Some large
  pub met : reach old root 2 (above page 2) ≡ Some table
  pub words : new ≡ set old (512 * table.frame + slot_of page % 512) (large_entry large.frame rights)

-- The 512 pages of the slot have these rights, each at its frame, and nothing else of the walk is changed.
pub record AreLargeGranted (old new : List ℕ) (root page : ℕ) (rights : PageBits) : Type 0 where
  pub large : Place
  pub was : large_of old root (slot_of page) ≡ Some large
  pub size : length new ≡ length old
  pub there : (k : ℕ) → k < 512 → walk_of new root (512 * page + k) ≡ Some (place_with (large.frame + k) rights)
  pub stays : large_of new root (slot_of page) ≡ Some (place_with large.frame rights)
  pub others : (l n : ℕ) → l ≤ 4 → (l ≡ 4 → n / 512 ≡ slot_of page → ⊥) → reach new root l n ≡ reach old root l n
  pub larges : (n : ℕ) → (n ≡ slot_of page → ⊥) → large_of new root n ≡ large_of old root n
