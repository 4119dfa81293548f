-- Where the walk to a page ends.
use Rattle.std.specs.Prelude.{◌≡◌, ℕ, ◌%◌, ◌<◌, ⊤, true, List, Some, None, IfSome}
use Rattle.std.specs.Option.{option_map}
use Rattle.paging_core.specs.Area.{Area, in_area}
use Rattle.paging_core.specs.Missing.{missing_of}
use Rattle.paging_core.specs.Prefix.{prefix_of}
use Rattle.paging_core.specs.Walk.{Place, step, next_from, large_step, page_or, reach, walk_of, mapped_place}
use Rattle.paging_core.specs.declared.walk_end.WalkEnd.{WalkEnd}
use Rattle.paging_core.specs.declared.walk_end.WalkEnd.TheVariants.{Entry, Large, Missing}

-- Entry `index` of the table is the page's: the page's slot has that table.
pub record IsEntryOf (words : List ℕ) (root page table index : ℕ) : Type 0 where
  pub met : Place
  pub reached : reach words root 3 (prefix_of page 3) ≡ Some met
  pub in_table : met.frame ≡ table
  pub at_index : index ≡ prefix_of page 4 % 512

-- The walk to the page ends at its entry, and leads on as the page does; else the slot has no table: the walk ends in a
-- large page, or where a table is missing, and then this many are.
abbrev pub IsWalkEnd : List ℕ → ℕ → ℕ → WalkEnd → Type 0
IsWalkEnd words root page (Entry entry leads) = IsEntryOf words root page entry.table entry.index × (option_map mapped_place leads ≡ walk_of words root page)
IsWalkEnd words root page (Large mapped) = (reach words root 3 (prefix_of page 3) ≡ None) × (walk_of words root page ≡ Some (mapped_place mapped))
IsWalkEnd words root page (Missing tables) =
    (reach words root 3 (prefix_of page 3) ≡ None) × (walk_of words root page ≡ None) × (tables ≡ missing_of words root page 1)

-- The entry's table is below the count, and in the area if the entry leads on; a page's frame is below the count.
abbrev pub IsEndWithin : Area → ℕ → WalkEnd → Type 0
IsEndWithin area count (Entry entry leads) =
    (entry.table < count) × (entry.index < 512) × IfSome leads (λ _. in_area area entry.table ≡ true) × IfSome leads (λ mapped. mapped.frame < count)
IsEndWithin area count (Large mapped) = mapped.frame < count
IsEndWithin area count (Missing tables) = ⊤

-- the end of a walk that is at a table of the third step, by entry `index` of it and then by entry, or page, `last`
abbrev pub IsEndFrom : List ℕ → Place → ℕ → ℕ → WalkEnd → Type 0
IsEndFrom words at index last (Entry entry leads) =
    (option_map (λ (met : Place). met.frame) (step words 2 at index) ≡ Some entry.table) × (entry.index ≡ last) × (large_step words at index ≡ None)
    × (option_map mapped_place leads ≡ next_from words 3 (step words 2 at index) last)
IsEndFrom words at index last (Large mapped) = (step words 2 at index ≡ None) × (page_or (large_step words at index) last None ≡ Some (mapped_place mapped))
IsEndFrom words at index last (Missing tables) = (step words 2 at index ≡ None) × (large_step words at index ≡ None) × (tables ≡ 1)
