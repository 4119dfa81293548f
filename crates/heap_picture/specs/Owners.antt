-- Whose the pages of a machine are.
use Rattle.std.specs.Prelude.{◌≡◌, ◌<◌, ◌≤◌, ℕ, Bool, true, false, List, map, find, Some, option_map, if◌then◌else◌}
use Rattle.std.specs.List.{AllByRecursion}
use Rattle.machine_model.specs.declared.region.Region.{Region}
use Rattle.machine_model.specs.State.{is_within}
use Rattle.machine_model.specs.Machine.{Paged}
use Rattle.paged_systems.specs.Layout.{IsPagedKept}
use Rattle.heap_tables.specs.declared.lines.Line.{Line}
use Rattle.heap_tables.specs.declared.owners.Owned.{Owned}
use Rattle.heap_tables.specs.declared.owners.Owner.{Owner}
use Rattle.heap_tables.specs.declared.owners.Owner.TheVariants.{Heap, User}
use Rattle.heap_tables.specs.Joining.{joined_table_lines}
use Rattle.heap_tables.specs.Owners.{address_of}

-- the pages of a region, with their owner
abbrev pub owned_by : Region → Owned
owned_by region = record { start = region.start; pages = region.pages; owner = if region.heap then Heap else User }

abbrev pub owned_regions : List Region → List Owned
owned_regions regions = map owned_by regions

-- the lines of the page tables of a system
abbrev pub lines_in : Paged → List Line
lines_in p = joined_table_lines p.words (owned_regions p.regions) p.root

-- whether an owner is the heap
abbrev pub is_heap : Owner → Bool
is_heap Heap = true
is_heap User = false

-- each page of a line lies in a region, which is the heap's exactly if the line says so
abbrev pub IsOfOwner : List Region → Line → Type 0
IsOfOwner regions line =
    (page : ℕ) → line.page ≤ page → page < line.end → option_map (λ region. region.heap) (find (is_within (address_of page)) regions) ≡ Some (is_heap line.owner)

-- the lines of page tables say whose their pages are
abbrev pub EachPageHasItsOwner : Type 0
EachPageHasItsOwner = (p : Paged) → IsPagedKept p → AllByRecursion (IsOfOwner p.regions) (lines_in p)
