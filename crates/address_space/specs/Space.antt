-- What a space keeps: physical memory with its page tables and its free frames, and the runs of its pages.
use Rattle.std.specs.Prelude.{◌≡◌, ℕ, ◌*◌, ◌/◌, ◌^◌, ◌<◌, ◌≤◌, Bool, true, IsTrue, IsSome, is_some, if◌then◌else◌, List, length, Some, None}
use Rattle.std.specs.Option.{option_map}
use Rattle.std.proofs.Props.{props}
use Rattle.paging_core.specs.Address.{is_canonical}
use Rattle.paging_core.specs.Memory.{frame_count}
use Rattle.paging_core.specs.Pool.{is_frame_free, FreeBelow}
use Rattle.paging_core.specs.Walk.{Place, reach, large_of, walk_of, reached}
use Rattle.paging_core.specs.PageBits.{bits_of, bits_at}
use Rattle.paging_core.specs.Tree.{IsTree}
use Rattle.paging_core.specs.declared.page_table.Rights.{Rights}
use Rattle.meminterval.specs.declared.interval.Interval.{Interval}
use Rattle.address_space.specs.Runs.{RunsFollow, RunsFollow-prop, AreLongest, rights_in}
use Rattle.address_space.specs.PageMap.{PageMap}

pub record Tables : Type 0 where
  pub words : List ℕ
  pub root : ℕ
  pub free : List Bool
  pub runs : List (Interval ℕ × Rights)

-- The plain map for which the tables stand: the runs name the pages and their rights, and the walk reaches the bytes.
abbrev pub page_map_of : Tables → PageMap
page_map_of t = record {
  rights = rights_in t.runs;
  byte = λ address. (if is_some (rights_in t.runs (address / 4096)) then reached t.words t.root address else None);
}

-- The walk finds a page exactly where the map has it, with its rights, of type 0, as usual memory, and not global, and the tables are a tree. Each frame is free,
-- or the walk meets it: as a table, or as the frame of one page. No page is in a large page. The runs are the longest ones.
pub record AreTablesKept (t : Tables) : Type 0 where
  pub tree : IsTree t.words t.root t.free
  pub known : FreeBelow t.free (frame_count t.words)
  pub flags : length t.free ≡ frame_count t.words
  pub root_in : t.root < frame_count t.words
  pub few_frames : frame_count t.words < 2 ^ 32
  pub canonical : (page : ℕ) → IsSome (rights_in t.runs page) → IsTrue (is_canonical (page * 4096))
  pub found : (page : ℕ) → IsTrue (is_canonical (page * 4096)) → option_map bits_at (walk_of t.words t.root page) ≡ option_map bits_of (rights_in t.runs page)
  pub accounted :
      (frame : ℕ) → frame < frame_count t.words →
      ((level number : ℕ) (met : Place) → level ≤ 4 → reach t.words t.root level number ≡ Some met → met.frame ≡ frame → ⊥) →
      is_frame_free t.free frame ≡ true
  pub no_large : (slot : ℕ) → large_of t.words t.root slot ≡ None
  pub follow : RunsFollow 0 t.runs (2 ^ 52)
  pub longest : AreLongest t.runs

pub AreTablesKept-prop : (t : Tables) → IsProp (AreTablesKept t)
AreTablesKept-prop t = hlevel (props, RunsFollow-prop 0 t.runs (2 ^ 52))
