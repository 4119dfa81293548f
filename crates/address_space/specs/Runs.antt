-- Runs of pages with equal rights, as the pairs of an interval tree, by ascending page number.
use Rattle.std.specs.Prelude.{◌≡◌, ℕ, ◌+◌, ◌-◌, ◌*◌, ◌^◌, ◌<◌, ◌≤◌, ◌==◌, ◌&&◌, Bool, true, false, nat_lt, nat_le, IsTrue, if◌then◌else◌, List, [], ◌∷◌, ◌++◌, map, Option, Some, None}
use Rattle.std.proofs.Props.{props}
use Rattle.paging_core.specs.declared.page_table.Rights.{Rights}
use Rattle.meminterval.specs.declared.interval.Interval.{Interval}
use Rattle.address_space.specs.declared.area.Area.{Area}
use Rattle.address_space.specs.declared.runs.Run.{Run}

-- whether a page is one of `pages` pages from the page `first` on
abbrev pub is_among : ℕ → ℕ → ℕ → Bool
is_among first pages page = nat_le first page && nat_lt page (first + pages)

-- whether a run holds a page
abbrev pub holds : ℕ → Interval ℕ × Rights → Bool
holds page run = nat_le run.0.start page && nat_lt page run.0.end

-- the rights of a page
abbrev pub rights_in : List (Interval ℕ × Rights) → ℕ → Option Rights
rights_in [] page = None
rights_in (run ∷ runs) page = (if holds page run then Some run.1 else rights_in runs page)

-- whether a run begins at a page
abbrev pub has_run_at : List (Interval ℕ × Rights) → ℕ → Bool
has_run_at [] page = false
has_run_at (run ∷ runs) page = (if run.0.start == page then true else has_run_at runs page)

-- whether a run begins before a page and goes on after it
abbrev pub crosses : List (Interval ℕ × Rights) → ℕ → Bool
crosses [] page = false
crosses (run ∷ runs) page = (if nat_lt run.0.start page && nat_lt page run.0.end then true else crosses runs page)

-- runs one after the other between two pages, each of at least one page
abbrev pub RunsFollow : ℕ → List (Interval ℕ × Rights) → ℕ → Type 0
RunsFollow from [] to = from ≤ to
RunsFollow from (run ∷ runs) to = (from ≤ run.0.start) × (run.0.start < run.0.end) × RunsFollow run.0.end runs to

-- runs one after the other among all pages
abbrev pub AreRuns : List (Interval ℕ × Rights) → Type 0
AreRuns runs = RunsFollow 0 runs (2 ^ 52)

-- a run stands among others
pub record HasRun (runs : List (Interval ℕ × Rights)) (start end : ℕ) (rights : Rights) : Type 0 where
  pub front : List (Interval ℕ × Rights)
  pub back : List (Interval ℕ × Rights)
  pub whole : runs ≡ front ++ (record { start = start; end = end }, rights) ∷ back
  pub before : RunsFollow 0 front start
  pub some : start < end
  pub behind : RunsFollow end back (2 ^ 52)

abbrev pub IsAmong : List (Interval ℕ × Rights) → Run → Type 0
IsAmong runs run = HasRun runs run.start run.end run.rights

-- no run could be longer: the page before it has other rights, or is not mapped
abbrev pub AreLongest : List (Interval ℕ × Rights) → Type 0
AreLongest runs = (page : ℕ) → IsTrue (has_run_at runs (page + 1)) → rights_in runs page ≡ rights_in runs (page + 1) → ⊥

-- the areas of runs
abbrev pub area_of : Interval ℕ × Rights → Area
area_of run = record { start = 4096 * run.0.start; pages = run.0.end - run.0.start; rights = run.1 }

-- the areas of all runs, in bytes, in their order
abbrev pub areas_of : List (Interval ℕ × Rights) → List Area
areas_of runs = map area_of runs

-- runs follow each other in one way
pub RunsFollow-prop : (from : ℕ) (runs : List (Interval ℕ × Rights)) (to : ℕ) → IsProp (RunsFollow from runs to)
RunsFollow-prop from [] to = hlevel props
RunsFollow-prop from (run ∷ runs) to = hlevel (props, RunsFollow-prop run.0.end runs to)
