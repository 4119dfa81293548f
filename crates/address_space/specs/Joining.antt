-- Runs that were put in and joined. `old` are the runs before, `new` after.
use Rattle.std.specs.Prelude.{◌≡◌, ℕ, ◌+◌, ◌^◌, ◌<◌, ◌&&◌, nat_lt, nat_le, if◌then◌else◌, IsTrue, List, ◌∷◌, ◌++◌, Option, Some, None}
use Rattle.paging_core.specs.declared.page_table.Rights.{Rights}
use Rattle.meminterval.specs.declared.interval.Interval.{Interval}
use Rattle.address_space.specs.Runs.{RunsFollow, AreLongest, rights_in, has_run_at}

-- the run that begins right after a page, if one does, could not begin at that page
abbrev pub IsLongestAfter : List (Interval ℕ × Rights) → ℕ → Type 0
IsLongestAfter runs before = IsTrue (has_run_at runs (before + 1)) → rights_in runs before ≡ rights_in runs (before + 1) → ⊥

-- two runs with equal rights meet at a page
pub record AreMeeting (runs : List (Interval ℕ × Rights)) (start page end : ℕ) : Type 0 where
  pub front : List (Interval ℕ × Rights)
  pub back : List (Interval ℕ × Rights)
  pub rights : Rights
  pub whole : runs ≡ front ++ (record { start = start; end = page }, rights) ∷ (record { start = page; end = end }, rights) ∷ back
  pub before : RunsFollow 0 front start
  pub first : start < page
  pub second : page < end
  pub behind : RunsFollow end back (2 ^ 52)

-- where the run begins that ends at a page, and where the one ends that begins there, if their rights are equal
abbrev pub IsMeeting : List (Interval ℕ × Rights) → ℕ → Option (ℕ × ℕ) → Type 0
IsMeeting runs page None = (before : ℕ) → before + 1 ≡ page → IsLongestAfter runs before
IsMeeting runs page (Some ends) = AreMeeting runs ends.0 page ends.1

-- the runs that meet at a page were made one, if their rights are equal
pub record AreRunsJoined (old new : List (Interval ℕ × Rights)) (page : ℕ) : Type 0 where
  pub follow : RunsFollow 0 new (2 ^ 52)
  pub rights : (any : ℕ) → rights_in new any ≡ rights_in old any
  pub begins : (any : ℕ) → IsTrue (has_run_at new any) → IsTrue (has_run_at old any)
  pub joined : (before : ℕ) → before + 1 ≡ page → IsLongestAfter new before

-- the pages from `first` up to `end` got the rights
pub record IsRunAdded (old new : List (Interval ℕ × Rights)) (first end : ℕ) (rights : Rights) : Type 0 where
  pub follow : RunsFollow 0 new (2 ^ 52)
  pub longest : AreLongest new
  pub pages : (any : ℕ) → rights_in new any ≡ (if nat_le first any && nat_lt any end then Some rights else rights_in old any)
