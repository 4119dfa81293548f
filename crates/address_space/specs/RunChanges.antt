-- Runs whose pages leave, get other rights, or are copied. `old` are the runs before, `new` after.
use Rattle.std.specs.Prelude.{◌≡◌, ℕ, ◌+◌, ◌-◌, ◌^◌, ◌<◌, ◌≤◌, ◌⊎◌, ◌&&◌, true, false, nat_lt, nat_le, if◌then◌else◌, IsSome, List, Some, None}
use Rattle.paging_core.specs.declared.page_table.Rights.{Rights}
use Rattle.meminterval.specs.declared.interval.Interval.{Interval}
use Rattle.address_space.specs.declared.runs.Run.{Run}
use Rattle.address_space.specs.Runs.{RunsFollow, AreRuns, AreLongest, HasRun, IsAmong, rights_in, has_run_at, crosses, is_among}

-- the pages from `first` up to `end` are in no run, and every other page is where it was
pub record IsCut (old new : List (Interval ℕ × Rights)) (first end : ℕ) : Type 0 where
  pub follow : RunsFollow 0 new (2 ^ 52)
  pub pages : (any : ℕ) → rights_in new any ≡ (if nat_le first any && nat_lt any end then None else rights_in old any)
  pub begins : (any : ℕ) → has_run_at new any ≡ true → has_run_at old any ≡ true
  pub apart : (any : ℕ) → crosses old any ≡ false → crosses new any ≡ false

-- the same, of runs that are as long as they can be
pub record AreTaken (old new : List (Interval ℕ × Rights)) (first end : ℕ) : Type 0 where
  pub follow : RunsFollow 0 new (2 ^ 52)
  pub longest : AreLongest new
  pub pages : (any : ℕ) → rights_in new any ≡ (if nat_le first any && nat_lt any end then None else rights_in old any)

-- the pages from `first` up to `end` are a run of their own, with these rights
pub record IsOwnRun (old new : List (Interval ℕ × Rights)) (first end : ℕ) (rights : Rights) : Type 0 where
  pub run : HasRun new first end rights
  pub pages : (any : ℕ) → rights_in new any ≡ (if nat_le first any && nat_lt any end then Some rights else rights_in old any)
  pub begins : (any : ℕ) → has_run_at new any ≡ true → (any ≡ first) ⊎ (has_run_at old any ≡ true)

-- no run goes on over a page over which none went
pub record KeepsApart (old new : List (Interval ℕ × Rights)) : Type 0 where
  pub apart : (any : ℕ) → crosses old any ≡ false → crosses new any ≡ false

-- the same, and no run goes on over a page over which none went
pub record IsSet (old new : List (Interval ℕ × Rights)) (first end : ℕ) (rights : Rights) : Type 0 where
  pub set : IsOwnRun old new first end rights
  pub keeps : KeepsApart old new

-- no run goes on over the page
pub record IsParted (old new : List (Interval ℕ × Rights)) (page : ℕ) : Type 0 where
  pub follow : RunsFollow 0 new (2 ^ 52)
  pub pages : (any : ℕ) → rights_in new any ≡ rights_in old any
  pub begins : (any : ℕ) → has_run_at new any ≡ true → (any ≡ page) ⊎ (has_run_at old any ≡ true)
  pub apart : crosses new page ≡ false

-- `pages` pages from `to` on got the rights of those from `from` on
pub record AreRightsCopied (old new : List (Interval ℕ × Rights)) (from pages to : ℕ) : Type 0 where
  pub follow : RunsFollow 0 new (2 ^ 52)
  pub longest : AreLongest new
  pub pages_are : (any : ℕ) → rights_in new any ≡ (if is_among to pages any then rights_in old (any - to + from) else rights_in old any)

-- the pages from `first` up to `end` are all in runs
abbrev pub AreInRuns : List (Interval ℕ × Rights) → ℕ → ℕ → Type 0
AreInRuns runs first end = (any : ℕ) → first ≤ any → any < end → IsSome (rights_in runs any)

-- none of them is
abbrev pub AreFree : List (Interval ℕ × Rights) → ℕ → ℕ → Type 0
AreFree runs first end = (any : ℕ) → first ≤ any → any < end → rights_in runs any ≡ None

-- no run begins below a page
pub record HasNoneBelow (runs : List (Interval ℕ × Rights)) (page : ℕ) : Type 0 where
  pub none : AreFree runs 0 page
  pub alone : crosses runs page ≡ false

-- the last run that begins below a page
pub record IsLastBelow (runs : List (Interval ℕ × Rights)) (page : ℕ) (r : Run) : Type 0 where
  pub run : IsAmong runs r
  pub starts : r.start < page
  pub last : AreFree runs r.end page
  pub apart : r.end ≤ page → crosses runs page ≡ false

-- the run that holds a page
pub record HoldsPage (runs : List (Interval ℕ × Rights)) (page : ℕ) (r : Run) : Type 0 where
  pub run : IsAmong runs r
  pub from : r.start ≤ page
  pub more : page < r.end
  pub within : r.end ≤ 2 ^ 52
  pub pages : (any : ℕ) → r.start ≤ any → any < r.end → rights_in runs any ≡ Some r.rights

-- the runs are as long as they can be, and there are pages from `first` up to `end`
pub record MayChange (runs : List (Interval ℕ × Rights)) (first end : ℕ) : Type 0 where
  pub follow : AreRuns runs
  pub longest : AreLongest runs
  pub some : first < end
  pub within : end ≤ 2 ^ 52

-- the runs are as long as they can be, each of `pages` pages from `from` on is in one, and no page from `to` on is
pub record MayCopy (runs : List (Interval ℕ × Rights)) (from pages to : ℕ) : Type 0 where
  pub follow : AreRuns runs
  pub longest : AreLongest runs
  pub source : from + pages ≤ 2 ^ 52
  pub target : to + pages ≤ 2 ^ 52
  pub held : AreInRuns runs from (from + pages)
  pub free : AreFree runs to (to + pages)

-- the lowest of the pages from `first` up to `end` that is in no run
pub record IsGap (runs : List (Interval ℕ × Rights)) (first end page : ℕ) : Type 0 where
  pub from : first ≤ page
  pub within : page < end
  pub gone : rights_in runs page ≡ None
  pub lowest : AreInRuns runs first page
