-- What the lines of page tables say is what walks find, and whose the pages are.
use Rattle.std.specs.Prelude.{◌≡◌, ◌<◌, ◌≤◌, ℕ, ◌+◌, ◌-◌, ◌*◌, ◌^◌, Bool, false, ◌&&◌, nat_le, nat_lt, List, [], ◌∷◌, Some, None, IsSome, ⊤}
use Rattle.std.specs.List.{list_any, AllByRecursion}
use Rattle.paging_core.specs.Walk.{Place, large_of, walk_of, place_with}
use Rattle.heap_tables.specs.declared.lines.Line.{Line}
use Rattle.heap_tables.specs.declared.owners.Owned.{Owned}
use Rattle.heap_tables.specs.Joining.{goes_on, joined_table_lines}
use Rattle.heap_tables.specs.Owners.{owner_of}

-- where a line says that a page is
abbrev pub place_in : Line → ℕ → Place
place_in line page = place_with (line.frame + (page - line.page)) line.rights

-- the walk of each page of a line ends where the line says, with these rights and this type
abbrev pub IsWalked : List ℕ → ℕ → Line → Type 0
IsWalked words root line = (page : ℕ) → line.page ≤ page → page < line.end → walk_of words root page ≡ Some (place_in line page)

-- whether a page is one of a line
abbrev pub line_has_page : ℕ → Line → Bool
line_has_page page line = nat_le line.page page && nat_lt page line.end

-- Each page is in its line: what a line says of its pages the walk finds, and a page that is in no line is not mapped.
pub record AreWalked (words : List ℕ) (root : ℕ) (lines : List Line) : Type 0 where
  pub said : AllByRecursion (IsWalked words root) lines
  pub unsaid : (page : ℕ) → page < 2 ^ 36 → list_any (line_has_page page) lines ≡ false → walk_of words root page ≡ None

-- the owner that a line says is that of each of its pages
abbrev pub IsOwned : List Owned → Line → Type 0
IsOwned regions line = (page : ℕ) → line.page ≤ page → page < line.end → owner_of regions page ≡ line.owner

-- the pages of each large page have one owner, as they do if a region has none of them or all
abbrev pub HaveOneOwner : List ℕ → List Owned → ℕ → Type 0
HaveOneOwner words regions root = (number index : ℕ) → number < 2 ^ 27 → index < 512 → IsSome (large_of words root number) → owner_of regions (512 * number + index) ≡ owner_of regions (512 * number)

-- so each page has the owner that its line says
abbrev pub AreOwned : List ℕ → List Owned → ℕ → List Line → Type 0
AreOwned words regions root lines = HaveOneOwner words regions root → AllByRecursion (IsOwned regions) lines

-- no line goes on in the next one: the lines are as great as can be
abbrev pub AreGreatest : List Line → Type 0
AreGreatest [] = ⊤
AreGreatest (line ∷ []) = ⊤
AreGreatest (line ∷ next ∷ lines) = (goes_on line next ≡ false) × AreGreatest (next ∷ lines)

-- so are the lines of page tables, whatever words they have, and whosever their pages are
pub record AreTableLines (words : List ℕ) (regions : List Owned) (root : ℕ) : Type 0 where
  pub walked : AreWalked words root (joined_table_lines words regions root)
  pub owned : AreOwned words regions root (joined_table_lines words regions root)
  pub greatest : AreGreatest (joined_table_lines words regions root)

-- the law: whatever the words are, each line says of its pages what the walk finds, and a page in no line is not mapped
abbrev pub EachPageIsInItsLine : Type 0
EachPageIsInItsLine = (words : List ℕ) (regions : List Owned) (root : ℕ) → AreTableLines words regions root
