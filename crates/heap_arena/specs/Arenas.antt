-- Several arenas, by ascending address: their grants, their words, and what they deny (own).
use Rattle.std.specs.Prelude.{◌≡◌, ◌≢◌, ℕ, ◌+◌, ◌≤◌, ◌⊎◌, max, Bool, true, false, ◌&&◌, nat_le, nat_lt, if◌then◌else◌, List, [], ◌∷◌, ◌++◌, Option, Some, None, IsTrue, length, insert}
use Rattle.std.specs.List.{list_all, list_any, AllByRecursion, AllZip}
use Rattle.heap_memory.specs.declared.grant.Grant.{Grant}
use Rattle.heap_memory.specs.declared.grant.GrantFault.{GrantFault}
use Rattle.heap_memory.specs.declared.grant.GrantFault.TheVariants.{NoSpace}
use Rattle.heap_memory.specs.Events.{Event, Granted}
use Rattle.heap_memory.specs.Regions.{IsWordOf, IsApart, IsGoodGrant, with_grant}
use Rattle.heap_memory.specs.Runs.{without_run}
use Rattle.heap_memory.specs.Words.{IsStored}
use Rattle.heap_arena.specs.declared.arena.Arena.{Arena}
use Rattle.heap_arena.specs.declared.add_fault.AddFault.{AddFault}
use Rattle.heap_arena.specs.declared.add_fault.AddFault.TheVariants.{InUse, Overlaps, NoPlace}
use Rattle.heap_arena.specs.Arena.{regions_of, word_of, end_of, has_room, IsArenaAfter, IsTakenBack, IsUnwritten, KeepsOthers}

-- whether each ends before every later one begins
abbrev pub are_in_order : List Arena → Bool
are_in_order [] = true
are_in_order (arena ∷ arenas) = list_all (λ later. nat_le (end_of arena) later.base) arenas && are_in_order arenas

-- the grants of all
abbrev pub regions_of_all : List Arena → List Grant
regions_of_all [] = []
regions_of_all (arena ∷ arenas) = regions_of arena ++ regions_of_all arenas

-- the word at an address: that of the first arena that ends after it
abbrev pub word_among : List Arena → ℕ → ℕ
word_among [] at = 0
word_among (arena ∷ arenas) at = if nat_lt at (end_of arena) then word_of arena at else word_among arenas at

-- where a number of bytes are granted: after the grants of the first arena that has room for them
abbrev pub place_for : List Arena → ℕ → Option ℕ
place_for [] size = None
place_for (arena ∷ arenas) size = if has_room arena size then Some arena.top else place_for arenas size

-- what arenas say of two moments between which these events happened: each says it of itself
abbrev pub AreAfter : List Arena → List Event → List Arena → Type 0
AreAfter old events new = AllZip (λ x y. IsArenaAfter x events y) old new

-- no word of any was written
abbrev pub AreUnwritten : List Arena → List Arena → Type 0
AreUnwritten old new = AllZip (λ x y. IsUnwritten x y) old new

-- One arena granted a number of bytes from an address on, and all others are as they were.
abbrev pub IsGrantedByOne : ℕ → ℕ → List Arena → List Arena → Type 0
IsGrantedByOne address size old new = AllZip (λ x y. (y ≡ x) ⊎ ((x.top ≡ address) × (y.top ≡ address + size) × (y.peak ≡ max x.peak (address + size)))) old new

-- A request for `size` bytes was granted, by the first arena that has room for them.
pub record IsGrantedAmong (size : ℕ) (old : List Arena) (grant : Grant) (new : List Arena) : Type 0 where
  pub place : (place_for old size ≡ Some grant.base) × (grant.size ≡ size) × (grant.flags ≡ 0)
  pub by_one : IsGrantedByOne grant.base size old new
  pub good : IsGoodGrant size grant
  pub apart : AllByRecursion (IsApart grant.base (grant.base + grant.size)) (regions_of_all old)
  pub regions : regions_of_all new ≡ with_grant grant (regions_of_all old)
  pub follows : AreAfter old (Granted size grant ∷ []) new

-- `count` words from an address on were written, and no other, granted or not; nothing was granted, and nothing was
-- given back.
abbrev pub IsOnlyWritten : (at count : ℕ) → List Arena → List Arena → Type 0
IsOnlyWritten at count old new = AllZip (λ x y. KeepsOthers at count x y × (y.top ≡ x.top) × (y.peak ≡ x.peak)) old new

-- Of their words only `count` from an address on may have changed, granted or not. Nothing was granted, and nothing was
-- given back.
pub record AreWrittenAt (at count : ℕ) (old new : List Arena) : Type 0 where
  pub only : IsOnlyWritten at count old new
  pub regions : regions_of_all new ≡ regions_of_all old
  pub follows : AreAfter old [] new

-- A word was put at an address, and nothing else changed.
pub record IsWordPutAmong (at value : ℕ) (old new : List Arena) : Type 0 where
  pub stored : IsStored (regions_of_all old) (word_among old) at value (word_among new)
  pub written : AreWrittenAt at 1 old new

-- The bytes from an address on and below another one, the end of a run, were given back: each arena's own.
pub record AreTakenBack (low high : ℕ) (old new : List Arena) : Type 0 where
  pub taken : AllZip (λ x y. IsTakenBack low high x y) old new
  pub regions : regions_of_all new ≡ without_run low high (regions_of_all old)

-- a request is denied if no arena has room for it
abbrev pub IsDeniedByAll : List Arena → ℕ → GrantFault → Type 0
IsDeniedByAll arenas size fault = (fault ≡ NoSpace) × (place_for arenas size ≡ None)

-- Another arena is among them.
pub record IsAdded (old : List Arena) (arena : Arena) (new : List Arena) : Type 0 where
  pub place : ℕ
  pub within : place ≤ length old
  pub new_is : new ≡ insert old place arena
  pub regions : regions_of_all new ≡ regions_of_all old
  pub words : (at : ℕ) → IsWordOf (regions_of_all old) at → word_among new at ≡ word_among old at

-- whether an arena has an address that another one has, or is empty within it
abbrev pub overlaps : Arena → Arena → Bool
overlaps arena other = nat_lt other.base (end_of arena) && nat_lt arena.base (end_of other)

-- Why another arena is not taken among at most a given number: it has grants; else it overlaps one of them; else there
-- are already that many.
abbrev pub IsNotAdded : List Arena → ℕ → Arena → AddFault → Type 0
IsNotAdded arenas most arena InUse = regions_of arena ≢ []
IsNotAdded arenas most arena Overlaps = (regions_of arena ≡ []) × IsTrue (list_any (λ other. overlaps arena other) arenas)
IsNotAdded arenas most arena NoPlace = (regions_of arena ≡ []) × (list_any (λ other. overlaps arena other) arenas ≡ false) × (length arenas ≡ most)
