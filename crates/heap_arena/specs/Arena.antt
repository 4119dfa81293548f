-- What an arena shows: its regions, its words, and what it denies (own).
use Rattle.std.specs.Prelude.{◌≡◌, ℕ, ◌+◌, ◌-◌, ◌*◌, ◌/◌, ◌<◌, ◌≤◌, ⊤, max, Bool, true, false, ◌&&◌, ◌||◌, nat_le, nat_lt, if◌then◌else◌, List, [], ◌∷◌, IsTrue, refl, length, slice_index, slice_set}
use Rattle.std.specs.List.{AllByRecursion}
use Rattle.heap_memory.specs.declared.grant.Grant.{Grant}
use Rattle.heap_memory.specs.declared.grant.GrantFault.{GrantFault}
use Rattle.heap_memory.specs.declared.grant.GrantFault.TheVariants.{NoSpace}
use Rattle.heap_memory.specs.Allocator.{IsFixed}
use Rattle.heap_memory.specs.Events.{Event, Granted, Refused, Released}
use Rattle.heap_memory.specs.Regions.{is_granted, with_grant, IsApart, IsGoodGrant}
use Rattle.heap_memory.specs.Runs.{begins_in, without_run}
use Rattle.heap_memory.specs.Words.{IsBeside, IsStored}
use Rattle.heap_arena.specs.Grants.{grants}
use Rattle.heap_arena.specs.declared.arena.Arena.{Arena}

-- its grants, which stand by ascending base
abbrev pub regions_of : Arena → List Grant
regions_of arena = grants arena.table.words.now arena.table.count

-- the word at an address
abbrev pub word_of : Arena → ℕ → ℕ
word_of arena at = slice_index arena.words.now ((at - arena.base) / 8)

-- the address after its last word
abbrev pub end_of : Arena → ℕ
end_of arena = arena.base + 8 * length arena.words.now

-- whether a number of bytes are left after all grants, and a place in the table
abbrev pub has_room : Arena → ℕ → Bool
has_room arena size = nat_le (arena.top + size) (end_of arena) && nat_lt (2 * arena.table.count + 1) (length arena.table.words.now)

-- what no call changes: where its words begin, how many there are, and how many are for the table
pub record IsSameArena (old new : Arena) : Type 0 where
  pub base : new.base ≡ old.base
  pub len : length new.words.now ≡ length old.words.now
  pub table : length new.table.words.now ≡ length old.table.words.now

-- The top after the bytes from an address on and below another one, the end of a run, were given back: if they reach
-- it, it is where they begin, or at the first word.
abbrev pub top_without : (base low high top : ℕ) → ℕ
top_without base low high top = if nat_lt low top && nat_le top high then max low base else top

-- The top that events leave of an arena whose words are from one address on and below another one. A grant among them ends
-- where the top then is; other grants are of other arenas.
abbrev pub top_after : (base end top : ℕ) → List Event → ℕ
top_after base end top [] = top
top_after base end top (Granted size grant ∷ events) = top_after base end (if begins_in base end grant then grant.base + grant.size else top) events
top_after base end top (Refused size fault ∷ events) = top_after base end top events
top_after base end top (Released at old_size new_size ∷ events) = top_after base end (top_without base (at + new_size) (at + old_size) top) events

-- the peak that they leave: the highest that the top ever was
abbrev pub peak_after : (base end peak : ℕ) → List Event → ℕ
peak_after base end peak [] = peak
peak_after base end peak (Granted size grant ∷ events) = peak_after base end (if begins_in base end grant then max peak (grant.base + grant.size) else peak) events
peak_after base end peak (Refused size fault ∷ events) = peak_after base end peak events
peak_after base end peak (Released at old_size new_size ∷ events) = peak_after base end peak events

-- each grant among its words begins where the top then is, and has as many bytes as were asked for
abbrev pub AreAtTop : (base end top : ℕ) → List Event → Type 0
AreAtTop base end top [] = ⊤
AreAtTop base end top (Granted size grant ∷ events) =
    (begins_in base end grant ≡ true → (grant.base ≡ top) × (grant.size ≡ size)) × AreAtTop base end (if begins_in base end grant then grant.base + grant.size else top) events
AreAtTop base end top (Refused size fault ∷ events) = AreAtTop base end top events
AreAtTop base end top (Released at old_size new_size ∷ events) = AreAtTop base end (top_without base (at + new_size) (at + old_size) top) events

-- of what events granted, the grants that are among its words
abbrev pub grants_in : (base end : ℕ) → List Event → List Grant
grants_in base end [] = []
grants_in base end (Granted size grant ∷ events) = if begins_in base end grant then grant ∷ grants_in base end events else grants_in base end events
grants_in base end (Refused size fault ∷ events) = grants_in base end events
grants_in base end (Released at old_size new_size ∷ events) = grants_in base end events

-- whether a byte of an arena was granted before these events, or by one of them
abbrev pub is_ever_granted : Arena → List Event → ℕ → Bool
is_ever_granted arena events at = is_granted (regions_of arena) at || is_granted (grants_in arena.base (end_of arena) events) at

-- What an arena says of two moments between which these events happened. Grants were put at its top. Its top and its
-- peak are where they left them, so all that was given back at the end can be granted again. What is granted now was
-- granted before or meanwhile. A word that was granted at no moment is as it was: nobody had it, so nobody wrote to it.
pub record IsArenaAfter (old : Arena) (events : List Event) (new : Arena) : Type 0 where
  pub same : IsSameArena old new
  pub placed : AreAtTop old.base (end_of old) old.top events
  pub top : new.top ≡ top_after old.base (end_of old) old.top events
  pub peak : new.peak ≡ peak_after old.base (end_of old) old.peak events
  pub granted : (at : ℕ) → IsTrue (is_granted (regions_of new) at) → IsTrue (is_ever_granted old events at)
  pub untouched : (i : ℕ) → is_ever_granted old events (old.base + 8 * i) ≡ false → slice_index new.words.now i ≡ slice_index old.words.now i

-- The bytes from an address on and below another one, the end of a run, were given back.
pub record IsTakenBack (low high : ℕ) (old new : Arena) : Type 0 where
  pub regions : regions_of new ≡ without_run low high (regions_of old)
  pub words : new.words.now ≡ old.words.now
  pub base : new.base ≡ old.base
  pub table : length new.table.words.now ≡ length old.table.words.now
  pub top : new.top ≡ top_without old.base low high old.top
  pub peak : new.peak ≡ old.peak

-- its words are as they were, granted or not, but for `count` of them from an address on
abbrev pub KeepsOthers : (at count : ℕ) → Arena → Arena → Type 0
KeepsOthers at count old new = (i : ℕ) → IsBeside at count (old.base + 8 * i) → slice_index new.words.now i ≡ slice_index old.words.now i

-- Of its words only `count` from an address on may have changed, granted or not. Nothing was granted, and nothing was given
-- back.
pub record IsWrittenAt (at count : ℕ) (old new : Arena) : Type 0 where
  pub others : KeepsOthers at count old new
  pub regions : regions_of new ≡ regions_of old
  pub follows : IsArenaAfter old [] new
  pub top : new.top ≡ old.top
  pub peak : new.peak ≡ old.peak

-- A word was put at an address, and nothing else changed.
pub record IsWordPut (at value : ℕ) (old new : Arena) : Type 0 where
  pub stored : IsStored (regions_of old) (word_of old) at value (word_of new)
  pub words : new.words.now ≡ slice_set old.words.now ((at - old.base) / 8) value
  pub written : IsWrittenAt at 1 old new

-- No word was written.
pub record IsUnwritten (old new : Arena) : Type 0 where
  pub same : IsSameArena old new
  pub words : new.words.now ≡ old.words.now

-- A request for `size` bytes was granted after all grants.
pub record IsGrantedAtTop (size : ℕ) (old : Arena) (grant : Grant) (new : Arena) : Type 0 where
  pub room : has_room old size ≡ true
  pub place : grant ≡ record { base = old.top; size = size; flags = 0 }
  pub good : IsGoodGrant size grant
  pub apart : AllByRecursion (IsApart grant.base (grant.base + grant.size)) (regions_of old)
  pub regions : regions_of new ≡ with_grant grant (regions_of old)
  pub top : new.top ≡ old.top + size
  pub peak : new.peak ≡ max old.peak (old.top + size)

pub same_fixed : (x y : Arena) → IsFixed (λ arena. false) (λ arena. true) (λ arena. true) (λ arena. 1) x y
same_fixed x y = record { zeros_same = refl; frees_same = refl; parts_same = refl; unit_same = refl }

-- no byte from an address on is granted
abbrev pub IsAbove : Arena → ℕ → Type 0
IsAbove arena end = (at : ℕ) → IsTrue (is_granted (regions_of arena) at) → at < end

-- each granted byte is in its words
abbrev pub AreInside : Arena → Type 0
AreInside arena = (at : ℕ) → IsTrue (is_granted (regions_of arena) at) → (arena.base ≤ at) × (at < end_of arena)

-- a request is denied if the words after all grants are too few for it, or the table has no place for another grant
abbrev pub IsDenied : Arena → ℕ → GrantFault → Type 0
IsDenied arena size fault = (fault ≡ NoSpace) × (has_room arena size ≡ false)
