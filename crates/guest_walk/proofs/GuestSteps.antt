-- The walk in a mode, one step after the other, by the entries that the code reads.
use Rattle.std.proofs.Common.{◌≡◌, ℕ, ◌<◌, List, refl}
use Rattle.guest_walk.specs.GuestWalk.{Ending, Finding, found_root, read_at, by_entry, guest_walk, IsInTime}
use Rattle.guest_walk.specs.declared.mode.Mode.{Mode}
use Rattle.guest_walk.specs.declared.walking.Next.{Next}
use Rattle.guest_walk.specs.declared.walking.Next.TheVariants.{Table, End as Ends}

pub in_time : (step : ℕ) (next : Next) → step < 3 → IsInTime step next
in_time step (Table to) before = before
in_time step (Ends end) before = tt

-- the walk from the table of a step on
abbrev pub from_table : Mode → ℕ → List ℕ → ℕ → ℕ → Finding → Ending
from_table mode width words page step at = by_entry mode width words page step at (read_at mode words step at.place.frame page)

pub from_root : (mode : Mode) (width : ℕ) (words : List ℕ) (root page : ℕ) →
    guest_walk mode width words root page ≡ from_table mode width words page 0 (found_root root)
unfolding guest_walk
from_root mode width words root page = refl
