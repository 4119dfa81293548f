-- Runs of granted bytes, and the regions without the bytes that are given back.
use Rattle.std.specs.Prelude.{ℕ, ◌+◌, ◌-◌, ◌%◌, ◌<◌, ◌≤◌, ◌⊎◌, Bool, not, ◌&&◌, ◌==◌, nat_le, nat_lt, if◌then◌else◌, List, map, IsTrue}
use Rattle.std.specs.List.{AllByRecursion, filter}
use Rattle.heap_memory.specs.declared.grant.Grant.{Grant}
use Rattle.heap_memory.specs.Regions.{is_granted, IsApart}

-- all bytes of a region are among those from low on and below high
abbrev pub IsWithin : ℕ → ℕ → Grant → Type 0
IsWithin low high region = (low ≤ region.base) × (region.base + region.size ≤ high)

-- The bytes from low on and below high are a run: they are granted, and are those of whole regions.
pub record IsRun (regions : List Grant) (low high : ℕ) : Type 0 where
  pub some : low < high
  pub granted : (at : ℕ) → low ≤ at → at < high → IsTrue (is_granted regions at)
  pub whole : AllByRecursion (λ region. IsApart low high region ⊎ IsWithin low high region) regions

-- whether a region begins among the bytes from low on and below high
abbrev pub begins_in : ℕ → ℕ → Grant → Bool
begins_in low high region = nat_le low region.base && nat_lt region.base high

-- a region, which ends at a place if the place is in it: its flags stay
abbrev pub up_to : ℕ → Grant → Grant
up_to place region =
    if nat_lt region.base place && nat_lt place (region.base + region.size) then record region { size = place - region.base } else region

-- The regions after the bytes from low on and below high were given back, high being the end of a run: those that begin
-- there leave, and one that reaches there from before ends where they begin.
abbrev pub without_run : ℕ → ℕ → List Grant → List Grant
without_run low high regions = map (λ region. up_to low region) (filter (λ region. not (begins_in low high region)) regions)

-- whether a size is made of units of a number of bytes; nothing is made of units of 0 bytes
abbrev pub is_in_units : ℕ → ℕ → Bool
is_in_units unit size = nat_lt 0 unit && size % unit == 0
