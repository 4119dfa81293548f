-- A count of faults, which never falls, and stays at 2 ^ 64 - 1 once it is there.
use Rattle.std.specs.Prelude.{◌≡◌, ◌<◌, ◌≤◌, ◌^◌, ◌+◌, ◌-◌, ℕ, min, Result, is_ok, if◌then◌else◌}

-- the count rose, or stood at its greatest before
abbrev pub HasRisen : ℕ → ℕ → Type 0
HasRisen before now = before < 2 ^ 64 - 1 → before < now

-- over a call the count never falls, and it rose if the call failed by a fault of what it is asked of
abbrev pub KeepsCount : Type 0 → ℕ → ℕ → Type 0
KeepsCount failed before now = (before ≤ now) × (failed → HasRisen before now)

-- a call counted one fault if it failed, and none if it did not
abbrev pub IsFaultCounted : {T E : Type 0} → Result T E → ℕ → ℕ → Type 0
IsFaultCounted result before now = now ≡ (if is_ok result then before else min (before + 1) (2 ^ 64 - 1))
