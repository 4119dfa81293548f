-- Counts of faults, over several calls.
use Rattle.std.proofs.Common.{ℕ, ◌≤◌, ◌-◌, ◌^◌, arith}
use native.Mathlib.Decide.{dec_lt}
use Rattle.heap_program.specs.Faults.{HasRisen}

-- a count that did not go down, and then rose
pub risen_later : (before middle now : ℕ) → before ≤ middle → middle ≤ now → HasRisen middle now → HasRisen before now
risen_later before middle now first then rose less = elim (dec_lt middle (2 ^ 64 - 1)) [
  | yes low ↦ (let more = rose low in omega (arith, first, more))
  | no full ↦ omega (arith, first, then, less, full)
]
