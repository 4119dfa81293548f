use Rattle.std.proofs.Common.{◌≡◌, ◌-◌, ◌≤◌, length, drop, false}
use Rattle.std.specs.Fmt.{digits_onto}
use Rattle.heap_program.proofs.digits.write_hexadecimal.Given as goal

abbrev pub invariant-loop-at : goal.invariant-loop-at
invariant-loop-at l =
    (l.first ≤ l.at) × (l.at ≤ l.end) × (length l.row ≡ length l.fn.row) × (digits_onto (l.at - l.first) 16 false l.left
    (drop l.at l.row) ≡ digits_onto 64 16 false l.number (drop l.end l.fn.row))

abbrev pub decreases-loop-at : goal.decreases-loop-at
decreases-loop-at l = l.at
