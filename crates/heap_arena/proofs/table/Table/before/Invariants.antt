use Rattle.std.proofs.Common.{◌≡◌, ℕ, ◌+◌, ◌<◌, ◌≤◌, false}
use Rattle.heap_arena.specs.Grants.{lies_before, grant_at}
use Rattle.heap_arena.proofs.table.Table.before.Given as goal

-- the grants that were passed do not lie before the place
abbrev pub invariant-loop-passed : goal.invariant-loop-passed
invariant-loop-passed l =
    (k : ℕ) → l.self.count ≤ k + l.passed → k < l.self.count → lies_before l.place (grant_at l.self.words.now k) ≡ false
