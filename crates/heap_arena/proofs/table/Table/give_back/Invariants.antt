use Rattle.std.proofs.Common.{ℕ, ◌≡◌, ◌≤◌, length}
use Rattle.heap_memory.specs.Runs.{without_run}
use Rattle.heap_arena.specs.Grants.{grant_at, grants}
use Rattle.heap_arena.proofs.table.Table.give_back.Given as goal

abbrev pub invariant-loop-i : goal.invariant-loop-i
invariant-loop-i l = record {
  kept : l.kept ≤ l.i;
  count : l.self.count ≡ l.initial.self.count;
  len : length l.self.words.now ≡ length l.initial.self.words.now;
  looked : grants l.self.words.now l.kept ≡ without_run l.fn.low l.fn.high (grants l.initial.self.words.now l.i);
  ahead : (k : ℕ) → l.i ≤ k → grant_at l.self.words.now k ≡ grant_at l.initial.self.words.now k;
}
