use Rattle.std.proofs.Common.{ℕ, [], ◌||◌, IsTrue, take, drop}
use Rattle.heap_memory.specs.FlatScript.{is_promised}
use Rattle.heap_memory.specs.FlatWords.{is_held, are_aligned}
use Rattle.heap_memory.proofs.flat_system.stretches_of.Given as goal

abbrev pub invariant-loop-i : goal.invariant-loop-i
invariant-loop-i l = record {
  aligned : IsTrue (are_aligned l.stretches.items);
  promised : (at : ℕ) → IsTrue (is_promised [] l.script at) → IsTrue (is_held l.stretches.items at || is_promised (take l.i l.script) (drop l.i l.script) at);
}
