use Rattle.std.proofs.Common.{◌≡◌, map, take, drop, ◌++◌, vec_len, vec_capacity}
use Rattle.heap_memory.specs.Runs.{up_to}
use Rattle.heap_memory.proofs.flat_release.give_back.Given as goal

abbrev pub invariant-loop-i : goal.invariant-loop-i
invariant-loop-i l = record {
  items : l.regions.items ≡ map (λ region. up_to l.fn.low region) (take l.i l.initial.regions.items) ++ drop l.i l.initial.regions.items;
  len : vec_len l.regions ≡ vec_len l.initial.regions;
  capacity : vec_capacity l.regions ≡ vec_capacity l.initial.regions;
}
