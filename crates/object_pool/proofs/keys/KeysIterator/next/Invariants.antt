use Rattle.std.proofs.Common.{◌≡◌, ◌+◌, ◌-◌, ◌^◌, ◌≤◌, length}
use Rattle.object_pool.specs.Slots.{keys_from}
use Rattle.object_pool.proofs.keys.KeysIterator.next.Given as goal

-- only slots without an object were passed
abbrev pub invariant-loop-slot : goal.invariant-loop-slot
invariant-loop-slot l = (l.self-inside.index + length l.self-inside.slots.now ≤ 2 ^ 32 - 64) × (keys_from
    l.self-inside.index l.self-inside.slots.now ≡ l.fn.self)

abbrev pub decreases-loop-slot : goal.decreases-loop-slot
decreases-loop-slot l = length l.self-inside.slots.now
