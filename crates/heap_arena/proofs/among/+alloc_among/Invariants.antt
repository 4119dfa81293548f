use Rattle.std.proofs.Common.{length}
use Rattle.heap_arena.proofs.among.+alloc_among.Given as goal

abbrev pub decreases-alloc_among : goal.decreases-alloc_among
decreases-alloc_among l = length l.arenas.now
