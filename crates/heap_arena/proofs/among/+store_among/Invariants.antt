use Rattle.std.proofs.Common.{length}
use Rattle.heap_arena.proofs.among.+store_among.Given as goal

abbrev pub decreases-store_among : goal.decreases-store_among
decreases-store_among l = length l.arenas.now
