use Rattle.std.proofs.Common.{length}
use Rattle.heap_arena.proofs.among.+gap_among.Given as goal

abbrev pub decreases-gap_among : goal.decreases-gap_among
decreases-gap_among l = length l.arenas.now
