use Rattle.std.proofs.Common.{length}
use Rattle.heap_arena.proofs.among.+load_among.Given as goal

abbrev pub decreases-load_among : goal.decreases-load_among
decreases-load_among l = length l.arenas.now
