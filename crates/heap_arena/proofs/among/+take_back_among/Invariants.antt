use Rattle.std.proofs.Common.{length}
use Rattle.heap_arena.proofs.among.+take_back_among.Given as goal

abbrev pub decreases-take_back_among : goal.decreases-take_back_among
decreases-take_back_among l = length l.arenas.now
