use Rattle.std.proofs.Common.{length}
use Rattle.heap_tables.proofs.owners.+owner_at.Given as goal

abbrev pub decreases-owner_at : goal.decreases-owner_at
decreases-owner_at l = length l.regions.now
