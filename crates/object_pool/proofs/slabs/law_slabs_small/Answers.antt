use Rattle.std.proofs.Common.{arith}
use Rattle.object_pool.proofs.SlabPlaces.{never_large}
use Rattle.object_pool.proofs.slabs.law_slabs_small.Goals as goal

pub returns : goal.returns
returns c = never_large c.args.granularity c.args.size c.requires.granularity (omega arith) c.requires.small
