use Rattle.std.proofs.Common.{arith}
use Rattle.dlmalloc_chunks.proofs.Powers.{power_small}
use Rattle.dlmalloc_chunks.proofs.sizes.max_request.Goals as goal

pub overflow_sub-result-else-granularity-eq16-2 : goal.overflow_sub-result-else-granularity-eq16-2
overflow_sub-result-else-granularity-eq16-2 c = omega (arith, power_small c.args.granularity c.requires.power (omega arith))
