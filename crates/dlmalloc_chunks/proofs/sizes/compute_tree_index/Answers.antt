use Rattle.std.proofs.Common.{◌/◌, ◌+◌, ◌^◌, arith}
use Rattle.dlmalloc_chunks.proofs.HeadBits.{and_one}
use Rattle.dlmalloc_chunks.proofs.Powers.{few_places, tree_index}
use Rattle.dlmalloc_chunks.proofs.sizes.compute_tree_index.Goals as goal

pub overflow_shr-result : goal.overflow_shr-result
overflow_shr-result c = omega (arith, few_places c.ilog2-place.result (c.args.size / 256) c.ilog2-place.ensures.power_le (omega arith))

pub returns : goal.returns
returns c = rw (and_one (c.args.size / 2 ^ (c.ilog2-place.result + 7))) (tree_index c.args.size c.ilog2-place.result (omega arith) c.ilog2-place.ensures.power_le c.ilog2-place.ensures.next_power_gt)
