use Rattle.std.proofs.Common.{◌-◌, ◌^◌, arith}
use Rattle.bins.proofs.Scaled.{range_scaled, word_is}
use Rattle.bins.specs.Tries.{width}
use Rattle.bins.proofs.trie.path_bits.Goals as goal

pub returns : goal.returns
returns c =
    word_is c.args.low (c.args.size - c.args.low) (2 ^ (61 - c.args.levels)) (width c.args.levels) (omega arith)
    (omega arith) c.requires.whole (range_scaled c.args.levels c.requires.few)
