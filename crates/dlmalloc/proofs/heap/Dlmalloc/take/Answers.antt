use Rattle.dlmalloc.proofs.Names.{arith}
use Rattle.dlmalloc.proofs.Cuts.OneStepOrTwo.{as_turned}
use Rattle.dlmalloc.proofs.Cuts.BinsMeanwhile.{victim_taken}
use Rattle.dlmalloc.proofs.Bins.Order.{bins_kept}
use Rattle.dlmalloc.proofs.heap.Dlmalloc.take.Goals as goal

pub returns-then-at-self : goal.returns-then-at-self
returns-then-at-self g c =
    let e = c.cut_chunk.ensures.cut in
    let order = victim_taken c.law_index_stays.ensures c.requires.intact.sound e c.if-at-self.true in
    record {
      took = record { taken = e.taken; turned = record { moved = as_turned e.moves.moved; bins = bins_kept order c.requires.intact.linked } };
      counted = omega arith;
    }
