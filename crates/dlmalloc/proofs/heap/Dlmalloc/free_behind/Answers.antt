use Rattle.dlmalloc.proofs.Names.{arith, rules}
use Rattle.dlmalloc.proofs.Bins.Order.{turned_same}
use Rattle.dlmalloc.proofs.heap.Dlmalloc.free_behind.Goals as goal

pub returns-then-size-n-le-LEAST_CHUNK-clause-resized : goal.returns-then-size-n-le-LEAST_CHUNK-clause-resized
returns-then-size-n-le-LEAST_CHUNK-clause-resized g c =
    record { others = search rules; turned = turned_same g.A.Links.follows c.requires.intact (g.A.Links.follows_none c.args.self.now.system) }

pub free_tail-requires-clause-split : goal.free_tail-requires-clause-split
free_tail-requires-clause-split g c = record {
  chunk = c.requires.can.chunk;
  bytes = c.requires.can.bytes;
  room = (let room = c.requires.can.room in let rest = c.if-size-n-le-LEAST_CHUNK.false in omega arith);
}
