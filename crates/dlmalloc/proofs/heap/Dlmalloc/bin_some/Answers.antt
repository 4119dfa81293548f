use Rattle.dlmalloc.proofs.Names.{◌≢◌, arith}
use Rattle.dlmalloc.proofs.Bins.Changes.{not_rebinned, none_binned}
use Rattle.dlmalloc.proofs.Bins.Order.{added_none, added_as}
use Rattle.dlmalloc.proofs.heap.Dlmalloc.bin_some.Goals as goal

pub bin-requires : goal.bin-requires
bin-requires g c =
    let some : c.args.size ≢ 0 = λ none. (let some = c.if-size-gt0.true in omega arith) in
    record { sound = c.requires.sound; free = c.requires.free some; other = c.requires.other some; loose = c.requires.loose }

pub returns-else-size-gt0-clause-bins : goal.returns-else-size-gt0-clause-bins
returns-else-size-gt0-clause-bins g c = record {
  binned = λ loose b apart.
      (none_binned b (λ n free. absurd (c.requires.none (let none = c.if-size-gt0.false in omega arith) n free)), added_none c.args.size c.args.at b.index);
  same = not_rebinned g.A.Links.follows c.requires.sound (g.A.Links.follows_none c.args.self.now.system);
}

pub returns-then-size-gt0-clause-bins : goal.returns-then-size-gt0-clause-bins
returns-then-size-gt0-clause-bins g c = record {
  binned = λ loose b apart. (let after = c.bin.ensures.bins.binned loose b apart in
      (after.0, added_as c.args.size c.args.at b.index after.0.index after.1));
  same = c.bin.ensures.bins.same;
}
