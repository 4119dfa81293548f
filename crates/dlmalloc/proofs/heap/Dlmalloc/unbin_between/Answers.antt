use Rattle.dlmalloc.proofs.Names.{◌-◌}
use Rattle.dlmalloc.proofs.Bins.Changes.{not_rebinned, none_loose}
use Rattle.dlmalloc.proofs.Bins.Order.{lessened_same, lessened_as}
use Rattle.dlmalloc.proofs.heap.Dlmalloc.unbin_between.Goals as goal

pub unbin-requires : goal.unbin-requires
unbin-requires g c = record { sound = c.requires.sound; free = c.requires.free c.if-from-to.true; binned = c.requires.binned }

pub returns-else-from-to-clause-bins : goal.returns-else-from-to-clause-bins
returns-else-from-to-clause-bins g c = record {
  loose = λ loose b apart. (none_loose c.args.from loose b (c.requires.none c.if-from-to.false), lessened_same b.index);
  same = not_rebinned g.A.Links.follows c.requires.sound (g.A.Links.follows_none c.args.self.now.system);
}

pub returns-then-from-to-clause-bins : goal.returns-then-from-to-clause-bins
returns-then-from-to-clause-bins g c = record {
  loose = λ loose b apart. (let after = c.unbin.ensures.bins.loose loose b apart in
      (after.0, lessened_as (c.args.to - c.args.from) c.args.from b.index after.0.index after.1));
  same = c.unbin.ensures.bins.same;
}
