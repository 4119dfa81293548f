use Rattle.dlmalloc.proofs.Bins.Changes.{not_rebinned, is_binned, now_loose, relinked, victim_loose}
use Rattle.dlmalloc.proofs.Bins.Order.{none_left}
use Rattle.dlmalloc.proofs.Names.{refl}
use Rattle.dlmalloc.proofs.heap.Dlmalloc.unbin.Goals as goal

pub returns-then-at-self-clause-bins : goal.returns-then-at-self-clause-bins
returns-then-at-self-clause-bins g c = record {
  loose = λ loose b apart. (
    victim_loose c.requires.sound c.requires.free b c.if-at-self.true,
    λ n. none_left c.args.size c.args.at b.index n (λ is. b.holds.no_victim c.args.at n is c.if-at-self.true),
  );
  same = not_rebinned g.A.Links.follows c.requires.sound (g.A.Links.follows_none c.args.self.now.system);
}

pub unlink-requires : goal.unlink-requires
unlink-requires g c =
    let r = c.requires.binned in
    record { linked = (r.1.index, r.1.linked, is_binned c.requires.sound c.requires.free r.1 c.if-at-self.false r.2) }

pub returns-clause-bins : goal.returns-clause-bins
returns-clause-bins g c =
    let first = c.requires.binned.1 in let e = c.unlink.ensures in
    let same = relinked c.requires.sound c.requires.free first c.unlink.new.memory c.unlink.new.self e.unlinked.regions
    (e.unlinked.words first.index first.linked (is_binned c.requires.sound c.requires.free first c.if-at-self.false c.requires.binned.2)) e.unlinked.follows in
    record {
      loose = λ loose b apart.
          let linked = e.unlinked.linked b.index b.linked (is_binned c.requires.sound c.requires.free b c.if-at-self.false apart) in
          (now_loose c.requires.sound c.requires.free b c.unlink.new.memory linked same.state, λ n. refl);
      same = same;
    }
