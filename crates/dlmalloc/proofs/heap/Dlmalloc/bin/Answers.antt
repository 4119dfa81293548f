use Rattle.dlmalloc.proofs.Bins.Changes.{fresh, now_binned, relinked}
use Rattle.dlmalloc.proofs.Names.{refl}
use Rattle.dlmalloc.proofs.heap.Dlmalloc.bin.Goals as goal

pub insert-requires : goal.insert-requires
insert-requires g c =
    let b = c.requires.loose in
    record { linked = (b.1.index, b.1.linked, fresh c.requires.sound c.requires.free b.1) }

pub returns-clause-bins : goal.returns-clause-bins
returns-clause-bins g c =
    let first = c.requires.loose.1 in let e = c.insert.ensures in
    let same = relinked c.requires.sound c.requires.free first c.insert.new.memory c.insert.new.self e.inserted.regions
    (e.inserted.words first.index first.linked (fresh c.requires.sound c.requires.free first)) e.inserted.follows in
    record {
      binned = λ loose b apart.
          let linked = e.inserted.linked b.index b.linked (fresh c.requires.sound c.requires.free b) in
          (now_binned c.requires.sound c.requires.free b c.insert.new.memory linked same.state c.requires.other apart, λ n. refl);
      same = same;
    }
