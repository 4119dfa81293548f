use Rattle.bins.specs.Index.{first_or}
use Rattle.dlmalloc.proofs.Bins.Changes.{is_binned, now_loose, relinked}
use Rattle.dlmalloc.proofs.Bins.Held.{one_size}
use Rattle.dlmalloc.proofs.Names.{◌≡◌, ◌≤◌, refl, subst, state_of}
use Rattle.dlmalloc.proofs.heap.Dlmalloc.unbin_fit.Goals as goal

pub unlink_fit-requires : goal.unlink_fit-requires
unlink_fit-requires g c =
    let r = c.requires.binned in let fit = c.requires.member.1 r.1.index r.1.linked in
    let size = one_size (state_of g.A.Links.word c.args.self.now) (r.1.holds.free c.args.at fit.size fit.binned) c.requires.free in
    let oldest = subst (λ n. 256 ≤ n → c.args.at ≡ first_or 0 (r.1.index n)) size fit.oldest in
    record { linked = (r.1.index, r.1.linked, is_binned c.requires.sound c.requires.free r.1 c.requires.other r.2, oldest) }

pub returns-clause-bins : goal.returns-clause-bins
returns-clause-bins g c =
    let first = c.requires.binned.1 in let e = c.unlink_fit.ensures in
    let same = relinked c.requires.sound c.requires.free first c.unlink_fit.new.memory c.unlink_fit.new.self e.unlinked.regions
    (e.unlinked.words first.index first.linked (is_binned c.requires.sound c.requires.free first c.requires.other c.requires.binned.2)) e.unlinked.follows in
    record {
      loose = λ loose b apart.
          let linked = e.unlinked.linked b.index b.linked (is_binned c.requires.sound c.requires.free b c.requires.other apart) in
          (now_loose c.requires.sound c.requires.free b c.unlink_fit.new.memory linked same.state, λ n. refl);
      same = same;
    }
