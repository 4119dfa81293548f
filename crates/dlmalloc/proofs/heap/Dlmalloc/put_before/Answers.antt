use Rattle.dlmalloc.proofs.Names.{[], refl}
use Rattle.dlmalloc.proofs.Grants.CutFromStart.{prepended_binned, put_before_is}
use Rattle.dlmalloc.proofs.Bins.Order.{bins_kept}
use Rattle.dlmalloc.proofs.heap.Dlmalloc.put_before.Goals as goal

pub dispose_chunk-requires-clause-intact : goal.dispose_chunk-requires-clause-intact
dispose_chunk-requires-clause-intact g c =
    let first = c.prepend.ensures.put.prepended in
    record {
      sound = first.sound;
      linked = prepended_binned first c.law_index_stays.ensures c.requires.intact.sound c.prepend.ensures.put.same c.requires.intact.linked;
    }

pub returns : goal.returns
returns g c =
    let heap = c.args.self.now in let middle = c.prepend.new.self in let new = c.dispose_chunk.new.self in
    let first = c.prepend.ensures.put.prepended in let last = c.dispose_chunk.ensures in
    record {
      put = put_before_is c.requires.before.room.bytes.least first last.freed.state last.freed.less last.turned.moved last.freed.records
          (g.A.Links.follows_on heap.system middle.system new.system [] [] [] first.followed last.turned.moved.followed refl);
      bins = bins_kept (λ b. last.turned.bins.order (prepended_binned first c.law_index_stays.ensures c.requires.intact.sound c.prepend.ensures.put.same b))
          c.requires.intact.linked;
    }
