use Rattle.dlmalloc.proofs.Names.{[], KeepsOrder}
use Rattle.dlmalloc.proofs.Grants.WithBins.{as_joined, top_not_free, little_left, top_no_victim, top_left, joined_binned, none_in_grant}
use Rattle.dlmalloc.proofs.Bins.Order.{order_same, lessened_same, added_as, in_order, bins_kept}
use Rattle.dlmalloc.proofs.heap.Dlmalloc.add_segment.Goals as goal

pub returns-then-top_size-lt-LEAST_CHUNK : goal.returns-then-top_size-lt-LEAST_CHUNK
returns-then-top_size-lt-LEAST_CHUNK g c =
    let e = c.change_head.ensures.admitted in
    record {
      joined = as_joined g.A.Links.regions g.A.Links.word g.A.Links.follows c.args.self.now c.args.grant.now e.joined;
      bins = bins_kept (λ b. (
        little_left c.law_index_stays.ensures c.requires.intact.sound c.requires.segment.there e.joined e.free e.same b
            c.if-top_size-lt-LEAST_CHUNK.true,
        order_same b.index,
      )) c.requires.intact.linked;
    }

pub bin-requires : goal.bin-requires
bin-requires g c =
    let e = c.change_head.ensures.admitted in let many = c.if-top_size-lt-LEAST_CHUNK.false in
    record {
      sound = e.joined.sound;
      free = c.change_head.ensures.rest many;
      other = top_no_victim c.law_index_stays.ensures c.requires.intact.sound c.requires.segment.there e.joined e.free e.same c.requires.intact.linked;
      loose = ([], top_left c.law_index_stays.ensures c.requires.intact.sound c.requires.segment.there e.joined e.free e.same c.requires.intact.linked many);
    }

pub returns : goal.returns
returns g c =
    let e = c.change_head.ensures.admitted in let many = c.if-top_size-lt-LEAST_CHUNK.false in let last = c.bin.ensures.bins in
    let middle = c.change_head.new.self in let top = c.args.self.now.top in let size = c.args.self.now.top_size in
    let order : KeepsOrder g.A.Links.regions g.A.Links.word c.args.self.now c.bin.new.self = λ b.
    let after = last.binned [] (top_left c.law_index_stays.ensures c.requires.intact.sound c.requires.segment.there e.joined e.free e.same b many) (λ none. none) in (
      after.0,
      in_order size top b.index b.index after.0.index (lessened_same b.index)
          (added_as size top b.index after.0.index after.1) (λ is. top_not_free c.requires.intact.sound c.requires.segment.there
          (b.holds.free top size is)),
    ) in
    record {
      joined = joined_binned c.law_index_stays.ensures c.requires.intact.sound c.requires.segment.there e.joined e.free e.same c.requires.intact.linked
          last.same last.same.fields g.A.Links.follows_on
          (none_in_grant middle c.requires.intact.sound c.requires.segment.there c.requires.segment.fresh e.free many (c.change_head.ensures.rest many));
      bins = bins_kept order c.requires.intact.linked;
    }
