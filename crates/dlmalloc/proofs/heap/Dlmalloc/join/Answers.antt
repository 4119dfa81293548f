use Rattle.dlmalloc.proofs.Names.{sym, ◌∙◌, arith, nat_tests}
use Rattle.dlmalloc.proofs.Grants.WithBins.{as_joined, admitted_binned}
use Rattle.dlmalloc.proofs.Bins.Order.{order_same, bins_kept}
use Rattle.dlmalloc.proofs.heap.Dlmalloc.join.Goals as goal

pub returns-then-self-eq0 : goal.returns-then-self-eq0
returns-then-self-eq0 g c =
    let e = c.open.ensures.admitted in
    record {
      joined = as_joined g.A.Links.regions g.A.Links.word g.A.Links.follows c.args.self.now c.args.grant.now e.joined;
      bins = bins_kept (λ b. (admitted_binned c.law_index_stays.ensures c.requires.intact.sound e.joined e.free e.same b, order_same b.index))
          c.requires.intact.linked;
    }

pub returns-then-is_behind : goal.returns-then-is_behind
returns-then-is_behind g c =
    let e = c.extend.ensures.admitted in
    record {
      joined = as_joined g.A.Links.regions g.A.Links.word g.A.Links.follows c.args.self.now c.args.grant.now e.joined;
      bins = bins_kept (λ b. (admitted_binned c.law_index_stays.ensures c.requires.intact.sound e.joined e.free e.same b, order_same b.index))
          c.requires.intact.linked;
    }

pub add_segment-requires : goal.add_segment-requires
add_segment-requires g c = record {
  intact = c.requires.intact;
  segment = record {
    there = (let other = c.if-self-eq0.false in grind (arith, nat_tests));
    fresh = c.requires.fresh;
    apart = c.requires.apart;
    beside = sym c.is_behind.ensures ∙ c.if-is_behind.false;
  };
}
