use Rattle.std.proofs.Common.{arith}
use Rattle.paging_core.proofs.PageOrder.{page_at-canonical}
use Rattle.paging_core.proofs.pages.Page.at.Goals as goal

pub invariant_of-result : goal.invariant_of-result
invariant_of-result g c =
    rw c.number_at.ensures
    (page_at-canonical g.S.PageSize.SIZE g.S.PageSize.is_some g.S.PageSize.divides_half c.args.place (omega (arith, c.half_pages.ensures)))
