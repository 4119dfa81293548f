use Rattle.paging_core.proofs.Addresses.{canonical_rounded}
use Rattle.paging_core.proofs.pages.Page.containing_address.Goals as goal

pub invariant_of-result : goal.invariant_of-result
invariant_of-result g c =
    rw c.SIZE.ensures
    (canonical_rounded c.as_u64.result g.S.PageSize.SIZE g.S.PageSize.is_some g.S.PageSize.divides_half c.as_u64.ensures.canonical)
