use Rattle.std.proofs.Common.{arith, ◌≤◌}
use Rattle.paging_core.specs.Steps.{half_pages}
use Rattle.paging_core.proofs.PageOrder.{gap_below}
use Rattle.paging_core.proofs.pages.Page.position.Goals as goal

pub overflow_sub-result : goal.overflow_sub-result
overflow_sub-result g c =
    let size = g.S.PageSize in
    let from : half_pages size.SIZE ≤ c.self.inside.number = omega (arith, c.half_pages.ensures) in
    let over = gap_below size.SIZE size.is_some size.divides_half c.self.inside.number c.self.invariant from in
    omega (arith, over, c.gap_pages.ensures)

pub returns-else-self-half_pages-clause-bounded : goal.returns-else-self-half_pages-clause-bounded
returns-else-self-half_pages-clause-bounded g c =
    let size = g.S.PageSize in
    let from : half_pages size.SIZE ≤ c.self.inside.number = omega (arith, c.half_pages.ensures) in
    let over = gap_below size.SIZE size.is_some size.divides_half c.self.inside.number c.self.invariant from in
    omega (arith, over, c.gap_pages.ensures)
