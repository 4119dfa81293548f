use Rattle.std.proofs.Common.{◌<◌, sym, arith}
use Rattle.std.proofs.lemmas.Bool.Decides.{nat_tests}
use Rattle.paging_core.proofs.PageOrder.{position-lt, position-lt_back}
use Rattle.paging_core.proofs.pages.Page.is_before.Goals as goal

pub returns-clause-place : goal.returns-clause-place
returns-clause-place g c =
    let size = g.S.PageSize in
    let first = c.number.result in
    let second = c.number-2.result in
    rw (sym c.number.ensures.value, sym c.number-2.ensures.value) (
      (λ test.
          let h : first < second = grind (arith, nat_tests) in
          position-lt size.SIZE size.is_some size.divides_half first second c.number.ensures.canonical c.number-2.ensures.canonical h),
      (λ places.
          let h = position-lt_back size.SIZE size.is_some size.divides_half first second c.number.ensures.canonical c.number-2.ensures.canonical places in
          grind (arith, nat_tests, h)),
    )
