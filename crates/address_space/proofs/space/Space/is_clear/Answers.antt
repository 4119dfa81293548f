use Rattle.std.proofs.Common.{arith}
use Rattle.address_space.proofs.space.Space.is_clear.Goals as goal

pub returns : goal.returns
returns c =
    let one = c.number.ensures.value in
    let two = c.number-2.ensures.value in (
      (λ t page h k. c.is_clear.ensures.0 t page (omega (arith, one, h)) (omega (arith, two, k))),
      (λ clear. c.is_clear.ensures.1 (λ page h k. clear page (omega (arith, one, h)) (omega (arith, two, k)))),
    )
