use Rattle.dlmalloc.proofs.Names.{arith, IsTrue, subst, sym, nat_tests, power_from_test}
use Rattle.dlmalloc_chunks.proofs.PowersOfTwo.{test_of_power}
use Rattle.dlmalloc.proofs.heap.is_granularity.Goals as goal

pub returns-then-is_power_of_two : goal.returns-then-is_power_of_two
returns-then-is_power_of_two c =
    let power = power_from_test c.args.granularity (subst IsTrue c.is_power_of_two.ensures c.if-is_power_of_two.true) in
    (λ least. (power, grind (arith, nat_tests)), λ good. grind (arith, nat_tests, good.1))

pub returns-else-is_power_of_two : goal.returns-else-is_power_of_two
returns-else-is_power_of_two c = (
  λ power. absurd (let not = c.if-is_power_of_two.false in cc),
  λ good. subst IsTrue (sym c.is_power_of_two.ensures) (test_of_power c.args.granularity good.0),
)
