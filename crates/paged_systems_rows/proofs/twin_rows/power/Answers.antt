use Rattle.std.proofs.Common.{IsTrue, subst}
use Rattle.dlmalloc_chunks.proofs.PowersOfTwo.{power_from_test}
use Rattle.paged_systems_rows.proofs.twin_rows.power.Goals as goal

pub returns-then-is_power_of_two : goal.returns-then-is_power_of_two
returns-then-is_power_of_two g c = power_from_test c.args.align (subst IsTrue c.is_power_of_two.ensures c.if-is_power_of_two.true)
