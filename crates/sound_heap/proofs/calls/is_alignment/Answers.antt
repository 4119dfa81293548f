use Rattle.std.proofs.Common.{◌∙◌, sym}
use Rattle.dlmalloc_chunks.proofs.PowersOfTwo.{power_from_test, test_of_power}
use Rattle.sound_heap.proofs.calls.is_alignment.Goals as goal

pub returns : goal.returns
returns c = (
  λ is. power_from_test c.args.align (sym c.is_power_of_two.ensures ∙ is),
  λ power. c.is_power_of_two.ensures ∙ test_of_power c.args.align power,
)
