use Rattle.heap_program.proofs.Fits.{runs_spell_one}
use Rattle.heap_program.proofs.Spellings.{spells_one}
use Rattle.heap_program.proofs.laws.one_spelling.Goals as goal

pub returns : goal.returns
returns c = record { answers = spells_one; runs = runs_spell_one }
