use Rattle.paging_core.proofs.Plain.{unmarked}
use Rattle.paging_core.specs.Memory.{word_at}
use Rattle.paging_core.proofs.laws.no_entry_is_marked.Goals as goal

pub returns : goal.returns
returns c = λ words root level number index table writes plain lt li met present.
    unmarked words level (word_at words table.frame index) writes (plain.each level number index table lt li met present)
