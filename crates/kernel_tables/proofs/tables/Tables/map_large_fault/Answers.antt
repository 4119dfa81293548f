use Rattle.std.proofs.Common.{◌∙◌, ap, sym}
use Rattle.paging_core.specs.Large.{slot_of}
use Rattle.paging_core.specs.Walk.{reach}
use Rattle.kernel_tables.specs.TableState.{TableState}
use Rattle.kernel_tables.proofs.LargePages.{none_unless}
use Rattle.kernel_tables.proofs.tables.Tables.map_large_fault.Goals as goal

pub missing_above-missing-requires : goal.missing_above-missing-requires
missing_above-missing-requires c =
    sym (ap (λ (s : TableState). reach s.words s.root 3 (slot_of c.args.page)) c.self.view_is)
    ∙ none_unless c.has_table.result (reach c.self.inside.memory.words c.self.inside.root 3 (slot_of c.args.page)) c.if-has_table.false c.has_table.ensures.1
