use Rattle.std.proofs.Common.{arith, ◌∙◌}
use Rattle.paging_core.proofs.EntryBits.{and_bit}
use Rattle.paging_core.proofs.page_table.PageTableEntry.is_through.Goals as goal

pub returns : goal.returns
returns c = c.has.ensures ∙ and_bit c.args.self.now 3 (omega arith)
