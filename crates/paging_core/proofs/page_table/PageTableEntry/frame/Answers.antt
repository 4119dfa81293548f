use Rattle.std.proofs.Common.{◌∙◌, ap, ◌/◌}
use Rattle.paging_core.specs.Entry.{frame_of}
use Rattle.paging_core.proofs.EntryBits.{and_address}
use Rattle.paging_core.proofs.page_table.PageTableEntry.frame.Goals as goal

pub returns : goal.returns
returns c = c.containing_address.ensures ∙ (ap (λ address. address / 4096) c.new.ensures ∙ (and_address c.self.inside.0 ∙ ap frame_of c.self.view_is))
