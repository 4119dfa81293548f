use Rattle.std.proofs.Common.{◌∙◌, ap, arith}
use Rattle.paging_core.specs.Entry.{page_entry}
use Rattle.paging_core.proofs.EntryBits.{page_word}
use Rattle.paging_core.proofs.page_table.PageTableEntry.to_page.Goals as goal

pub returns-clause-value : goal.returns-clause-value
returns-clause-value c =
    rw (c.bits.ensures, c.bitor-there.ensures, c.bitor.ensures, c.bits_where.ensures, c.bits_where-2.ensures, c.bits_where-3.ensures, c.bits_where-4.ensures, c.bits_where-5.ensures, c.bits_where-high.ensures)
    (page_word c.number.result c.args.rights (omega arith) ∙ ap (λ n. page_entry n c.args.rights) c.number.ensures.value)
