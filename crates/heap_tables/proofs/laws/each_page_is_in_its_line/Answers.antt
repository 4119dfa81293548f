use Rattle.heap_tables.proofs.EachPage.{each_page}
use Rattle.heap_tables.proofs.laws.each_page_is_in_its_line.Goals as goal

pub returns : goal.returns
returns c = each_page
