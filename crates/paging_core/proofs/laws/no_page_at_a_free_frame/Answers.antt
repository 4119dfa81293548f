use Rattle.std.proofs.Common.{◌∙◌, sym, arith}
use Rattle.paging_core.specs.Prefix.{prefix_of}
use Rattle.paging_core.proofs.Prefixes.{walk_reach}
use Rattle.paging_core.proofs.laws.no_page_at_a_free_frame.Goals as goal

pub returns : goal.returns
returns c = λ words root free page place tree here.
    tree.used 4 (prefix_of page 4) place (omega arith) (sym (walk_reach words root page) ∙ here)
