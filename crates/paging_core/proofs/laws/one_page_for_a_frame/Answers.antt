use Rattle.std.proofs.Common.{◌≡◌, ◌∙◌, sym, arith}
use Rattle.paging_core.specs.Prefix.{prefix_of}
use Rattle.paging_core.proofs.Prefixes.{walk_reach}
use Rattle.paging_core.proofs.laws.one_page_for_a_frame.Goals as goal

pub returns : goal.returns
returns c = λ words root free page other place place' tree here there same.
    let e : prefix_of page 4 ≡ prefix_of other 4 =
    (tree.distinct 4 (prefix_of page 4) 4 (prefix_of other 4) place place' (omega arith) (omega arith)
    (sym (walk_reach words root page) ∙ here) (sym (walk_reach words root other) ∙ there) same).1 in
    omega arith
