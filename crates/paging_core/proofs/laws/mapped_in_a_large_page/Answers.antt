use Rattle.std.proofs.Common.{◌≡◌, ◌∙◌, ◌%◌, ap, Some, arith}
use Rattle.paging_core.specs.Prefix.{prefix_of}
use Rattle.paging_core.specs.Walk.{large_of, page_in}
use Rattle.paging_core.proofs.Reach.{reach_in, large_none}
use Rattle.paging_core.proofs.Prefixes.{walk_reach, prefix_parent}
use Rattle.paging_core.proofs.laws.mapped_in_a_large_page.Goals as goal

pub returns : goal.returns
returns c = λ words root page large is.
    let i : prefix_of page 4 % 512 ≡ page % 512 = omega arith in (
      walk_reach words root page
          ∙ (reach_in words root (prefix_of page 4) large (ap (large_of words root) (prefix_parent page 3 (omega arith)) ∙ is)
          ∙ ap (λ j. Some (page_in j large)) i),
      large_none words root (prefix_of page 3) large is,
    )
