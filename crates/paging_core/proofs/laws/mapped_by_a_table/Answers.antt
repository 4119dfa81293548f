use Rattle.std.proofs.Common.{◌≡◌, ◌∙◌, ◌⊎◌, inl, inr, ℕ, List, sym, ap, refl, Some, None, arith}
use Rattle.std.specs.Prelude.{IsSome}
use Rattle.paging_core.specs.Prefix.{prefix_of}
use Rattle.paging_core.specs.Walk.{Place, reach, large_of}
use Rattle.paging_core.proofs.Reach.{either_way, ByEntry, InLarge}
use Rattle.paging_core.proofs.Prefixes.{walk_reach, prefix_parent}
use Rattle.paging_core.proofs.laws.mapped_by_a_table.Goals as goal

by_table : (words : List ℕ) (root page : ℕ) (place : Place) → large_of words root (prefix_of page 3) ≡ None →
    ByEntry words root (prefix_of page 4) place ⊎ InLarge words root (prefix_of page 4) place → IsSome (reach words root 3 (prefix_of page 3))
by_table words root page place none (inl x) =
    let e : reach words root 3 (prefix_of page 3) ≡ Some x.table = ap (reach words root 3) (sym (prefix_parent page 3 (omega arith))) ∙ x.met in rw e refl
by_table words root page place none (inr x) =
    let e : large_of words root (prefix_of page 3) ≡ Some x.large = ap (large_of words root) (sym (prefix_parent page 3 (omega arith))) ∙ x.met in absurd (cc)

pub returns : goal.returns
returns c = λ words root page place at none.
    by_table words root page place none (either_way words root (prefix_of page 4) place (sym (walk_reach words root page) ∙ at))
