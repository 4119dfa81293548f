-- The lines of page tables are what walks find.
use Rattle.std.proofs.Common.{◌≡◌, ◌<◌, ◌^◌, ℕ, List, false, Some, None, sym, ◌∙◌, ap, subst, arith}
use Rattle.std.specs.List.{list_any}
use Rattle.paging_core.specs.Prefix.{prefix_of}
use Rattle.paging_core.specs.Walk.{reach, walk_of, top}
use Rattle.paging_core.proofs.Prefixes.{reach_root}
use Rattle.heap_tables.specs.declared.lines.Line.{Line}
use Rattle.heap_tables.specs.declared.owners.Owned.{Owned}
use Rattle.heap_tables.specs.Lines.{entry_lines_of}
use Rattle.heap_tables.specs.Joining.{joined_table_lines}
use Rattle.heap_tables.specs.Walked.{AreOwned, AreWalked, IsOwned, IsWalked, EachPageIsInItsLine, line_has_page}
use Rattle.heap_tables.proofs.Joins.{walked_joined, owned_joined, has_joined, greatest_joined}
use Rattle.heap_tables.proofs.Belonging.{all_owned}
use Rattle.heap_tables.proofs.Walks.{under_hold, all_walked}
use Rattle.heap_tables.proofs.Unsaid.{under_none}

-- a walk begins at the root
root_met : (words : List ℕ) (root : ℕ) → reach words root 0 0 ≡ Some (top root)
root_met words root = let first : prefix_of 0 0 ≡ 0 = omega arith in ap (reach words root 0) (sym first) ∙ reach_root words root 0

unsaid : (words : List ℕ) (regions : List Owned) (root page : ℕ) → page < 2 ^ 36 →
    list_any (line_has_page page) (joined_table_lines words regions root) ≡ false → walk_of words root page ≡ None
unsaid words regions root page low none =
    let first : prefix_of page 0 ≡ 0 = omega arith in
    under_none words regions root 4 page 0 (top root) (omega arith) low (sym first) (root_met words root)
    (sym (has_joined page (entry_lines_of words regions root)) ∙ none)

pub each_page : EachPageIsInItsLine
each_page words regions root = record {
  walked = record {
    said = walked_joined words root (entry_lines_of words regions root)
        (under_hold (IsWalked words root) words regions root 4 0 (top root) (all_walked words regions root) (omega arith)
        (omega arith) (root_met words root));
    unsaid = λ page low none. unsaid words regions root page low none;
  };
  owned = λ one.
      owned_joined regions (entry_lines_of words regions root) (under_hold (IsOwned regions) words regions root 4 0
      (top root) (all_owned words regions root one) (omega arith) (omega arith) (root_met words root));
  greatest = greatest_joined (entry_lines_of words regions root);
}

pub lines_walked : (words : List ℕ) (regions : List Owned) (root : ℕ) (lines : List Line) →
    lines ≡ joined_table_lines words regions root → AreWalked words root lines
lines_walked words regions root lines is = subst (AreWalked words root) (sym is) (each_page words regions root).walked

pub lines_owned : (words : List ℕ) (regions : List Owned) (root : ℕ) (lines : List Line) →
    lines ≡ joined_table_lines words regions root → AreOwned words regions root lines
lines_owned words regions root lines is = subst (AreOwned words regions root) (sym is) (each_page words regions root).owned
