use Rattle.std.proofs.Common.{List, ℕ, ◌++◌, string_bytes, sym, ◌∙◌, ap, append_assoc, codes}
use Rattle.std.proofs.lemmas.List.{append-nil}
use Rattle.run_figures.specs.Classes.{tree_count}
use Rattle.run_figures.specs.Text.{bin_class_text, tree_texts}
use Rattle.run_figures.proofs.Texts.{tree_none, tree_more}
use Rattle.run_figures.proofs.text.push_trees.Goals as goal

pub loop-index-init : goal.loop-index-init
loop-index-init c =
    let out = string_bytes c.args.out.now in
    sym (ap (λ (l : List ℕ). out ++ l) (tree_none c.args.before.now c.args.behind.now c.args.extents.now) ∙ append-nil out)

pub loop-index-preserved : goal.loop-index-preserved
loop-index-preserved c =
    let before = c.args.before.now in
    let behind = c.args.behind.now in
    let extents = c.args.extents.now in
    let out = string_bytes c.args.out.now in
    let n = c.loop-index.index in
    let one = bin_class_text before behind (codes "tree") n (tree_count n extents) in
    c.in_ok-push_class.ensures
    ∙ ap (λ (k : ℕ). string_bytes c.loop-index.out ++ bin_class_text before behind (codes "tree") n k) (c.tree_counts-counts.ensures n c.loop-index-test.true)
    ∙ ap (λ (l : List ℕ). l ++ one) c.loop-index.invariant
    ∙ append_assoc out (tree_texts before behind extents n) one
    ∙ ap (λ (l : List ℕ). out ++ l) (sym (tree_more before behind extents n))
