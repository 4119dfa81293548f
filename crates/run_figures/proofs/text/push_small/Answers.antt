use Rattle.std.proofs.Common.{List, ℕ, ◌++◌, string_bytes, sym, ◌∙◌, ap, append_assoc, codes}
use Rattle.std.proofs.lemmas.List.{append-nil}
use Rattle.run_figures.specs.Classes.{small_count}
use Rattle.run_figures.specs.Text.{bin_class_text, small_texts}
use Rattle.run_figures.proofs.Texts.{small_none, small_more}
use Rattle.run_figures.proofs.text.push_small.Goals as goal

pub loop-size-init : goal.loop-size-init
loop-size-init c =
    let out = string_bytes c.args.out.now in
    sym (ap (λ (l : List ℕ). out ++ l) (small_none c.args.before.now c.args.behind.now c.args.extents.now) ∙ append-nil out)

pub loop-size-preserved : goal.loop-size-preserved
loop-size-preserved c =
    let before = c.args.before.now in
    let behind = c.args.behind.now in
    let extents = c.args.extents.now in
    let out = string_bytes c.args.out.now in
    let n = c.loop-size.size in
    let one = bin_class_text before behind (codes "small") n (small_count n extents) in
    c.in_ok-push_class.ensures
    ∙ ap (λ (k : ℕ). string_bytes c.loop-size.out ++ bin_class_text before behind (codes "small") n k) (c.small_counts-counts.ensures n c.loop-size-test.true)
    ∙ ap (λ (l : List ℕ). l ++ one) c.loop-size.invariant
    ∙ append_assoc out (small_texts before behind extents n) one
    ∙ ap (λ (l : List ℕ). out ++ l) (sym (small_more before behind extents n))
