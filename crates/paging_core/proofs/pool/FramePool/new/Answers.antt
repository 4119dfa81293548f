use Rattle.std.proofs.Common.{◌≡◌, ◌+◌, ◌/◌, ◌%◌, ◌∙◌, ℕ, true, false, ap, set, replicate, arith}
use Rattle.paging_core.proofs.Runs.{new_whole, new_rest}
use Rattle.paging_core.proofs.pool.FramePool.new.Goals as goal
use Rattle.paging_core.proofs.pool.FramePool.new.Goals.{then-count-ne0, else-count-ne0}

pub invariant_of-result : goal.invariant_of-result
invariant_of-result c =
    let runs : c.div_ceil-runs.result ≡ (c.args.count + 511) / 512 = omega (arith, c.div_ceil-runs.ensures) in
    let counts : c.in_ok-counts.counts.items ≡ replicate ((c.args.count + 511) / 512) 512 =
    c.in_ok-counts.ensures.items_if_clones_equal (λ _ e. e) ∙ ap (λ n. replicate {A = ℕ} n 512) runs in
    let whole : c.in_ok-whole.whole ≡ replicate ((c.args.count + 511) / 512) true =
    c.in_ok-whole.ensures ∙ ap (λ n. replicate n true) runs in
    elim c.if-count-ne0.branch [
      | then-count-ne0 w ↦
          let ws = w.whole-is ∙ (w.remove.ensures ∙ ap (λ l. set l (c.args.count / 512) false) whole) in
          let cs = ap (λ v. v.items) w.counts-is ∙ ap (λ l. set l (c.args.count / 512) (c.args.count % 512)) counts in
          rw (c.in_ok-free.ensures, ws, cs) (new_rest c.args.count (omega arith) (omega (arith, w.if-count-ne0.true)))
      | else-count-ne0 w ↦
          let ws = w.whole-is ∙ whole in
          let cs = ap (λ v. v.items) w.counts-is ∙ counts in
          rw (c.in_ok-free.ensures, ws, cs) (new_whole c.args.count (omega arith) (omega (arith, w.if-count-ne0.false)))
    ]
