use Rattle.std.proofs.Common.{◌≡◌, ℕ, ◌+◌, ◌-◌, List, length, drop, replicate, refl, ◌∙◌, ap, rules, arith, length-drop}
use Rattle.std.specs.Prelude.{min}
use Rattle.std.proofs.lemmas.List.{length-take-le}
use Rattle.heap_tables.specs.declared.uses.Use.{Use}
use Rattle.heap_tables.specs.Rows.{frames_of}
use Rattle.heap_tables.specs.Uses.{use_in}
use Rattle.heap_tables.proofs.Painted.{painted}
use Rattle.heap_tables.proofs.uses.paint.Goals as goal

pub returns : goal.returns
returns c = λ lines is.
    let uses : List Use = c.args.uses.now in
    let line = c.args.line in
    let first : ℕ = c.min-first.result in
    let n : ℕ = c.min-end.result - first in
    let low : first ≡ min line.frame (length uses) = search rules in
    let high : c.min-end.result ≡ min (line.frame + frames_of line) (length uses) = search rules in
    let whole : first + n ≡ min (line.frame + frames_of line) (length uses) = omega (arith, low, high) in
    let long = length-take-le n (drop first uses) (omega (arith, length-drop first uses, whole)) in
    let filled : c.fill.new.self ≡ replicate n (use_in line) =
    c.fill.ensures.after (λ y same. same) ∙ (ap (λ (m : ℕ). replicate m c.use_in.result) long ∙ ap (replicate n) c.use_in.ensures) in
    painted line lines (length uses) first n uses c.fill.new.self refl is low whole filled
