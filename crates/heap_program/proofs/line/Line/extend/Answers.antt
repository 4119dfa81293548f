use Rattle.std.proofs.Common.{◌≡◌, ℕ, List, ◌++◌, ◌<◌, ◌≤◌, ◌⊎◌, inl, inr, length, length-append, take, ap, ◌∙◌, sym, subst, arith}
use native.Mathlib.Decide.{dec_lt}
use Rattle.std.proofs.lemmas.List.{length-take-le}
use Rattle.heap_program.specs.Lines.{items_of}
use Rattle.heap_program.proofs.LineLemmas.{items-cut}
use Rattle.heap_program.proofs.line.Line.extend.Goals as goal

pub returns : goal.returns
returns c =
    let line = c.self.inside.bytes.items in
    let bytes = c.args.bytes.now in
    let n = c.min-kept.result in
    let least = c.min-kept.ensures in
    let left = c.saturating_sub-left.ensures in
    let many = c.len.ensures in
    let enough : (length bytes ≤ n) ⊎ (8192 < length (line ++ take n bytes)) =
    elim (dec_lt n (length bytes)) [
      | yes cut ↦ inr (omega (arith, least, left, many, length-append line (take n bytes), length-take-le n bytes (omega (arith, cut)), cut))
      | no all ↦ inl (omega (arith, all))
    ] in
    let P : List ℕ → Type 0 = λ l. (rest : List ℕ) → items_of (l ++ (bytes ++ rest)) ≡ items_of (c.extend_from_slice.new.self.items ++ rest) in
    subst P c.self.view_is (λ rest. items-cut line bytes n rest c.self.invariant c.requires enough
    ∙ ap (λ (l : List ℕ). items_of (l ++ rest)) (sym c.in_ok-extend_from_slice.ensures.items))
