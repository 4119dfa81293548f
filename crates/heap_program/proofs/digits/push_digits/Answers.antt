use Rattle.std.proofs.Common.{◌≡◌, ℕ, List, ◌+◌, ◌-◌, ◌++◌, take, drop, string_bytes, append_assoc, ap, sym, ◌∙◌, arith}
use Rattle.std.proofs.lemmas.List.{append-nil}
use Rattle.std.proofs.Math.Seq.{take-add}
use Rattle.hex.specs.Hex.{encode_with, encode_lower, lower_digits}
use Rattle.heap_program.proofs.Hexes.{encode_with-append}
use Rattle.heap_program.proofs.digits.push_digits.Goals as goal

pub loop-done-init : goal.loop-done-init
unfolding encode_with
loop-done-init c = (c.reserve.ensures.bytes ∙ sym (append-nil (string_bytes c.args.out.now)), omega arith)

pub loop-done-preserved : goal.loop-done-preserved
loop-done-preserved c =
    let bytes = c.args.bytes.now in
    let done = c.loop-done.done in
    let n = c.min-count.result in
    let old = string_bytes c.args.out.now in
    let part = take n (drop done bytes) in
    let size : done + n - done ≡ n = omega arith in (
      c.in_ok-push_run.ensures
          ∙ ap (λ (k : ℕ). string_bytes c.loop-done.out ++ encode_lower (take k (drop done bytes))) size
          ∙ ap (λ (l : List ℕ). l ++ encode_lower part) c.loop-done.invariant.0
          ∙ append_assoc old (encode_lower (take done bytes)) (encode_lower part)
          ∙ ap (λ (l : List ℕ). old ++ l) (sym (encode_with-append lower_digits (take done bytes) part))
          ∙ ap (λ (l : List ℕ). old ++ encode_lower l) (sym (take-add done n bytes)),
      omega (arith, c.min-count.ensures, c.loop-done.invariant.1),
    )
