-- The ranges of the tree bins follow each other.
use Rattle.std.proofs.Common.{◌≡◌, ℕ, ◌+◌, ◌*◌, ◌/◌, ◌%◌, ◌^◌, inl, inr, ap, ◌∙◌, arith}
use Rattle.std.proofs.lemmas.Nat.{pow-add}
use Rattle.dlmalloc_chunks.specs.Bins.{least_size}
use Rattle.bins.specs.Tries.{width}
use Rattle.bins.proofs.Widths.{width_is}
use Rattle.bins.proofs.Chunks.{same_or_not}

pub range_is : (bin : ℕ) → least_size bin + width (bin / 2 + 4) ≡ least_size (bin + 1)
range_is bin =
    let e : bin / 2 + 7 ≡ bin / 2 + 4 + 3 = omega arith in
    let p : 2 ^ (bin / 2 + 7) ≡ 2 ^ (bin / 2 + 4) * 2 ^ 3 = ap (λ n. 2 ^ n) e ∙ pow-add 2 (bin / 2 + 4) 3 in
    let w = width_is (bin / 2 + 4) in
    elim (same_or_not (bin % 2) 0) [
      | inl even ↦
          let m : (bin + 1) % 2 ≡ 1 = omega arith in
          let d : (bin + 1) / 2 ≡ bin / 2 = omega arith in
          rw (even, m, d) (omega (arith, p, w))
      | inr not ↦
          let one : bin % 2 ≡ 1 = omega arith in
          let m : (bin + 1) % 2 ≡ 0 = omega arith in
          let d : (bin + 1) / 2 ≡ bin / 2 + 1 = omega arith in
          let f : bin / 2 + 1 + 7 ≡ bin / 2 + 7 + 1 = omega arith in
          let r : 2 ^ (bin / 2 + 1 + 7) ≡ 2 ^ (bin / 2 + 7) * 2 ^ 1 = ap (λ n. 2 ^ n) f ∙ pow-add 2 (bin / 2 + 7) 1 in
          rw (one, m, d) (omega (arith, p, w, r))
    ]
