-- Where a size lies in a range, scaled to the range of 64-bit words.
use Rattle.std.proofs.Common.{◌≡◌, ℕ, ◌+◌, ◌-◌, ◌*◌, ◌%◌, ◌^◌, ◌<◌, ◌≤◌, inl, inr, Bool, true, false, sym, ap, ◌∙◌, arith}
use Rattle.std.proofs.lemmas.Nat.{pow-add}
use Rattle.std.proofs.Math.Nat.{mul-le-mul_right, add-mul}
use Rattle.bins.specs.Tries.{low_at, width}
use Rattle.bins.proofs.Chunks.{same_or_not}
use Rattle.bins.proofs.Widths.{width_is, wide}

pub scaled_below : (less half scale : ℕ) → less < half → half * scale ≡ 2 ^ 63 → less * scale < 2 ^ 63
scaled_below less half scale within scaled =
    let s : less + 1 ≤ half = omega arith in
    let p = mul-le-mul_right scale s in
    elim (same_or_not scale 0) [
      | inl none ↦ absurd (let e : half * scale ≡ half * 0 = ap (λ x. half * x) none in omega arith)
      | inr some ↦ omega arith
    ]

-- a half of a range of this many levels
pub half_scaled : (levels : ℕ) {half : ℕ} → 0 < levels → levels ≤ 61 → half ≡ width (levels - 1) → half * 2 ^ (61 - levels) ≡ 2 ^ 63
half_scaled levels some few is =
    let w = width_is (levels - 1) in
    let p = pow-add 2 (levels - 1) (61 - levels) in
    let sum : levels - 1 + (61 - levels) ≡ 60 = omega arith in
    let q : 2 ^ (levels - 1) * 2 ^ (61 - levels) ≡ 2 ^ 60 = sym p ∙ ap (λ n. 2 ^ n) sum in
    ap (λ h. h * 2 ^ (61 - levels)) (is ∙ w) ∙ omega (arith, q)

-- a range of this many levels
pub range_scaled : (levels : ℕ) → levels ≤ 61 → width levels * 2 ^ (61 - levels) ≡ 2 ^ 64
range_scaled levels few =
    let p = pow-add 2 levels (61 - levels) in
    let sum : levels + (61 - levels) ≡ 61 = omega arith in
    let q : 2 ^ levels * 2 ^ (61 - levels) ≡ 2 ^ 61 = sym p ∙ ap (λ n. 2 ^ n) sum in
    ap (λ w. w * 2 ^ (61 - levels)) (width_is levels) ∙ omega (arith, q)

-- A number of a range, scaled as a word, is its place there: where the range begins falls out.
pub word_is : (low offset : ℕ) {n : ℕ} (scale range : ℕ) → n ≡ low + offset → offset < range → low * scale % 2 ^ 64 ≡ 0 →
    range * scale ≡ 2 ^ 64 → n * scale % 2 ^ 64 ≡ offset * scale
word_is low offset {n = n} scale range place within whole scaled =
    let e : n * scale ≡ (low + offset) * scale = ap (λ x. x * scale) place in
    let d = add-mul low offset scale in
    let s : offset + 1 ≤ range = omega arith in
    let p = mul-le-mul_right scale s in
    elim (same_or_not scale 0) [
      | inl none ↦ absurd (let z : range * scale ≡ range * 0 = ap (λ x. range * x) none in omega arith)
      | inr some ↦ omega arith
    ]

-- the place in the half
next_scaled : (side : Bool) (low half size : ℕ) {bits : ℕ} (scale : ℕ) → low ≤ size → size < low + 2 * half →
    half * scale ≡ 2 ^ 63 → bits ≡ (size - low) * scale →
    low_at side low half ≤ size → size < low_at side low half + half → 2 * bits % 2 ^ 64 ≡ (size - low_at side low half) * (2 * scale)
next_scaled false low half size scale above below scaled is in_low in_high =
    let less = scaled_below (size - low) half scale (omega arith) scaled in
    let e : (size - low) * (2 * scale) ≡ 2 * ((size - low) * scale) = omega arith in
    omega (arith, less, e, is)
next_scaled true low half size scale above below scaled is in_low in_high =
    let less = scaled_below (size - (low + half)) half scale (omega arith) scaled in
    let p : size - low ≡ half + (size - (low + half)) = omega arith in
    let e : (size - low) * scale ≡ (half + (size - (low + half))) * scale = ap (λ x. x * scale) p in
    let d : (half + (size - (low + half))) * scale ≡ half * scale + (size - (low + half)) * scale = add-mul half (size - (low + half)) scale in
    let twice : (size - (low + half)) * (2 * scale) ≡ 2 * ((size - (low + half)) * scale) = omega arith in
    omega (arith, less, e, d, twice, is, scaled)

pub next_is : (low : ℕ) {half : ℕ} (size : ℕ) {bits : ℕ} (levels : ℕ) {low' next : ℕ} (side : Bool) → 0 < levels → levels ≤ 61 →
    half ≡ width (levels - 1) → low ≤ size → size < low + width levels → bits ≡ (size - low) * 2 ^ (61 - levels) →
    low' ≡ low_at side low half → low_at side low half ≤ size → size < low_at side low half + half →
    next ≡ 2 * bits % 2 ^ 64 → next ≡ (size - low') * 2 ^ (61 - (levels - 1))
next_is low {half = half} size {bits = bits} levels {low' = low'} side some few half_is above below bits_is low_is in_low in_high is =
    let w = wide levels some in
    let p = pow-add 2 1 (61 - levels) in
    let sum : 1 + (61 - levels) ≡ 61 - (levels - 1) = omega arith in
    let q : 2 ^ (61 - (levels - 1)) ≡ 2 * 2 ^ (61 - levels) = ap (λ n. 2 ^ n) (sym sum) ∙ p in
    let n = next_scaled side low half size (2 ^ (61 - levels)) above (omega (arith, w, half_is)) (half_scaled levels some few half_is) bits_is in_low in_high in
    is ∙ (n ∙ (ap (λ l. (size - l) * (2 * 2 ^ (61 - levels))) (sym low_is) ∙ ap (λ x. (size - low') * x) (sym q)))
