-- A field of a word of 16 bits.
use Rattle.std.proofs.Common.{◌≡◌, ℕ, suc, ◌+◌, ◌-◌, ◌*◌, ◌/◌, ◌^◌, ◌<◌, ◌≤◌, ap, sym, ◌∙◌, arith}
use Rattle.std.proofs.Math.Nat.{mod-lt, div-lt_iff_lt-mul}
use Rattle.std.proofs.lemmas.Nat.{pow_pos, pow-add, mul-le}
use Rattle.paging_core.specs.Field.{with_bit_field}

-- one field more, below or above
product : (a b c : ℕ) → a + b ≡ c → 2 ^ a * 2 ^ b ≡ 2 ^ c
product a b c e = sym (pow-add 2 a b) ∙ ap (λ n. 2 ^ n) e

rows : (a b n : ℕ) → a < 2 ^ b → a * 2 ^ n + 2 ^ n ≤ 2 ^ b * 2 ^ n
rows a b n below =
    let most : suc a * 2 ^ n ≤ 2 ^ b * 2 ^ n = mul-le (suc a) (2 ^ n) (2 ^ b) (2 ^ n) below (omega arith) in
    let next : suc a * 2 ^ n ≡ a * 2 ^ n + 2 ^ n = grind arith in
    omega (arith, most, next)

pub with_bit_field-lt : (word low high value : ℕ) → low < high → high < 17 → word < 2 ^ 16 → value < 2 ^ (high - low) →
    with_bit_field word low high value < 2 ^ 16
with_bit_field-lt word low high value order within small fits =
    let above : word / 2 ^ high < 2 ^ (16 - high) = (div-lt_iff_lt-mul (pow_pos high)).1 (omega (arith, small, product (16 - high) high 16 (omega arith))) in
    omega (
      arith,
      rows (word / 2 ^ high) (16 - high) high above,
      product (16 - high) high 16 (omega arith),
      rows value (high - low) low fits,
      product (high - low) low high (omega arith),
      mod-lt word (pow_pos low),
    )
