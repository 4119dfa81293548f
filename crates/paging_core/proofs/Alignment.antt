-- Masks of powers of two, and the multiples near an address.
use Rattle.std.proofs.Common.{◌≡◌, ℕ, suc, ◌+◌, ◌-◌, ◌*◌, ◌/◌, ◌%◌, ◌^◌, ◌<◌, ◌≤◌, ap, sym, ◌∙◌, arith}
use Rattle.std.specs.Prelude.{bit_and}
use Rattle.std.specs.Int.{IsPowerOfTwo}
use Rattle.std.proofs.Math.Logic.{⊎_elim}
use Rattle.std.proofs.Math.Nat.{mod-lt, mul-mod_left, lt_of_mul-lt-mul_right}
use Rattle.std.proofs.Math.Pow.{pow_mono}
use Rattle.std.proofs.lemmas.Bool.{cases_lt}
use Rattle.std.proofs.lemmas.Nat.{mul-le, div-add-mod', pow_pos, pow-add}
use Rattle.std.proofs.lemmas.Nat.Bits.{and_high_mask}
use Rattle.paging_core.specs.Align.{aligned_down, aligned_up}

pub down-multiple : (address align : ℕ) → aligned_down address align % align ≡ 0
down-multiple address align = mul-mod_left (address / align) align

pub down-near : (address align : ℕ) → 0 < align → (aligned_down address align ≤ address) × (address < aligned_down address align + align)
down-near address align some =
    let parts : address / align * align + address % align ≡ address = div-add-mod' address align in
    let rest : address % align < align = mod-lt address some in
    (omega arith, omega arith)

module _ (align : ℕ) (power : IsPowerOfTwo align) (small : align < 2 ^ 64) where
  pub align-some : 0 < align
  align-some = omega (arith, power.1, pow_pos power.0)

  exponent_below : power.0 < 64
  exponent_below = ⊎_elim
      (λ lt. lt)
      (λ le. let h : 2 ^ 64 ≤ 2 ^ power.0 = pow_mono le in absurd (omega (arith, power.1)))
      (cases_lt power.0 64)

  -- `address & !(align - 1)`
  pub down_by_mask : (address : ℕ) → address < 2 ^ 64 → bit_and address (18446744073709551615 - (align - 1)) ≡ aligned_down address align
  down_by_mask address fits =
      let mask : 18446744073709551615 - (align - 1) ≡ 2 ^ 64 - 2 ^ power.0 = omega (arith, power.1, align-some) in
      let within : power.0 ≤ 64 = omega (arith, exponent_below) in
      rw mask (and_high_mask 64 power.0 within address fits ∙ ap (λ n. address / n * n) (sym power.1))

  -- 2 ^ 64 is a multiple, so what is rounded up below it leaves room for `align - 1` more
  pub up-fits : (address : ℕ) → aligned_up address align < 2 ^ 64 → address + (align - 1) < 2 ^ 64
  up-fits address fits =
      let times = (address + (align - 1)) / align in
      let more = 64 - power.0 in
      let exponents : more + power.0 ≡ 64 = omega (arith, exponent_below) in
      let whole : 2 ^ more * align ≡ 2 ^ 64 = ap (λ n. 2 ^ more * n) power.1 ∙ (sym (pow-add 2 more power.0) ∙ ap (λ n. 2 ^ n) exponents) in
      let fewer : times < 2 ^ more = lt_of_mul-lt-mul_right align (omega (arith, whole, fits)) in
      let next : suc times * align ≡ times * align + align = grind arith in
      let room : suc times * align ≤ 2 ^ more * align = mul-le (suc times) align (2 ^ more) align fewer (omega arith) in
      omega (arith, (down-near (address + (align - 1)) align align-some).1, whole, next, room)
