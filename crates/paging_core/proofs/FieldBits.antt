-- Fields of words, as the code computes them and bit by bit.
use Rattle.std.proofs.Common.{◌≡◌, ℕ, suc, ◌+◌, ◌-◌, ◌*◌, ◌/◌, ◌%◌, ◌^◌, ◌<◌, ◌≤◌, min, ap, sym, ◌∙◌, arith}
use Rattle.std.specs.Prelude.{bit_and, bit_or}
use Rattle.std.specs.Int.{bit_at, w64}
use Rattle.std.proofs.Math.Nat.{mod-lt, mod-eq_of_lt}
use Rattle.std.proofs.Math.Pow.{high_ones, pow_mono}
use Rattle.std.proofs.Math.Logic.{⊎_elim}
use Rattle.std.proofs.lemmas.Bool.{cases_lt}
use Rattle.std.proofs.lemmas.Nat.{pow_pos, mod_low, pow-add, mul-le, shl-shr, shr_high, div-add-mod'}
use Rattle.std.proofs.lemmas.Nat.Bits.{ones_shr, ones_shl, and_high, and_high_mask, bit_at_and, bit_at_or, bit_at-lt, bit_at-zero, bit_at_not, bit_at_above, bit_at_cat_low, bit_at_cat_high, bit_at_mask_inside, bit_at_mask_below, bit_at_mask_above, same_from_bits}
use Rattle.paging_core.specs.Field.{field_of, with_bit_field, ReplacesField}

module _ (low high : ℕ) (order : low < high) where
  width : high ≡ high - low + low
  width = omega arith

  pub field_of_mask : (word : ℕ) → bit_and word (2 ^ high - 2 ^ low) / 2 ^ low ≡ field_of word low high
  field_of_mask word =
      ap (λ top. bit_and word (2 ^ top - 2 ^ low) / 2 ^ low) width
      ∙ (ap (λ n. n / 2 ^ low) (and_high word (high - low) low) ∙ shl-shr (field_of word low high) low)

  pub mask_of : high ≤ 64 →
      bit_and (18446744073709551615 / 2 ^ (64 - high)) (18446744073709551615 * 2 ^ low % 18446744073709551616) ≡ 2 ^ high - 2 ^ low
  mask_of within =
      let all : 18446744073709551615 / 2 ^ (64 - high) ≡ 2 ^ (64 - (64 - high)) - 1 = ones_shr 64 (64 - high) (omega arith) in
      let back : 64 - (64 - high) ≡ high = omega arith in
      let shifted : 18446744073709551615 * 2 ^ low % 18446744073709551616 ≡ 2 ^ 64 - 2 ^ low = ones_shl 64 low (omega arith) in
      rw (all, back, shifted)
      (and_high_mask 64 low (omega arith) (2 ^ high - 1) (omega (arith, pow_mono within, pow_pos high))
      ∙ (ap (λ n. n * 2 ^ low) (ones_shr high low (omega arith))
      ∙ (sym (high_ones (high - low) low) ∙ ap (λ top. 2 ^ top - 2 ^ low) (sym width))))

-- the low bits of a word, and those above them
low_bits : (word k i : ℕ) → i < k → bit_at (word % 2 ^ k) i ≡ bit_at word i
low_bits word k i below =
    sym (bit_at_cat_low (word / 2 ^ k) k (word % 2 ^ k) i below) ∙ ap (λ n. bit_at n i) (div-add-mod' word (2 ^ k))

high_bits : (word k i : ℕ) → k ≤ i → bit_at (word / 2 ^ k) (i - k) ≡ bit_at word i
high_bits word k i from =
    sym (bit_at_cat_high (word / 2 ^ k) k (word % 2 ^ k) i (mod-lt word (pow_pos k)) from) ∙ ap (λ n. bit_at n i) (div-add-mod' word (2 ^ k))

module _ (word low high value : ℕ) (order : low < high) (fits : value < 2 ^ (high - low)) where
  whole : 2 ^ (high - low) * 2 ^ low ≡ 2 ^ high
  whole = sym (pow-add 2 (high - low) low) ∙ ap (λ top. 2 ^ top) (sym (width low high order))

  -- the field and the bits below it
  rest_below : value * 2 ^ low + word % 2 ^ low < 2 ^ high
  rest_below =
      let top : suc value * 2 ^ low ≤ 2 ^ (high - low) * 2 ^ low = mul-le (suc value) (2 ^ low) (2 ^ (high - low)) (2 ^ low) fits (omega arith) in
      let next : suc value * 2 ^ low ≡ value * 2 ^ low + 2 ^ low = grind arith in
      omega (arith, top, next, whole, mod-lt word (pow_pos low))

  field-is : field_of (with_bit_field word low high value) low high ≡ value
  field-is =
      let joined : word / 2 ^ high * 2 ^ high + (value * 2 ^ low + word % 2 ^ low) ≡ (word / 2 ^ high * 2 ^ (high - low) + value) * 2 ^ low + word % 2 ^ low =
      let h = whole in grind arith in
      ap (λ n. n / 2 ^ low % 2 ^ (high - low)) joined
      ∙ (ap (λ n. n % 2 ^ (high - low)) (shr_high (word / 2 ^ high * 2 ^ (high - low) + value) low (word % 2 ^ low) (mod-lt word (pow_pos low)))
      ∙ mod_low (word / 2 ^ high) (high - low) value fits)

  with_bit_field-below : (i : ℕ) → i < low → bit_at (with_bit_field word low high value) i ≡ bit_at word i
  with_bit_field-below i below =
      bit_at_cat_low (word / 2 ^ high) high (value * 2 ^ low + word % 2 ^ low) i (omega arith)
      ∙ (bit_at_cat_low value low (word % 2 ^ low) i below ∙ low_bits word low i below)

  with_bit_field-inside : (i : ℕ) → low ≤ i → i < high → bit_at (with_bit_field word low high value) i ≡ bit_at value
      (i - low)
  with_bit_field-inside i from below =
      bit_at_cat_low (word / 2 ^ high) high (value * 2 ^ low + word % 2 ^ low) i below
      ∙ bit_at_cat_high value low (word % 2 ^ low) i (mod-lt word (pow_pos low)) from

  with_bit_field-above : (i : ℕ) → high ≤ i → bit_at (with_bit_field word low high value) i ≡ bit_at word i
  with_bit_field-above i from =
      bit_at_cat_high (word / 2 ^ high) high (value * 2 ^ low + word % 2 ^ low) i rest_below from ∙ high_bits word high i from

  pub replaces_field : ReplacesField word (with_bit_field word low high value) low high value
  replaces_field = record { field = field-is; below = with_bit_field-below; above = with_bit_field-above }

  shifted-below : (i : ℕ) → i < low → bit_at (value * 2 ^ low) i ≡ 0
  shifted-below i below =
      let e : value * 2 ^ low ≡ value * 2 ^ low + 0 = omega arith in
      ap (λ n. bit_at n i) e ∙ (bit_at_cat_low value low 0 i below ∙ bit_at-zero i)

  shifted-inside : (i : ℕ) → low ≤ i → bit_at (value * 2 ^ low) i ≡ bit_at value (i - low)
  shifted-inside i from =
      let e : value * 2 ^ low ≡ value * 2 ^ low + 0 = omega arith in
      ap (λ n. bit_at n i) e ∙ bit_at_cat_high value low 0 i (pow_pos low) from

  module _ (small : word < 2 ^ 64) (within : high ≤ 64) where
    mask_below : 2 ^ high - 2 ^ low < 2 ^ 64
    mask_below = omega (arith, pow_mono within, pow_pos low, pow_pos high)

    shifted_below : value * 2 ^ low < 2 ^ 64
    shifted_below = omega (arith, rest_below, pow_mono within)

    -- a bit of `word & !mask`, and of `word & !mask | value << low`
    cleared : (i : ℕ) →
        bit_at (bit_and word (18446744073709551615 - (2 ^ high - 2 ^ low))) i ≡ min (bit_at word i) (1 - bit_at (2 ^ high - 2 ^ low) i)
    cleared i = ⊎_elim
        (λ in_word. bit_at_and word _ i ∙ ap (min (bit_at word i)) (bit_at_not w64 (2 ^ high - 2 ^ low) i mask_below in_word))
        (λ past. omega (arith, bit_at_and word (18446744073709551615 - (2 ^ high - 2 ^ low)) i, bit_at_above word 64 i small past))
        (cases_lt i 64)

    same_bits : (i : ℕ) →
        bit_at (bit_or (bit_and word (18446744073709551615 - (2 ^ high - 2 ^ low))) (value * 2 ^ low)) i ≡ bit_at (with_bit_field word low high value) i
    same_bits i =
        let joined = bit_at_or (bit_and word (18446744073709551615 - (2 ^ high - 2 ^ low))) (value * 2 ^ low) i in
        ⊎_elim
        (λ below. omega (arith, joined, cleared i, bit_at_mask_below low high i below, shifted-below i below, with_bit_field-below i below, bit_at-lt word i))
        (λ from. ⊎_elim
        (λ inside. omega (arith, joined, cleared i, bit_at_mask_inside low high i from inside, shifted-inside i from, with_bit_field-inside i from inside))
        (λ above. omega (
          arith,
          joined,
          cleared i,
          bit_at_mask_above low high i above,
          bit_at_above (value * 2 ^ low) high i (omega (arith, rest_below)) above,
          with_bit_field-above i above,
          bit_at-lt word i,
        ))
        (cases_lt i high))
        (cases_lt i low)

    pub set_by_mask :
        bit_or (bit_and word (18446744073709551615 - (2 ^ high - 2 ^ low))) (value * 2 ^ low % 18446744073709551616) ≡ with_bit_field word low high value
    set_by_mask =
        ap (λ n. bit_or (bit_and word (18446744073709551615 - (2 ^ high - 2 ^ low))) n) (mod-eq_of_lt shifted_below)
        ∙ same_from_bits _ (with_bit_field word low high value) same_bits
