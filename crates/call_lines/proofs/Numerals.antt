-- A numeral, digit by digit.
use Rattle.std.proofs.Common.{◌≡◌, ℕ, ◌+◌, ◌*◌, ◌≤◌, ◌<◌, ◌^◌, List, [], ◌∷◌, length, Bool, true, false, cond, None, Some, sym, ◌∙◌, ap, arith, subst, mul-le-mul_left}
use Rattle.std.proofs.lemmas.Bool.{le-ltb, lt-ltb, le-leb}
use Rattle.std.specs.Prelude.{nat_lt, nat_le, ◌&&◌}
use Rattle.std.specs.Char.{is_digit, digit_value}
use Rattle.std.specs.List.{list_all}
use Rattle.std.specs.Str.Parse.{digits_value, digits_value_after}
use Rattle.call_lines.specs.Number.{numeral_of}

-- the rest of the digits are still to be read
pub record IsLeft (base : ℕ) (digits : List ℕ) (so_far : ℕ) (rest : List ℕ) : Type 0 where
  pub all : list_all (λ b. is_digit b base) digits ≡ list_all (λ b. is_digit b base) rest
  pub value : digits_value base digits ≡ digits_value_after base so_far rest

pub left_more : (base : ℕ) (digits : List ℕ) (value c : ℕ) (rest : List ℕ) → IsLeft base digits value (c ∷ rest) →
    is_digit c base ≡ true → IsLeft base digits (value * base + digit_value c) rest
left_more base digits value c rest left is = record {
  all = left.all ∙ ap
      (λ (b : Bool). b && list_all (λ (d : ℕ). is_digit d base) rest) is;
  value = left.value;
}

guarded : (a b c d : Bool) (x : ℕ) → c ≡ false → cond (a && b && c && d) (Some x) None ≡ None
guarded a b c d x is = grind arith

unguarded : (a b c d : Bool) (x : ℕ) → a ≡ true → b ≡ true → c ≡ true → d ≡ true → cond (a && b && c && d) (Some x) None ≡ Some x
unguarded a b c d x p q r s = grind arith

guarded_last : (a b c d : Bool) (x : ℕ) → d ≡ false → cond (a && b && c && d) (Some x) None ≡ None
guarded_last a b c d x is = grind arith

-- more digits make no smaller number
grows : (base v : ℕ) (ds : List ℕ) → 1 ≤ base → v ≤ digits_value_after base v ds
grows base v [] one = omega arith
grows base v (c ∷ ds) one =
    let next = grows base (v * base + digit_value c) ds one in
    let more : v * 1 ≤ v * base = mul-le-mul_left v one in
    omega (arith, next, more)

pub left_bad : (base most : ℕ) (digits : List ℕ) (value c : ℕ) (rest : List ℕ) → IsLeft base digits value (c ∷ rest) →
    is_digit c base ≡ false → numeral_of base most digits ≡ None
left_bad base most digits value c rest left is =
    guarded (nat_lt 0 (length digits)) (nat_le (length digits) most) (list_all (λ (b : ℕ). is_digit b base) digits)
    (nat_lt (digits_value base digits) (2 ^ 64)) (digits_value base digits)
    (left.all ∙ ap (λ (b : Bool). b && list_all (λ (d : ℕ). is_digit d base) rest) is)

pub left_large : (base most : ℕ) (digits : List ℕ) (value c : ℕ) (rest : List ℕ) → 1 ≤ base →
    IsLeft base digits value (c ∷ rest) → 2 ^ 64 ≤ value * base + digit_value c → numeral_of base most digits ≡ None
left_large base most digits value c rest one left large =
    let next = grows base (value * base + digit_value c) rest one in
    let whole : digits_value base digits ≡ digits_value_after base (value * base + digit_value c) rest = left.value in
    let large' : 2 ^ 64 ≤ digits_value base digits = omega (arith, next, whole, large) in
    guarded_last (nat_lt 0 (length digits)) (nat_le (length digits) most) (list_all (λ (b : ℕ). is_digit b base) digits)
    (nat_lt (digits_value base digits) (2 ^ 64)) (digits_value base digits)
    (le-ltb (digits_value base digits) (2 ^ 64) large')

pub left_done : (base most : ℕ) (digits : List ℕ) (value : ℕ) → IsLeft base digits value [] → 0 < length digits →
    length digits ≤ most → value < 2 ^ 64 → numeral_of base most digits ≡ Some value
left_done base most digits value left some short fits =
    let whole : digits_value base digits ≡ value = left.value in
    unguarded (nat_lt 0 (length digits)) (nat_le (length digits) most) (list_all (λ (b : ℕ). is_digit b base) digits)
    (nat_lt (digits_value base digits) (2 ^ 64)) (digits_value base digits) (lt-ltb 0 (length digits) some)
    (le-leb (length digits) most short) left.all (lt-ltb (digits_value base digits) (2 ^ 64)
    (subst (λ (n : ℕ). n < 2 ^ 64) (sym whole) fits)) ∙ ap (λ (n : ℕ). Some n) whole
