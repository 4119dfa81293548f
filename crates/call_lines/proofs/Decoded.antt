-- Digits and their bytes.
use Rattle.std.proofs.Common.{◌≡◌, ℕ, zero, suc, ◌+◌, ◌-◌, ◌*◌, ◌%◌, ◌<◌, ◌≤◌, inl, inr, Bool, true, false, ◌&&◌, T, eqb, List, length, get_or, drop, Option, Some, None, is_some, Result, Ok, Err, refl, sym, ◌∙◌, ap, arith, eq-zero-or-pos, eqb→eq}
use native.Mathlib.Decide.{dec_lt}
use Rattle.std.proofs.lemmas.Bool.{false≢true}
use lib.Ieee.Fits.{and_l, and_r}
use Rattle.std.specs.Prelude.{nat_lt}
use Rattle.std.specs.Result.{result_ok}
use Rattle.hex.specs.Hex.{decode_of, decode_pairs, hex_digit_value, pair_value}
use Rattle.hex.specs.declared.error.FromHexError.{FromHexError}
use Rattle.hex.proofs.Pairs.{cons_byte, drop-pair, decode_pairs-ok_pair, decode_pairs-err_pair}
use Rattle.std.proofs.lemmas.List.{drop_all}
use Rattle.call_lines.specs.declared.decode.TheConstants.{VALUES}

-- a digit's value, and 255 where it is none
abbrev as_number : Option ℕ → ℕ
as_number (Some v) = v
as_number None = 255

abbrev is_some_number : Option ℕ → ℕ → Bool
is_some_number (Some v) x = nat_lt x 16
is_some_number None x = eqb x 255

-- the table is right from s on
abbrev are_from : ℕ → ℕ → Bool
are_from s zero = true
are_from s (suc n) = (eqb (get_or VALUES (s + n) 0) (as_number (hex_digit_value (s + n))) && is_some_number
    (hex_digit_value (s + n)) (get_or VALUES (s + n) 0)) && are_from s n

abbrev IsValue : ℕ → Type 0
IsValue p = (get_or VALUES p 0 ≡ as_number (hex_digit_value p)) × (is_some_number (hex_digit_value p) (get_or VALUES p 0) ≡ true)

truly : (b : Bool) → T b → b ≡ true
truly true t = refl
truly false t = absurd t

in_run : (s n p : ℕ) → T (are_from s n) → s ≤ p → p < s + n → IsValue p
in_run s zero p t low high = absurd (omega arith)
in_run s (suc n) p t low high =
    elim (eq-zero-or-pos (s + n - p)) [
      | inl z ↦ let e : p ≡ s + n = omega arith in let a = and_l _ (are_from s n) t in rw e (eqb→eq _ _ (and_l _ _ a), truly _ (and_r _ _ a))
      | inr g ↦ in_run s n p (and_r _ (are_from s n) t) low (omega arith)
    ]

pub VALUES_at : (p : ℕ) → p < 256 → IsValue p
VALUES_at p h =
    elim (dec_lt p 64) [
      | yes a ↦ in_run 0 64 p tt (omega arith) (omega arith)
      | no a ↦ elim (dec_lt p 128) [
        | yes b ↦ in_run 64 64 p tt (omega arith) (omega arith)
        | no b ↦ elim (dec_lt p 192) [
          | yes d ↦ in_run 128 64 p tt (omega arith) (omega arith)
          | no d ↦ in_run 192 64 p tt (omega arith) (omega arith)
        ]
      ]
    ]

-- a byte of the table below 16 is a digit's value, another says that there is none
pub value_some : (v x : ℕ) (o : Option ℕ) → x ≡ as_number o → is_some_number o x ≡ true → x < 16 → Some x ≡ o
value_some v x (Some d) e is less = ap (λ (n : ℕ). Some n) e
value_some v x None e is less = absurd (omega (arith, e, less))

pub value_none : (x : ℕ) (o : Option ℕ) → is_some_number o x ≡ true → 16 ≤ x → None ≡ o
value_none x None is large = refl
value_none x (Some d) is large =
    let less : x < 16 = grind (arith, is) in
    absurd (omega (arith, less, large))

pub paired : (high low i x y : ℕ) → Some x ≡ hex_digit_value high → Some y ≡ hex_digit_value low → Some (x * 16 + y) ≡ result_ok (pair_value high low i)
paired high low i x y p q = rw (← p, ← q) refl

pub refused_high : (high low i : ℕ) → None ≡ hex_digit_value high → None ≡ result_ok (pair_value high low i)
refused_high high low i p = rw (← p) refl

pub refused_low : (high low i x : ℕ) → Some x ≡ hex_digit_value high → None ≡ hex_digit_value low → None ≡ result_ok (pair_value high low i)
refused_low high low i x p q = rw (← p, ← q) refl

pub ok_of : (r : Result ℕ FromHexError) (v : ℕ) → result_ok r ≡ Some v → r ≡ Ok v
ok_of (Ok x) v e = grind (arith, e)
ok_of (Err e) v is = grind (arith, is)

pub err_of : (r : Result ℕ FromHexError) → result_ok r ≡ None → (e : FromHexError) × (r ≡ Err e)
err_of (Ok x) is = absurd (grind (arith, is))
err_of (Err e) is = (e, refl)

pub decode_even : (s : List ℕ) (n : ℕ) → length s ≡ 2 * n → decode_of s ≡ decode_pairs 0 s
decode_even s n even = grind (arith)

pub odd_none : (s : List ℕ) → (length s % 2 ≡ 0 → ⊥) → None ≡ result_ok (decode_of s)
odd_none s odd = grind (arith)

-- ---- whether all are digits

-- whether digits have bytes, the first of them at index i
abbrev pub has_bytes : ℕ → List ℕ → Bool
has_bytes i s = is_some (result_ok (decode_pairs i s))

same_cons : (v : ℕ) (r : Result (List ℕ) FromHexError) → is_some (result_ok (cons_byte v r)) ≡ is_some (result_ok r)
same_cons v (Ok rest) = refl
same_cons v (Err e) = refl

pub even_pairs : (s : List ℕ) → length s % 2 ≡ 0 → decode_of s ≡ decode_pairs 0 s
even_pairs s even = grind (arith)

none_is : {A : Type 0} (o : Option A) → is_some o ≡ false → o ≡ None
none_is None is = refl
none_is (Some x) is = absurd (false≢true (sym is))

pub none_decoded : (o : Option (List ℕ)) → false ≡ is_some o → None ≡ o
none_decoded o is = sym (none_is o (sym is))

bad_pair : (o : Option ℕ) (r : Result ℕ FromHexError) → o ≡ result_ok r → is_some o ≡ false → (e : FromHexError) × (r ≡ Err e)
bad_pair o r same is = err_of r (sym same ∙ none_is o is)

good_pair : (o : Option ℕ) (r : Result ℕ FromHexError) → o ≡ result_ok r → is_some o ≡ true → (v : ℕ) × (r ≡ Ok v)
good_pair None r same is = absurd (false≢true is)
good_pair (Some v) r same is = (v, ok_of r v (sym same))

-- the two digits at a place
abbrev pub pair_at : List ℕ → ℕ → Result ℕ FromHexError
pair_at s k = pair_value (get_or s (2 * k) 0) (get_or s (2 * k + 1) 0) (2 * k)

pub digits_step : (s : List ℕ) (k : ℕ) (o : Option ℕ) → 2 * k + 1 < length s → o ≡ result_ok (pair_at s k) → is_some o ≡ true
    → has_bytes 0 s ≡ has_bytes (2 * k) (drop (2 * k) s)
    → has_bytes 0 s ≡ has_bytes (2 * (k + 1)) (drop (2 * (k + 1)) s)
digits_step s k o fits same is inv =
    let rest : List ℕ = drop (2 * (k + 1)) s in
    let two : 2 * k + 2 ≡ 2 * (k + 1) = omega arith in
    let good = good_pair o (pair_at s k) same is in
    inv
    ∙ ap (has_bytes (2 * k)) (drop-pair s k fits)
    ∙ ap (λ (r : Result (List ℕ) FromHexError). is_some (result_ok r))
    (decode_pairs-ok_pair (2 * k) (get_or s (2 * k) 0) (get_or s (2 * k + 1) 0) good.0 rest good.1)
    ∙ same_cons good.0 (decode_pairs (2 * k + 2) rest)
    ∙ ap (λ (n : ℕ). has_bytes n rest) two

pub digits_err : (s : List ℕ) (k : ℕ) (o : Option ℕ) → 2 * k + 1 < length s → o ≡ result_ok (pair_at s k) → is_some o ≡ false
    → has_bytes 0 s ≡ has_bytes (2 * k) (drop (2 * k) s)
    → has_bytes 0 s ≡ false
digits_err s k o fits same is inv =
    let bad = bad_pair o (pair_at s k) same is in
    inv
    ∙ ap (has_bytes (2 * k)) (drop-pair s k fits)
    ∙ ap (λ (r : Result (List ℕ) FromHexError). is_some (result_ok r))
    (decode_pairs-err_pair (2 * k) (get_or s (2 * k) 0) (get_or s (2 * k + 1) 0) bad.0 (drop (2 * (k + 1)) s) bad.1)

pub digits_done : (s : List ℕ) (k : ℕ) → length s ≤ 2 * k → has_bytes 0 s ≡ has_bytes (2 * k) (drop (2 * k) s) → has_bytes 0 s ≡ true
unfolding decode_pairs
digits_done s k all inv = inv ∙ ap (has_bytes (2 * k)) (drop_all (2 * k) s all)
