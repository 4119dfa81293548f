-- The digits of answers.
use Rattle.std.proofs.Common.{◌≡◌, ℕ, zero, suc, ◌+◌, ◌-◌, ◌*◌, ◌/◌, ◌%◌, ◌^◌, ◌<◌, ◌≤◌, inl, inr, Bool, true, false, ◌&&◌, T, eqb, ltb, eq-eqb, ne_eqb, cond, List, [], ◌∷◌, ◌++◌, length, take, drop, set, get_or, refl, sym, ◌∙◌, ap, arith, eq-zero-or-pos, eqb→eq, append_assoc, lit≤}
use Rattle.std.proofs.lemmas.Bool.{lt-ltb, le-ltb}
use Rattle.std.proofs.lemmas.List.{drop-set, take-append-drop}
use lib.Ieee.Fits.{and_l, and_r}
use Rattle.std.specs.Prelude.{codes, decimal}
use Rattle.std.specs.Fmt.{digits, digits_onto, digit_glyph}
use Rattle.std.specs.Str.{IsUtf8}
use Rattle.std.specs.List.{AllByRecursion}
use Rattle.std.proofs.lemmas.Str.{IsUtf8-append, IsUtf8-from_ascii}
use Rattle.std.proofs.lemmas.Fmt.{IsAscii-decimal}
use Rattle.hex.specs.Hex.{encode_lower, lower_digits}
use Rattle.hex.proofs.HexLemmas.{IsAscii-encode_with, length-encode_with}
use Rattle.heap_program.proofs.Hexes.{small_at, lower_small, encode_with-append}

onto_case : (b : Bool) (g : ℕ) (acc : List ℕ) (f : List ℕ → List ℕ) → ((a : List ℕ) → f a ≡ f [] ++ a) →
    cond b (g ∷ acc) (f (g ∷ acc)) ≡ cond b (g ∷ []) (f (g ∷ [])) ++ acc
onto_case true g acc f front = refl
onto_case false g acc f front = front (g ∷ acc) ∙ sym (ap (λ (l : List ℕ). l ++ acc) (front (g ∷ [])) ∙ append_assoc (f []) (g ∷ []) acc)

onto_append : (k n : ℕ) (acc : List ℕ) → digits_onto k 16 false n acc ≡ digits_onto k 16 false n [] ++ acc
onto_append zero n acc = refl
onto_append (suc k) n acc = onto_case (eqb (n / 16) 0) (digit_glyph false (n % 16)) acc (digits_onto k 16 false (n / 16))
    (λ (a : List ℕ). onto_append k (n / 16) a)

spelled_suc : (k n : ℕ) (acc : List ℕ) (t : Bool) → eqb (n / 16) 0 ≡ t →
    digits_onto (suc k) 16 false n acc ≡ cond t (digit_glyph false (n % 16) ∷ acc)
    (digits_onto k 16 false (n / 16) (digit_glyph false (n % 16) ∷ acc))
spelled_suc k n acc t e = ap (λ (b : Bool). cond b (digit_glyph false (n % 16) ∷ acc) (digits_onto k 16 false (n / 16) (digit_glyph false (n % 16) ∷ acc))) e

-- the last digit
pub onto_last : (i n : ℕ) (acc : List ℕ) → 0 < i → n / 16 ≡ 0 → digits_onto i 16 false n acc ≡ digit_glyph false (n % 16) ∷ acc
onto_last zero n acc h e = absurd (omega arith)
onto_last (suc k) n acc h e = spelled_suc k n acc true (eq-eqb _ 0 e)

-- a digit that is not the last
pub onto_step : (i j n : ℕ) (acc : List ℕ) → i ≡ suc j → (n / 16 ≡ 0 → ⊥) →
    digits_onto i 16 false n acc ≡ digits_onto j 16 false (n / 16) (digit_glyph false (n % 16) ∷ acc)
onto_step i j n acc is e = ap (λ (k : ℕ). digits_onto k 16 false n acc) is ∙ spelled_suc j n acc false (ne_eqb _ 0 e)

glyph_small : (d : ℕ) → d < 16 → digit_glyph false d < 128
glyph_small d small = by (ltb d 10)
  where
    by : (a : Bool) → cond a (48 + d) (87 + d) < 128
    by true = omega arith
    by false = omega arith

onto_small : (k n : ℕ) (acc : List ℕ) → AllByRecursion (λ b. b < 128) acc → AllByRecursion (λ b. b < 128) (digits_onto k 16 false n acc)
onto_small zero n acc all = all
onto_small (suc k) n acc all =
    let more : AllByRecursion (λ b. b < 128) (digit_glyph false (n % 16) ∷ acc) = (glyph_small (n % 16) (omega arith), all) in
    either (eqb (n / 16) 0) _ _ more (onto_small k (n / 16) _ more)
  where
    either : (b : Bool) (xs ys : List ℕ) → AllByRecursion (λ b. b < 128) xs → AllByRecursion (λ b. b < 128) ys → AllByRecursion (λ b. b < 128) (cond b xs ys)
    either true xs ys p q = p
    either false xs ys p q = q

digits_small : (n : ℕ) → AllByRecursion (λ b. b < 128) (digits 16 false n)
unfolding digits
digits_small n = onto_small 64 n [] tt

-- digits before what stands behind them
pub digits_front : (n : ℕ) (acc : List ℕ) → digits_onto 64 16 false n acc ≡ digits 16 false n ++ acc
unfolding digits
digits_front n acc = onto_append 64 n acc

-- the two ways to name a digit
abbrev are_lower : ℕ → Bool
are_lower zero = true
are_lower (suc p) = eqb (digit_glyph false p) (get_or lower_digits p 0) && are_lower p

below : (n p : ℕ) → T (are_lower n) → p < n → digit_glyph false p ≡ get_or lower_digits p 0
below zero p t h = absurd (omega arith)
below (suc n) p t h =
    elim (eq-zero-or-pos (n - p)) [
      | inl z ↦ let e : p ≡ n = omega arith in rw e (eqb→eq _ _ (and_l _ (are_lower n) t))
      | inr g ↦ below n p (and_r _ (are_lower n) t) (omega arith)
    ]

pub lower_glyph : (p : ℕ) → p < 16 → digit_glyph false p ≡ get_or lower_digits p 0
lower_glyph p h = below 16 p tt h

text_of_small : (t : List ℕ) → AllByRecursion (λ b. b < 128) t → IsUtf8 t
text_of_small t all = IsUtf8-from_ascii t (λ i. small_at t i all)

-- the line of a block is text
pub block_is_text : (number address : ℕ) → number < 2 ^ 64 → IsUtf8 (codes
    "block " ++ (decimal number ++ (codes " 0x" ++ (digits 16 false address ++ codes "\n"))))
block_is_text number address fits =
    IsUtf8-append (codes "block ") _ (text_of_small (codes "block ") (lit≤ tt, (lit≤ tt, (lit≤ tt, (lit≤ tt, (lit≤ tt, (lit≤ tt, tt)))))))
    (IsUtf8-append (decimal number) _ (IsUtf8-from_ascii (decimal number) (IsAscii-decimal number fits))
    (IsUtf8-append (codes " 0x") _ (text_of_small (codes " 0x") (lit≤ tt, (lit≤ tt, (lit≤ tt, tt))))
    (IsUtf8-append (digits 16 false address) _ (text_of_small (digits 16 false address) (digits_small address)) (text_of_small (codes "\n") (lit≤ tt, tt)))))

-- the digits of bytes are text
pub hexes_are_text : (bytes : List ℕ) → IsUtf8 (encode_lower bytes)
hexes_are_text bytes = IsUtf8-from_ascii (encode_lower bytes) (IsAscii-encode_with lower_digits bytes lower_small)

-- what is written for a digit below ten, and for another
pub glyph_low : (v : ℕ) → v < 10 → 48 + v ≡ digit_glyph false v
glyph_low v low = sym (ap (λ (b : Bool). cond b (48 + v) (87 + v)) (lt-ltb v 10 low))

pub glyph_high : (v : ℕ) → 10 ≤ v → 97 + (v - 10) ≡ digit_glyph false v
glyph_high v high =
    let e : 97 + (v - 10) ≡ 87 + v = omega arith in
    e ∙ sym (ap (λ (b : Bool). cond b (48 + v) (87 + v)) (le-ltb v 10 high))

-- a write before what stands at i
pub set_before : (out : List ℕ) (i x g : ℕ) → 0 < i → i ≤ length out → x ≡ g → drop (i - 1) (set out (i - 1) x) ≡ g ∷ drop i out
set_before out i x g some within is =
    let e : i - 1 + 1 ≡ i = omega arith in
    drop-set out (i - 1) x (omega arith) ∙ ap (λ (k : ℕ). x ∷ drop k out) e ∙ ap (λ (v : ℕ). v ∷ drop i out) is

take_front : (xs ys : List ℕ) → take (length xs) (xs ++ ys) ≡ xs
take_front [] ys = refl
take_front (x ∷ xs) ys = ap (λ (l : List ℕ). x ∷ l) (take_front xs ys)

-- the digits of bytes are the first of those of a run that begins with them
pub run_front : (bytes run : List ℕ) → take (length bytes) run ≡ bytes → take (2 * length bytes) (encode_lower run) ≡ encode_lower bytes
run_front bytes run is =
    let n = length bytes in
    ap (λ (r : List ℕ). take (2 * n) (encode_lower r)) (sym (take-append-drop n run) ∙ ap (λ (l : List ℕ). l ++ drop n run) is)
    ∙ ap (take (2 * n)) (encode_with-append lower_digits bytes (drop n run))
    ∙ ap (λ (k : ℕ). take k (encode_lower bytes ++ encode_lower (drop n run))) (sym (length-encode_with lower_digits bytes))
    ∙ take_front (encode_lower bytes) (encode_lower (drop n run))
