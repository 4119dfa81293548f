-- Where numbers and items end in a text.
use Rattle.std.proofs.Common.{◌≡◌, ◌<◌, ◌≤◌, ◌^◌, ℕ, List, [], ◌∷◌, ◌++◌, false, codes, decimal, refl, sym, ◌∙◌, ap, arith, append_assoc, lit≤}
use Rattle.std.proofs.lemmas.Fmt.{digits_is_IsNumeral}
use Rattle.std.proofs.lemmas.List.{append_cancel_left}
use Rattle.std.specs.Fmt.{digits}
use Rattle.std.specs.Char.{digit_value}
use Rattle.std.specs.List.{AllByRecursion}
use Rattle.std.specs.Str.Parse.{AllDigits, digits_value}
use Rattle.call_lines.specs.Written.{hexadecimal}
use Rattle.heap_program.specs.Text.{span_text, spaced}

pub head_of : {x y : ℕ} {xs ys : List ℕ} → x ∷ xs ≡ y ∷ ys → x ≡ y
head_of h = cc

pub tail_of : {x y : ℕ} {xs ys : List ℕ} → x ∷ xs ≡ y ∷ ys → xs ≡ ys
tail_of h = cc

-- a text that tells its item, whatever follows, ends there
pub told_end : {A : Type 0} (text : A → List ℕ) (told : List ℕ → A) → ((x : A) (r : List ℕ) → told (text x ++ r) ≡ x) →
    (x y : A) (r s : List ℕ) → text x ++ r ≡ text y ++ s → (x ≡ y) × (r ≡ s)
told_end text told is x y r s h =
    let same : x ≡ y = sym (is x r) ∙ (ap told h ∙ is y s) in
    (same, append_cancel_left (text x) r s (h ∙ ap (λ z. text z ++ s) (sym same)))

-- digits end at the first byte that is none
pub digits_end : (base : ℕ) (xs ys : List ℕ) (c d : ℕ) (r s : List ℕ) → AllDigits base xs → AllDigits base ys →
    base ≤ digit_value c → base ≤ digit_value d → xs ++ c ∷ r ≡ ys ++ d ∷ s → (xs ≡ ys) × (c ∷ r ≡ d ∷ s)
digits_end base [] [] c d r s ax ay nc nd h = (refl, h)
digits_end base [] (y ∷ ys) c d r s ax ay nc nd h = absurd (omega (arith, ay.0, nc, ap digit_value (head_of h)))
digits_end base (x ∷ xs) [] c d r s ax ay nc nd h = absurd (omega (arith, ax.0, nd, ap digit_value (head_of h)))
digits_end base (x ∷ xs) (y ∷ ys) c d r s ax ay nc nd h =
    let k = digits_end base xs ys c d r s ax.1 ay.1 nc nd (tail_of h) in
    ((λ i. head_of h i ∷ k.0 i), k.1)

-- numbers in a base, each before a byte that is no digit
number_end : (base : ℕ) → 2 ≤ base → base ≤ 16 → (m n : ℕ) (c d : ℕ) (r s : List ℕ) → m < base ^ 64 → n < base ^ 64 →
    base ≤ digit_value c → base ≤ digit_value d → digits base false m ++ c ∷ r ≡ digits base false n ++ d ∷ s →
    (m ≡ n) × (c ∷ r ≡ d ∷ s)
number_end base low high m n c d r s fm fn nc nd h =
    let p = digits_is_IsNumeral base false low high m fm in
    let q = digits_is_IsNumeral base false low high n fn in
    let k = digits_end base (digits base false m) (digits base false n) c d r s p.0.1 q.0.1 nc nd h in
    (sym p.1 ∙ ap (digits_value base) k.0 ∙ q.1, k.1)

wide_10 : (n : ℕ) → n < 2 ^ 64 → n < 10 ^ 64
wide_10 n h = omega (arith, h)

wide_16 : (n : ℕ) → n < 2 ^ 64 → n < 16 ^ 64
wide_16 n h = omega (arith, h)

pub decimal_end : (m n c d : ℕ) (r s : List ℕ) → m < 2 ^ 64 → n < 2 ^ 64 → 10 ≤ digit_value c → 10 ≤ digit_value d →
    decimal m ++ c ∷ r ≡ decimal n ++ d ∷ s → (m ≡ n) × (c ∷ r ≡ d ∷ s)
decimal_end m n c d r s fm fn nc nd h = number_end 10 (lit≤ tt) (lit≤ tt) m n c d r s (wide_10 m fm) (wide_10 n fn) nc nd h

pub hex_end : (m n c d : ℕ) (r s : List ℕ) → m < 2 ^ 64 → n < 2 ^ 64 → 16 ≤ digit_value c → 16 ≤ digit_value d →
    hexadecimal m ++ c ∷ r ≡ hexadecimal n ++ d ∷ s → (m ≡ n) × (c ∷ r ≡ d ∷ s)
hex_end m n c d r s fm fn nc nd h = number_end 16 (lit≤ tt) (lit≤ tt) m n c d r s (wide_16 m fm) (wide_16 n fn) nc nd (tail_of (tail_of h))

-- a start and a size, before a byte that is no digit
span_onto : (start size c : ℕ) (r : List ℕ) → span_text start size ++ c ∷ r ≡ hexadecimal start ++ 43 ∷ (decimal size ++ c ∷ r)
span_onto start size c r = append_assoc (hexadecimal start) (43 ∷ decimal size) (c ∷ r)

pub span_end : (a m b n c d : ℕ) (r s : List ℕ) → (a < 2 ^ 64) × (m < 2 ^ 64) → (b < 2 ^ 64) × (n < 2 ^ 64) → 10 ≤ digit_value c → 10 ≤ digit_value d
    → span_text a m ++ c ∷ r ≡ span_text b n ++ d ∷ s → (a ≡ b) × (m ≡ n) × (c ∷ r ≡ d ∷ s)
span_end a m b n c d r s fits_x fits_y nc nd h =
    let first = hex_end a b 43 43 (decimal m ++ c ∷ r) (decimal n ++ d ∷ s) fits_x.0 fits_y.0 (lit≤ tt) (lit≤ tt)
    (sym (span_onto a m c r) ∙ h ∙ span_onto b n d s) in
    let second = decimal_end m n c d r s fits_x.1 fits_y.1 nc nd (tail_of first.1) in
    (first.0, second.0, second.1)

-- the text of an item ends before each byte that is no digit of base 16
abbrev pub Ends : (A : Type 0) → (A → List ℕ) → (A → Type 0) → Type 0
Ends A text Fits = (x y : A) (c d : ℕ) (r s : List ℕ) → Fits x → Fits y → 16 ≤ digit_value c → 16 ≤ digit_value d →
    text x ++ c ∷ r ≡ text y ++ d ∷ s → (x ≡ y) × (c ∷ r ≡ d ∷ s)

-- items with a space before each, up to the end of the line
module _ {A : Type 0} (text : A → List ℕ) (Fits : A → Type 0) (ends : Ends A text Fits) where
  -- what stands behind an item begins with no digit
  behind : (xs : List A) (r : List ℕ) → (c : ℕ) × (t : List ℕ) × (spaced text xs ++ 10 ∷ r ≡ c ∷ t) × (16 ≤ digit_value c)
  behind [] r = (10, r, refl, lit≤ tt)
  behind (x ∷ xs) r = (32, (text x ++ spaced text xs) ++ 10 ∷ r, refl, lit≤ tt)

  spaced_end : (xs ys : List A) (r s : List ℕ) → AllByRecursion Fits xs → AllByRecursion Fits ys →
      spaced text xs ++ 10 ∷ r ≡ spaced text ys ++ 10 ∷ s → (xs ≡ ys) × (r ≡ s)
  spaced_end [] [] r s fx fy h = (refl, tail_of h)
  spaced_end [] (y ∷ ys) r s fx fy h = absurd (let k : 10 ≡ 32 = head_of h in omega (arith, k))
  spaced_end (x ∷ xs) [] r s fx fy h = absurd (let k : 32 ≡ 10 = head_of h in omega (arith, k))
  spaced_end (x ∷ xs) (y ∷ ys) r s fx fy h =
      let p = behind xs r in
      let q = behind ys s in
      let apart = ap (λ (l : List ℕ). text x ++ l) (sym p.2) ∙ sym (append_assoc (text x) (spaced text xs) (10 ∷ r))
      ∙ tail_of h ∙ append_assoc (text y) (spaced text ys) (10 ∷ s) ∙ ap (λ (l : List ℕ). text y ++ l) q.2 in
      let k = ends x y p.0 q.0 p.1 q.1 fx.0 fy.0 p.3 q.3 apart in
      let rest = spaced_end xs ys r s fx.1 fy.1 (p.2 ∙ k.1 ∙ sym q.2) in
      ((λ i. k.0 i ∷ rest.0 i), rest.1)

  line_onto : (word : List ℕ) (xs : List A) (r : List ℕ) → (word ++ (spaced text xs ++ codes "\n")) ++ r ≡ word ++ (spaced text xs ++ 10 ∷ r)
  line_onto word xs r = append_assoc word (spaced text xs ++ codes "\n") r ∙ ap (λ (l : List ℕ). word ++ l) (append_assoc (spaced text xs) (codes "\n") r)

  -- and with a word before the first
  pub items_end : (word : List ℕ) (xs ys : List A) (r s : List ℕ) → AllByRecursion Fits xs → AllByRecursion Fits ys
      → (word ++ (spaced text xs ++ codes "\n")) ++ r ≡ (word ++ (spaced text ys ++ codes "\n")) ++ s → (xs ≡ ys) × (r ≡ s)
  items_end word xs ys r s fx fy h =
      spaced_end xs ys r s fx fy (append_cancel_left word (spaced text xs ++ 10 ∷ r) (spaced text ys ++ 10 ∷ s)
      (sym (line_onto word xs r) ∙ h ∙ line_onto word ys s))
