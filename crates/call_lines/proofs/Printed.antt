-- Numbers, bytes, rights and accesses that are written are read as what they were.
use Rattle.std.proofs.Common.{◌≡◌, ℕ, zero, suc, ◌+◌, ◌/◌, ◌%◌, ◌^◌, ◌<◌, ◌≤◌, ◌==◌, Bool, true, false, ◌&&◌, List, [], ◌∷◌, length, drop, Some, codes, decimal, refl, sym, ◌∙◌, ap, arith, lit≤, pow-suc, ne_eqb, false-eqb}
use Rattle.std.specs.Prelude.{if◌then◌else◌, nat_eq, slice_index}
use Rattle.std.specs.Char.{is_digit, digit_value}
use Rattle.std.specs.Fmt.{digits, digits_onto, digit_glyph}
use Rattle.std.specs.List.{list_all, starts_with, AllByRecursion}
use Rattle.std.specs.Result.{result_ok}
use Rattle.std.specs.Str.Parse.{AllDigits, IsNumeral, digits_value}
use Rattle.std.proofs.lemmas.Bool.{lt-ltb}
use Rattle.std.proofs.lemmas.Fmt.{digits_is_IsNumeral, length-decimal-le}
use Rattle.hex.specs.Hex.{IsBytes, encode_lower, encode_with, lower_digits}
use Rattle.hex.proofs.HexLemmas.{decode_of-encode_lower}
use Rattle.paging_core.specs.declared.page_table.Rights.{Rights}
use Rattle.paging_core.specs.declared.processor_access.AccessKind.{AccessKind}
use Rattle.paging_core.specs.declared.processor_access.AccessKind.TheVariants.{Read as Reading, Write as Writing, Fetch as Fetching}
use Rattle.call_lines.specs.CallLine.{access_word}
use Rattle.call_lines.specs.Grammar.{access_named, bytes_from_digits, rights_of_letters}
use Rattle.call_lines.specs.Number.{number_of, numeral_of}
use Rattle.call_lines.specs.Written.{hexadecimal, rights_word}
use Rattle.call_lines.proofs.Numerals.{left_done}

-- ---- digits

are_digits : (base : ℕ) (ds : List ℕ) → AllDigits base ds → list_all (λ b. is_digit b base) ds ≡ true
are_digits base [] all = refl
are_digits base (d ∷ ds) all = ap (λ (b : Bool). b && list_all (λ (c : ℕ). is_digit c base) ds) (lt-ltb (digit_value d) base all.0) ∙ are_digits base ds all.1

-- digits that write a number are read as it
numeral_read : (base most n : ℕ) (ds : List ℕ) → IsNumeral base ds → digits_value base ds ≡ n → length ds ≤ most → n < 2 ^ 64 → numeral_of base most ds ≡ Some n
numeral_read base most n ds is value short fits = left_done base most ds n (record { all = are_digits base ds is.1; value = value }) is.0 short fits

-- ---- words

-- there is no space among the bytes
abbrev pub IsWord : List ℕ → Type 0
IsWord word = AllByRecursion (λ b. (b == 32) ≡ false) word

not_space : (base b : ℕ) → base ≤ 16 → digit_value b < base → (b == 32) ≡ false
not_space base b small is = ne_eqb b 32 (λ same. let value : digit_value b ≡ 36 = ap digit_value same in omega (arith, small, is, value))

word_digits : (base : ℕ) (ds : List ℕ) → base ≤ 16 → AllDigits base ds → IsWord ds
word_digits base [] small all = tt
word_digits base (d ∷ ds) small all = (not_space base d small all.0, word_digits base ds small all.1)

-- ---- decimal numbers

and_false : (b : Bool) → (b && false) ≡ false
and_false true = refl
and_false false = refl

-- digits to the base 10 do not begin with 0x
unmarked : (ds : List ℕ) → AllDigits 10 ds → starts_with nat_eq ds (codes "0x") ≡ false
unmarked [] all = refl
unmarked (c ∷ []) all = and_false (48 == c)
unmarked (c ∷ d ∷ ds) all =
    ap (λ (t : Bool). (48 == c) && (t && true)) (ne_eqb 120 d (λ same. let value : 33 ≡ digit_value d = ap digit_value same in omega (arith, all.1.0, value)))
    ∙ and_false (48 == c)

wide_10 : (n : ℕ) → n < 2 ^ 64 → n < 10 ^ 64
wide_10 n h = omega (arith, h)

wide_16 : (n : ℕ) → n < 2 ^ 64 → n < 16 ^ 64
wide_16 n h = omega (arith, h)

pub decimal_word : (n : ℕ) → n < 2 ^ 64 → IsWord (decimal n)
decimal_word n fits = word_digits 10 (decimal n) (lit≤ tt) (digits_is_IsNumeral 10 false (lit≤ tt) (lit≤ tt) n (wide_10 n fits)).0.1

pub decimal_short : (n : ℕ) → n < 2 ^ 64 → length (decimal n) ≤ 20
decimal_short n fits = length-decimal-le 20 n (omega arith) (omega (arith, fits)) fits

pub decimal_read : (n : ℕ) → n < 2 ^ 64 → number_of (decimal n) ≡ Some n
decimal_read n fits =
    let is = digits_is_IsNumeral 10 false (lit≤ tt) (lit≤ tt) n (wide_10 n fits) in
    ap (λ (b : Bool). if b then numeral_of 16 16 (drop 2 (decimal n)) else numeral_of 10 20 (decimal n)) (unmarked (decimal n) is.0.1)
    ∙ numeral_read 10 20 n (decimal n) is.0 is.1 (decimal_short n fits) fits

-- ---- hexadecimal numbers

-- one more digit is written, and then those of the rest
few_step : (k m n : ℕ) (acc : List ℕ) (b : Bool) → (n / 16 == 0) ≡ b → n < 16 ^ suc m
    → ((m' : ℕ) → n / 16 < 16 ^ suc m' → length (digits_onto k 16 false (n / 16) (digit_glyph false (n % 16) ∷ acc)) ≤ suc m' + suc (length acc))
    → length (if b then digit_glyph false (n % 16) ∷ acc else digits_onto k 16 false (n / 16) (digit_glyph false (n % 16) ∷ acc)) ≤ suc m + length acc
few_step k m n acc true e fits rest = let few : suc (length acc) ≤ suc m + length acc = omega arith in few
few_step k zero n acc false e fits rest = absurd (false-eqb (n / 16) 0 (sym e) (omega (arith, fits)))
few_step k (suc m) n acc false e fits rest =
    let less : n / 16 < 16 ^ suc m = omega (arith, fits, pow-suc 16 (suc m)) in
    let few : length (digits_onto k 16 false (n / 16) (digit_glyph false (n % 16) ∷ acc)) ≤ suc (suc m) + length acc = omega (arith, rest m less) in
    few

-- a number below 16 ^ m has at most m digits
few_onto : (k m n : ℕ) (acc : List ℕ) → n < 16 ^ suc m → length (digits_onto k 16 false n acc) ≤ suc m + length acc
few_onto zero m n acc fits = let few : length acc ≤ suc m + length acc = omega arith in few
few_onto (suc k) m n acc fits = few_step k m n acc (n / 16 == 0) refl fits (λ m' less. few_onto k m' (n / 16) (digit_glyph false (n % 16) ∷ acc) less)

pub hexadecimal_word : (n : ℕ) → n < 2 ^ 64 → IsWord (hexadecimal n)
hexadecimal_word n fits = (refl, (refl, word_digits 16 (digits 16 false n) (lit≤ tt) (digits_is_IsNumeral 16 false (lit≤ tt) (lit≤ tt) n (wide_16 n fits)).0.1))

hex_few : (n : ℕ) → n < 2 ^ 64 → length (digits 16 false n) ≤ 16
unfolding digits
hex_few n fits = few_onto 64 15 n [] (omega (arith, fits))

pub hexadecimal_short : (n : ℕ) → n < 2 ^ 64 → length (hexadecimal n) ≤ 18
hexadecimal_short n fits = let few : suc (suc (length (digits 16 false n))) ≤ 18 = omega (arith, hex_few n fits) in few

pub hexadecimal_read : (n : ℕ) → n < 2 ^ 64 → number_of (hexadecimal n) ≡ Some n
hexadecimal_read n fits =
    let is = digits_is_IsNumeral 16 false (lit≤ tt) (lit≤ tt) n (wide_16 n fits) in
    numeral_read 16 16 n (digits 16 false n) is.0 is.1 (hex_few n fits) fits

-- ---- bytes, rights and accesses

-- the sixteen digits
digit_word : (t : List ℕ) (k : ℕ) → IsWord t → k < length t → (slice_index t k == 32) ≡ false
digit_word [] k all less = absurd (omega (arith, less))
digit_word (x ∷ xs) zero all less = all.0
digit_word (x ∷ xs) (suc k) all less = digit_word xs k all.1 (omega (arith, less))

lower_word : IsWord lower_digits
lower_word = (refl, (refl, (refl, (refl, (refl, (refl, (refl, (refl, (refl, (refl, (refl, (refl, (refl, (refl, (refl, (refl, tt))))))))))))))))

pub bytes_word : (bytes : List ℕ) → IsBytes bytes → IsWord (encode_lower bytes)
unfolding encode_with
bytes_word [] small = tt
bytes_word (byte ∷ bytes) small =
    let first : byte < 256 = small 0 in (
      digit_word lower_digits (byte / 16) lower_word (omega (arith, first)),
      (digit_word lower_digits (byte % 16) lower_word (omega arith), bytes_word bytes (λ i. small (suc i))),
    )

pub bytes_read : (bytes : List ℕ) → IsBytes bytes → 0 < length bytes → bytes_from_digits (encode_lower bytes) ≡ Some bytes
unfolding encode_with
bytes_read [] small some = absurd (omega (arith, some))
bytes_read (byte ∷ bytes) small some = ap result_ok (decode_of-encode_lower (byte ∷ bytes) small)

rights_spelled : (write user fetch : Bool) → rights_of_letters (rights_word
    (record { write = write; user = user; fetch = fetch })) ≡ Some (record { write = write; user = user; fetch = fetch })
rights_spelled true true true = refl
rights_spelled true true false = refl
rights_spelled true false true = refl
rights_spelled true false false = refl
rights_spelled false true true = refl
rights_spelled false true false = refl
rights_spelled false false true = refl
rights_spelled false false false = refl

pub rights_word_is : (rights : Rights) → IsWord (rights_word rights)
rights_word_is rights = spelled rights.write rights.user rights.fetch
  where
    spelled : (write user fetch : Bool) → IsWord (rights_word (record { write = write; user = user; fetch = fetch }))
    spelled true true true = (refl, (refl, (refl, (refl, tt))))
    spelled true true false = (refl, (refl, (refl, (refl, tt))))
    spelled true false true = (refl, (refl, (refl, (refl, tt))))
    spelled true false false = (refl, (refl, (refl, (refl, tt))))
    spelled false true true = (refl, (refl, (refl, (refl, tt))))
    spelled false true false = (refl, (refl, (refl, (refl, tt))))
    spelled false false true = (refl, (refl, (refl, (refl, tt))))
    spelled false false false = (refl, (refl, (refl, (refl, tt))))

pub rights_read : (rights : Rights) → rights_of_letters (rights_word rights) ≡ Some rights
rights_read rights = rights_spelled rights.write rights.user rights.fetch

pub access_read : (access : AccessKind) → access_named (access_word access) ≡ Some access
access_read Reading = refl
access_read Writing = refl
access_read Fetching = refl
