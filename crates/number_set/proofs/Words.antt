-- One word of a bitmap is written.
use Rattle.std.proofs.Common.{◌≡◌, ℕ, ◌+◌, ◌*◌, ◌/◌, ◌%◌, ◌^◌, ◌<◌, ◌≤◌, Bool, true, false, not, eqb, List, length, get_or, set, map, refl, sym, ap, ◌∙◌, ◌⊎◌, inl, inr, arith, length-set, w64}
use Rattle.std.specs.Int.{bit_at, bit_not, trailing_zeros}
use Rattle.std.proofs.lemmas.Grind.{get_or_default_zero}
use Rattle.std.specs.Prelude.{bit_and, bit_or}
use Rattle.std.specs.Bool.{OnTrue, OnFalse}
use Rattle.std.proofs.lemmas.Bool.{cases_eq, cases_lt, cases_Bool, OnTrue_from, OnFalse_from, eqb-true, eq-eqb, false≢true}
use Rattle.std.proofs.lemmas.List.{same_lists, get_or-set_same, get_or-set_other, get_or_past, map-set, get_or-map, length-map}
use Rattle.std.proofs.lemmas.List.FromFn.{get_or-map-range_with_len}
use Rattle.std.proofs.Math.Seq.{map-set_same}
use Rattle.std.proofs.lemmas.Nat.Bits.{bit_at_clear_same, bit_at_clear_other, bit_at_set_same, bit_at_set_other, bit_at-zero, bit_at-trailing_zeros}
use Rattle.number_set.specs.Bitmap.{flags_of, flag_at, summary_of, is_nonzero, IsBitmap, length-flags_of, length-summary_of}

pub get_or-flags_of : (words : List ℕ) (bound n : ℕ) (d : Bool) → n < bound →
    get_or (flags_of words bound) n d ≡ flag_at words n
unfolding flags_of
get_or-flags_of words bound n d lt = get_or-map-range_with_len (flag_at words) 0 bound n n d lt (omega arith)

-- the new word has this bit at the place, and the old word's bits elsewhere
pub record ChangesBit (old new place : ℕ) (value : Bool) : Type 0 where
  pub here : eqb (bit_at new place) 1 ≡ value
  pub others : (i : ℕ) → i < 64 → (i ≡ place → ⊥) → bit_at new i ≡ bit_at old i

pub ChangesBit-set : (word place : ℕ) → place < 64 → ChangesBit word (bit_or word (1 * 2 ^ place % 2 ^ 64)) place true
ChangesBit-set word place lt = record {
  here = ap (λ b. eqb b 1) (bit_at_set_same w64 word place lt);
  others = λ i li ne. bit_at_set_other w64 word place lt i ne;
}

pub ChangesBit-clear : (word place : ℕ) → place < 64 →
    ChangesBit word (bit_and word (bit_not w64 (1 * 2 ^ place % 2 ^ 64))) place false
ChangesBit-clear word place lt = record {
  here = ap (λ b. eqb b 1) (bit_at_clear_same w64 word place lt);
  others = λ i li ne. bit_at_clear_other w64 word place lt i li ne;
}

-- the word that number n lies in, as a read of it gives it
pub read_word : (words : List ℕ) (bound n old : ℕ) → IsBitmap words bound → n < bound →
    old ≡ get_or words (n / 64) old → old ≡ get_or words (n / 64) 0
read_word words bound n old bitmap lt read = read ∙ get_or_default_zero words (n / 64) old (omega (arith, bitmap.count))

flag_at-set_same : (words : List ℕ) (n old word : ℕ) (value : Bool) → n / 64 < length words →
    ChangesBit old word (n % 64) value → flag_at (set words (n / 64) word) n ≡ value
flag_at-set_same words n old word value lt change =
    let w : get_or (set words (n / 64) word) (n / 64) 0 ≡ word = get_or-set_same words (n / 64) word 0 lt in
    rw w change.here

flag_at-set_other : (words : List ℕ) (n old word k : ℕ) (value : Bool) → n / 64 < length words →
    old ≡ get_or words (n / 64) 0 →
    ChangesBit old word (n % 64) value → (k ≡ n → ⊥) → flag_at (set words (n / 64) word) k ≡ flag_at words k
flag_at-set_other words n old word k value lt read change ne = go (cases_eq (k / 64) (n / 64))
  where
    go : (k / 64 ≡ n / 64) ⊎ (k / 64 ≡ n / 64 → ⊥) → flag_at (set words (n / 64) word) k ≡ flag_at words k
    go (inl e) =
        let w : get_or (set words (n / 64) word) (n / 64) 0 ≡ word = get_or-set_same words (n / 64) word 0 lt in
        let o : bit_at word (k % 64) ≡ bit_at old (k % 64) = change.others (k % 64) (omega arith) (λ x. ne (omega arith)) in
        rw (e, w, o, read) refl
    go (inr d) =
        let w : get_or (set words (n / 64) word) (k / 64) 0 ≡ get_or words (k / 64) 0 = get_or-set_other words (n / 64) (k / 64) word 0 d in
        rw w refl

-- one bit's change is one flag's
pub flags_of-set : (words : List ℕ) (bound n old word : ℕ) (value : Bool) → IsBitmap words bound → n < bound →
    old ≡ get_or words (n / 64) old → ChangesBit old word (n % 64) value →
    flags_of (set words (n / 64) word) bound ≡ set (flags_of words bound) n value
flags_of-set words bound n old word value bitmap lt read change =
    same_lists (flags_of (set words (n / 64) word) bound) (set (flags_of words bound) n value)
    (length-flags_of (set words (n / 64) word) bound ∙ sym (length-set (flags_of words bound) n value ∙ length-flags_of words bound))
    (λ k d h. let b : k < bound = omega (arith, length-flags_of (set words (n / 64) word) bound) in
    get_or-flags_of (set words (n / 64) word) bound k d b ∙ go k d b (cases_eq k n))
  where
    go : (k : ℕ) (d : Bool) → k < bound → (k ≡ n) ⊎ (k ≡ n → ⊥) →
        flag_at (set words (n / 64) word) k ≡ get_or (set (flags_of words bound) n value) k d
    go k d b (inl e) =
        let r : get_or (set (flags_of words bound) n value) n d ≡ value = get_or-set_same (flags_of words bound) n value d (omega (arith, length-flags_of words bound)) in
        rw (e, r) (flag_at-set_same words n old word value (omega (arith, bitmap.count)) change)
    go k d b (inr ne) =
        flag_at-set_other words n old word k value (omega (arith, bitmap.count)) (read_word words bound n old bitmap lt read) change ne
        ∙ sym (get_or-set_other (flags_of words bound) n k value d ne ∙ get_or-flags_of words bound k d b)

pub IsBitmap-set : (words : List ℕ) (bound n old word : ℕ) (value : Bool) → IsBitmap words bound → n < bound →
    old ≡ get_or words (n / 64) old → ChangesBit old word (n % 64) value → IsBitmap (set words (n / 64) word) bound
IsBitmap-set words bound n old word value bitmap lt read change = record {
  count = length-set words (n / 64) word ∙ bitmap.count;
  clear = λ k h. flag_at-set_other words n old word k value (omega (arith, bitmap.count)) (read_word words bound n old bitmap lt read) change (omega arith) ∙ bitmap.clear k h;
}

-- the summary of a word that is written
pub summary_of-set : (words : List ℕ) (i word : ℕ) (flag : Bool) → is_nonzero word ≡ flag →
    summary_of (set words i word) ≡ set (summary_of words) i flag
unfolding summary_of
summary_of-set words i word flag is = map-set is_nonzero words i word ∙ ap (λ f. set (map is_nonzero words) i f) is

-- a word that is written, and has bits as before or none as before
pub summary_of-set_same : (words : List ℕ) (i old word : ℕ) → old ≡ get_or words i old →
    is_nonzero word ≡ is_nonzero old → summary_of (set words i word) ≡ summary_of words
unfolding summary_of
summary_of-set_same words i old word read is = map-set_same is_nonzero words i word old (is ∙ ap is_nonzero read)

-- a word in which a bit is set is not zero
pub is_nonzero-by_bit : (word place : ℕ) → eqb (bit_at word place) 1 ≡ true → is_nonzero word ≡ true
is_nonzero-by_bit word place is = go (cases_Bool (eqb word 0))
  where
    go : (eqb word 0 ≡ true) ⊎ (eqb word 0 ≡ false) → is_nonzero word ≡ true
    go (inl zero) =
        let none : bit_at word place ≡ 0 = ap (λ w. bit_at w place) (eqb-true word 0 zero) ∙ bit_at-zero place in
        absurd (omega (arith, none, eqb-true (bit_at word place) 1 is))
    go (inr nonzero) = ap not nonzero

pub get_or-summary_of : (words : List ℕ) (i : ℕ) → get_or (summary_of words) i false ≡ is_nonzero (get_or words i 0)
unfolding summary_of
get_or-summary_of words i = go (cases_lt i (length words))
  where
    go : (i < length words) ⊎ (length words ≤ i) →
        get_or (map is_nonzero words) i false ≡ is_nonzero (get_or words i 0)
    go (inl lt) = get_or-map is_nonzero words i 0 false lt
    go (inr past) =
        let left : get_or (map is_nonzero words) i false ≡ false = get_or_past (map is_nonzero words) i false (omega (arith, length-map words is_nonzero)) in
        let right : get_or words i 0 ≡ 0 = get_or_past words i 0 past in
        left ∙ sym (ap is_nonzero right)

-- what the flags say at any number, also past the bound
pub get_or-flags_of_any : (words : List ℕ) (bound n : ℕ) → IsBitmap words bound →
    get_or (flags_of words bound) n false ≡ flag_at words n
get_or-flags_of_any words bound n bitmap = go (cases_lt n bound)
  where
    go : (n < bound) ⊎ (bound ≤ n) → get_or (flags_of words bound) n false ≡ flag_at words n
    go (inl lt) = get_or-flags_of words bound n false lt
    go (inr past) =
        get_or_past (flags_of words bound) n false (omega (arith, length-flags_of words bound)) ∙ sym (bitmap.clear n past)

-- if the summary has no flag, the word's flags are false
pub flags_of-no_summary : (words : List ℕ) (bound n : ℕ) → IsBitmap words bound →
    get_or (summary_of words) (n / 64) false ≡ false →
    get_or (flags_of words bound) n false ≡ false
flags_of-no_summary words bound n bitmap none = go (cases_Bool (flag_at words n))
  where
    go : (flag_at words n ≡ true) ⊎ (flag_at words n ≡ false) → get_or (flags_of words bound) n false ≡ false
    go (inl is) =
        absurd (false≢true (sym none ∙ (get_or-summary_of words (n / 64) ∙ is_nonzero-by_bit (get_or words (n / 64) 0) (n % 64) is)))
    go (inr not_set) = get_or-flags_of_any words bound n bitmap ∙ not_set

-- a word that is not there has no flag in the summary
pub summary_of-past : (words : List ℕ) (i : ℕ) → length words ≤ i → get_or (summary_of words) i false ≡ false
summary_of-past words i past = get_or_past (summary_of words) i false (omega (arith, length-summary_of words))

-- the lowest bit of a word is the word's lowest flag
pub lowest_flag : (words : List ℕ) (bound i word : ℕ) → IsBitmap words bound → get_or words i 0 ≡ word →
    0 < word → word < 2 ^ 64 →
    (get_or (flags_of words bound) (64 * i + trailing_zeros w64 word) false ≡ true)
    × ((k : ℕ) → k < 64 * i + trailing_zeros w64 word → k / 64 ≡ i → get_or (flags_of words bound) k false ≡ false)
lowest_flag words bound i word bitmap is some fits =
    let low = bit_at-trailing_zeros w64 word some fits in
    let quotient : (64 * i + trailing_zeros w64 word) / 64 ≡ i = omega (arith, low.0) in
    let rest : (64 * i + trailing_zeros w64 word) % 64 ≡ trailing_zeros w64 word = omega (arith, low.0) in (
      get_or-flags_of_any words bound (64 * i + trailing_zeros w64 word) bitmap
          ∙ rw (quotient, rest, is) (eq-eqb (bit_at word (trailing_zeros w64 word)) 1 low.1),
      λ k below in_word.
          let zero : bit_at word (k % 64) ≡ 0 = low.2 (k % 64) (omega arith) in
          get_or-flags_of_any words bound k bitmap ∙ rw (in_word, is, zero) refl,
    )

-- a word that has a bit also under a mask has one
pub is_nonzero-and : (word mask : ℕ) → is_nonzero (bit_and word mask) ≡ true → is_nonzero word ≡ true
is_nonzero-and word mask some = go (cases_Bool (eqb word 0))
  where
    go : (eqb word 0 ≡ true) ⊎ (eqb word 0 ≡ false) → is_nonzero word ≡ true
    go (inl zero) = absurd (false≢true (ap (λ w. is_nonzero (bit_and w mask)) (sym (eqb-true word 0 zero)) ∙ some))
    go (inr nonzero) = ap not nonzero

-- a word that is written as zero has no flag in the summary
pub cleared_last : (words : List ℕ) (i word : ℕ) →
    OnTrue (eqb word 0) (summary_of (set words i word) ≡ set (summary_of words) i false)
cleared_last words i word = OnTrue_from (eqb word 0) (summary_of (set words i word) ≡ set (summary_of words) i false)
    (λ zero. summary_of-set words i word false (ap not zero))

-- a word that keeps a bit under a mask keeps its flag in the summary
pub cleared_more : (words : List ℕ) (i old mask : ℕ) → old ≡ get_or words i old →
    OnFalse (eqb (bit_and old mask) 0) (summary_of (set words i (bit_and old mask)) ≡ summary_of words)
cleared_more words i old mask read = OnFalse_from (eqb (bit_and old mask) 0) (summary_of (set words i (bit_and old mask)) ≡ summary_of words)
    (λ some. summary_of-set_same words i old (bit_and old mask) read (ap not some ∙ sym (is_nonzero-and old mask (ap not some))))
