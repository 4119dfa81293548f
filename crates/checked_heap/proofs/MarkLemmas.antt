-- One bit of the marks changes.
use Rattle.std.specs.Prelude.{◌≡◌, ◌≢◌, ℕ, ◌*◌, ◌-◌, ◌/◌, ◌%◌, ◌^◌, ◌<◌, ◌≤◌, ◌==◌, ◌&&◌, ◌⊎◌, Bool, true, false, nat_le, List, length, bit_and, bit_or, ◌+◌}
use Rattle.std.specs.Int.{bit_at, bit_not}
use Rattle.std.proofs.Common.{◌∙◌, ap, refl, inl, inr, arith, get_or, set, w64, sym}
use Rattle.std.proofs.lemmas.Bool.{cases_eq, cases_lt}
use Rattle.std.proofs.lemmas.Bool.Decides.{nat_tests}
use Rattle.std.proofs.lemmas.List.{get_or-set_same, get_or-set_other, get_or_past}
use Rattle.std.proofs.lemmas.Nat.Bits.{bit_at_clear_same, bit_at_clear_other, bit_at_set_same, bit_at_set_other, bit_at-zero}
use Rattle.checked_heap.specs.Marks.{has_mark, is_marked, HasBitPlace}
use Rattle.checked_heap.specs.Counted.{count_below}
use Rattle.checked_heap.proofs.Counting.{counted_more, counted_below}

-- a word has one bit of this value, and the bits of another elsewhere
pub record ChangesBit (old new place value : ℕ) : Type 0 where
  pub here : bit_at new place ≡ value
  pub others : (i : ℕ) → i < 64 → i ≢ place → bit_at new i ≡ bit_at old i

pub bit_set : (word place : ℕ) → place < 64 → ChangesBit word (bit_or word (1 * 2 ^ place % 2 ^ 64)) place 1
bit_set word place less = record {
  here = bit_at_set_same w64 word place less;
  others = λ i within other. bit_at_set_other w64 word place less i other;
}

pub bit_cleared : (word place : ℕ) → place < 64 → ChangesBit word (bit_and word (bit_not w64 (1 * 2 ^ place % 2 ^ 64))) place 0
bit_cleared word place less = record {
  here = bit_at_clear_same w64 word place less;
  others = λ i within other. bit_at_clear_other w64 word place less i within other;
}

-- the other bits stay
other_bit : (words : List ℕ) (n word k value : ℕ) → ChangesBit (get_or words (n / 64) 0) word (n % 64) value →
    n / 64 < length words → k ≢ n → has_mark (set words (n / 64) word) k ≡ has_mark words k
other_bit words n word k value changes within differ = go (cases_eq (k / 64) (n / 64))
  where
    go : (k / 64 ≡ n / 64) ⊎ (k / 64 ≡ n / 64 → ⊥) → has_mark (set words (n / 64) word) k ≡ has_mark words k
    go (inl same) =
        let read : get_or (set words (n / 64) word) (n / 64) 0 ≡ word = get_or-set_same words (n / 64) word 0 within in
        let bit : bit_at word (k % 64) ≡ bit_at (get_or words (n / 64) 0) (k % 64) =
        changes.others (k % 64) (omega arith) (λ is. differ (omega (arith, is, same))) in
        rw (same, read, bit) refl
    go (inr apart) =
        let read : get_or (set words (n / 64) word) (k / 64) 0 ≡ get_or words (k / 64) 0 = get_or-set_other words (n / 64) (k / 64) word 0 apart in
        rw read refl

pub marked_here : (base : ℕ) (words : List ℕ) (address word value : ℕ) → HasBitPlace base words address →
    ChangesBit (get_or words ((address - base) / 16 / 64) 0) word ((address - base) / 16 % 64) value →
    is_marked base (set words ((address - base) / 16 / 64) word) address ≡ (value == 1)
marked_here base words address word value place changes =
    let read : get_or (set words ((address - base) / 16 / 64) word) ((address - base) / 16 / 64) 0 ≡ word =
    get_or-set_same words ((address - base) / 16 / 64) word 0 place.within in
    let bit = changes.here in
    go (nat_le base address) ((address - base) % 16 == 0) (let low = place.low in grind (arith, nat_tests))
    (let whole = place.whole in grind (arith, nat_tests)) (rw (read, bit) refl)
  where
    go : (b c : Bool) → b ≡ true → c ≡ true → has_mark (set words ((address - base) / 16 / 64) word) ((address - base) / 16) ≡ (value == 1) →
        (b && (c && has_mark (set words ((address - base) / 16 / 64) word) ((address - base) / 16))) ≡ (value == 1)
    go b c low whole bit = rw (low, whole) bit

pub marked_other : (base : ℕ) (words : List ℕ) (address word value a : ℕ) → HasBitPlace base words address →
    ChangesBit (get_or words ((address - base) / 16 / 64) 0) word ((address - base) / 16 % 64) value → a ≢ address →
    is_marked base (set words ((address - base) / 16 / 64) word) a ≡ is_marked base words a
marked_other base words address word value a place changes differ = go (nat_le base a) ((a - base) % 16 == 0) refl refl
  where
    go : (b c : Bool) → nat_le base a ≡ b → ((a - base) % 16 == 0) ≡ c →
        (b && (c && has_mark (set words ((address - base) / 16 / 64) word) ((a - base) / 16))) ≡ (b && (c && has_mark words ((a - base) / 16)))
    go true true low whole =
        let here : base ≤ a = grind (arith, nat_tests, low) in
        let unit : (a - base) % 16 ≡ 0 = grind (arith, nat_tests, whole) in
        other_bit words ((address - base) / 16) word ((a - base) / 16) value changes place.within
        (λ same. differ (omega (arith, same, here, unit, place.low, place.whole)))
    go true false low whole = refl
    go false c low whole = refl

-- a mark has a place
pub place_of_mark : (base : ℕ) (words : List ℕ) (address : ℕ) → is_marked base words address ≡ true → HasBitPlace base words address
place_of_mark base words address marked = record {
  low = grind (arith, nat_tests, marked);
  whole = grind (arith, nat_tests, marked);
  within = go (cases_lt ((address - base) / 16 / 64) (length words));
}
  where
    go : ((address - base) / 16 / 64 < length words) ⊎ (length words ≤ (address - base) / 16 / 64) → (address - base) / 16 / 64 < length words
    go (inl less) = less
    go (inr past) =
        let none : get_or words ((address - base) / 16 / 64) 0 ≡ 0 = get_or_past words ((address - base) / 16 / 64) 0 past in
        let zero : bit_at (get_or words ((address - base) / 16 / 64) 0) ((address - base) / 16 % 64) ≡ 0 =
        ap (λ (w : ℕ). bit_at w ((address - base) / 16 % 64)) none ∙ bit_at-zero ((address - base) / 16 % 64) in
        absurd (grind (arith, nat_tests, marked, zero))

-- ---- how many there are

unmarked_zero : (base : ℕ) (words : List ℕ) → 0 < base → is_marked base words 0 ≡ false
unmarked_zero base words some = let low : nat_le base 0 ≡ false = grind (arith, nat_tests, some) in rw low refl

-- one mark more is counted, and 0 is none
pub set_counted : (base : ℕ) (words : List ℕ) (address word : ℕ) → address < 2 ^ 64 → 0 < base →
    HasBitPlace base words address → is_marked base words address ≡ false →
    ChangesBit (get_or words ((address - base) / 16 / 64) 0) word ((address - base) / 16 % 64) 1 →
    (count_below (is_marked base (set words ((address - base) / 16 / 64) word)) (2 ^ 64) ≡ count_below (is_marked base words) (2 ^ 64) + 1)
    × (count_below (is_marked base (set words ((address - base) / 16 / 64) word)) (2 ^ 64) < 2 ^ 64)
set_counted base words address word small some place unmarked changes = (
  counted_more (is_marked base words) (is_marked base (set words ((address - base) / 16 / 64) word)) (2 ^ 64) address small
      unmarked (marked_here base words address word 1 place changes)
      (λ k differ. marked_other base words address word 1 k place changes differ),
  counted_below (is_marked base (set words ((address - base) / 16 / 64) word)) (2 ^ 64) 0 (omega arith)
      (unmarked_zero base (set words ((address - base) / 16 / 64) word) some),
)

-- one mark less too
pub clear_counted : (base : ℕ) (words : List ℕ) (address word : ℕ) → address < 2 ^ 64 → HasBitPlace base words address → is_marked base words address ≡ true →
    ChangesBit (get_or words ((address - base) / 16 / 64) 0) word ((address - base) / 16 % 64) 0 →
    count_below (is_marked base words) (2 ^ 64) ≡ count_below (is_marked base (set words ((address - base) / 16 / 64) word)) (2 ^ 64) + 1
clear_counted base words address word small place marked changes =
    counted_more (is_marked base (set words ((address - base) / 16 / 64) word)) (is_marked base words) (2 ^ 64) address
    small (marked_here base words address word 0 place changes) marked
    (λ k differ. sym (marked_other base words address word 0 k place changes differ))
