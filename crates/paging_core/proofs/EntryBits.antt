-- The fields of an entry, as the code computes them.
use Rattle.std.proofs.Common.{◌≡◌, ℕ, ◌+◌, ◌-◌, ◌*◌, ◌/◌, ◌%◌, ◌^◌, ◌<◌, ◌≤◌, Bool, true, false, not, eqb, nat_eq, refl, ap, ◌∙◌, cond, arith}
use Rattle.std.specs.Prelude.{bit_and, bit_or}
use Rattle.std.proofs.lemmas.Nat.Bits.{and_pow, and_high}
use Rattle.std.proofs.lemmas.Nat.{or_shifted, or_disjoint, and_block, and_mask}
use Rattle.std.specs.Int.Bits.{or_zero_r}
use Rattle.std.proofs.lemmas.Bool.Decides.{nat_tests}
use Rattle.paging_core.specs.Entry.{has_bit, frame_of, table_entry, page_entry}
use Rattle.paging_core.specs.declared.page_table.PageBits.{PageBits}

bit_test : (b p : ℕ) → b < 2 → 0 < p → not (nat_eq (b * p) 0) ≡ eqb b 1
bit_test b p lt pos = grind (arith, nat_tests)

-- the test `e & (1 << k) != 0`
pub and_bit : (e k : ℕ) → 0 < 2 ^ k → not (nat_eq (bit_and e (2 ^ k)) 0) ≡ has_bit e k
and_bit e k pos = rw (and_pow e k) (bit_test (e / 2 ^ k % 2) (2 ^ k) (omega arith) pos)

-- `e & ADDRESS`
pub and_address : (e : ℕ) → bit_and e 0xffffffffff000 / 4096 ≡ frame_of e
and_address e = let h : bit_and e 0xffffffffff000 ≡ (e / 2 ^ 12 % 2 ^ 40) * 2 ^ 12 = and_high e 40 12 in rw h (omega arith)

-- `n << 12 | low`
low_word : (n low : ℕ) → n < 2 ^ 40 → low < 2 ^ 12 → bit_or (n * 4096 % 2 ^ 64) low ≡ n * 2 ^ 12 + low
low_word n low lt small = let e : n * 4096 % 2 ^ 64 ≡ n * 2 ^ 12 = omega arith in rw e (or_shifted n 12 low small)

pub table_word : (n : ℕ) → n < 2 ^ 40 → bit_or (n * 4096 % 2 ^ 64) 39 ≡ table_entry n
table_word n lt = low_word n 39 lt (omega arith)

-- with bit 63 set if it is to be set
with_high : (never : Bool) (x : ℕ) → x < 2 ^ 63 → bit_or (cond never 0x8000000000000000 0) x ≡ x + cond never (2 ^ 63) 0
with_high true x lt = let h : bit_or (1 * 2 ^ 63) x ≡ 1 * 2 ^ 63 + x = or_shifted 1 63 x lt in h ∙ omega arith
with_high false x lt = let h : bit_or (0 * 2 ^ 63) x ≡ 0 * 2 ^ 63 + x = or_shifted 0 63 x lt in h ∙ omega arith

-- a bit that the word has not is set if it is to be set
or_bit : (x : ℕ) (set : Bool) (k : ℕ) → x / 2 ^ k % 2 ≡ 0 → bit_or x (cond set (2 ^ k) 0) ≡ x + cond set (2 ^ k) 0
or_bit x true k clear = or_disjoint x (2 ^ k) (and_pow x k ∙ rw clear (omega arith))
or_bit x false k clear = or_zero_r x ∙ omega arith

-- at most its weight
at_most : (set : Bool) (weight : ℕ) → cond set weight 0 ≤ weight
at_most true weight = omega arith
at_most false weight = omega arith

-- the word that the code makes
abbrev made_word : ℕ → PageBits → ℕ
made_word n rights =
    bit_or (cond (not rights.fetch) 0x8000000000000000 0)
    (bit_or (n * 4096 % 2 ^ 64)
    (bit_or (bit_or (bit_or (bit_or (bit_or 97 (cond rights.write 2 0)) (cond rights.user 4 0)) (cond rights.through 8 0)) (cond rights.uncached 16 0))
    (cond rights.global 256 0)))

pub page_word : (n : ℕ) (rights : PageBits) → n < 2 ^ 40 → made_word n rights ≡ page_entry n rights
page_word n rights lt =
    let w = at_most rights.write 2 in
    let u = at_most rights.user 4 in
    let t = at_most rights.through 8 in
    let c = at_most rights.uncached 16 in
    let g = at_most rights.global 256 in
    rw (
      or_bit 97 rights.write 1 refl,
      or_bit (97 + cond rights.write 2 0) rights.user 2 (omega arith),
      or_bit (97 + cond rights.write 2 0 + cond rights.user 4 0) rights.through 3 (omega arith),
      or_bit (97 + cond rights.write 2 0 + cond rights.user 4 0 + cond rights.through 8 0) rights.uncached 4 (omega arith),
      or_bit (97 + cond rights.write 2 0 + cond rights.user 4 0 + cond rights.through 8 0 + cond rights.uncached 16 0) rights.global 8 (omega arith),
      low_word n (97 + cond rights.write 2 0 + cond rights.user 4 0 + cond rights.through 8 0 + cond rights.uncached 16 0 + cond rights.global 256 0) lt (omega arith),
      with_high (not rights.fetch) (n * 2 ^ 12 + (97 + cond rights.write 2 0 + cond rights.user 4 0 + cond rights.through 8 0 + cond rights.uncached 16 0 + cond rights.global 256 0)) (omega arith),
      never rights.fetch,
    ) (omega arith)
  where
    never : (fetch : Bool) → cond {A = ℕ} (not fetch) (2 ^ 63) 0 ≡ cond fetch 0 (2 ^ 63)
    never true = refl
    never false = refl

-- all but the address field
pub and_flags : (e : ℕ) → e < 2 ^ 64 → bit_and e 0xfff0000000000fff ≡ e % 2 ^ 12 + e / 2 ^ 52 * 2 ^ 52
and_flags e lt =
    let split : e ≡ e / 2 ^ 52 * 2 ^ 52 + e % 2 ^ 52 = omega arith in
    let b : bit_and (e / 2 ^ 52 * 2 ^ 52 + e % 2 ^ 52) ((2 ^ 12 - 1) * 2 ^ 52 + (2 ^ 12 - 1))
    ≡ bit_and (e / 2 ^ 52) (2 ^ 12 - 1) * 2 ^ 52 + bit_and (e % 2 ^ 52) (2 ^ 12 - 1) =
    and_block 52 (e / 2 ^ 52) (2 ^ 12 - 1) (e % 2 ^ 52) (2 ^ 12 - 1) (omega arith) (omega arith) in
    let high : bit_and (e / 2 ^ 52) (2 ^ 12 - 1) ≡ e / 2 ^ 52 % 2 ^ 12 = and_mask (e / 2 ^ 52) 12 in
    let low : bit_and (e % 2 ^ 52) (2 ^ 12 - 1) ≡ e % 2 ^ 52 % 2 ^ 12 = and_mask (e % 2 ^ 52) 12 in
    ap (λ n. bit_and n 0xfff0000000000fff) split ∙ (b ∙ omega arith)
