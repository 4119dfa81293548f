-- Bits of heads, as sums.
use Rattle.std.proofs.Common.{◌≡◌, ℕ, zero, suc, ◌+◌, ◌-◌, ◌*◌, ◌/◌, ◌%◌, ◌^◌, ◌<◌, ◌∙◌, ap, sym, refl, arith}
use Rattle.std.proofs.lemmas.Nat.{and_mask, or_shifted, or_block, or_comm}
use Rattle.std.proofs.lemmas.Nat.Bits.{and_high_mask, and_pow}
use Rattle.std.specs.Prelude.{bit_and, bit_or}

pub and_high : (head : ℕ) → head < 2 ^ 64 → bit_and head (2 ^ 64 - 8) ≡ head / 8 * 8
and_high head small = and_high_mask 64 3 (omega arith) head small

pub and_not_one : (head : ℕ) → head < 2 ^ 64 → bit_and head (2 ^ 64 - 2) ≡ head / 2 * 2
and_not_one head small = and_high_mask 64 1 (omega arith) head small

pub and_one : (head : ℕ) → bit_and head 1 ≡ head % 2
and_one head = and_mask head 1

pub and_two : (head : ℕ) → bit_and head 2 ≡ head / 2 % 2 * 2
and_two head = and_pow head 1

pub or_bits : (size bits : ℕ) → size % 8 ≡ 0 → bits < 8 → bit_or size bits ≡ size + bits
or_bits size bits whole small =
    let is : size / 8 * 2 ^ 3 ≡ size = omega arith in
    ap (λ n. bit_or n bits) (sym is) ∙ (or_shifted (size / 8) 3 bits small ∙ ap (λ n. n + bits) is)

low_bit : (bit : ℕ) → bit < 2 → bit_or bit 1 ≡ 1
low_bit zero small = refl
low_bit (suc zero) small = refl
low_bit (suc (suc n)) small = absurd (omega arith)

pub or_one : (head : ℕ) → bit_or head 1 ≡ head / 2 * 2 + 1
or_one head =
    let parts : head ≡ head / 2 * 2 ^ 1 + head % 2 = omega arith in
    let high : bit_or (head / 2) 0 ≡ head / 2 = or_comm (head / 2) 0 in
    let low : bit_or (head % 2) 1 ≡ 1 = low_bit (head % 2) (omega arith) in
    let both : bit_or (head / 2 * 2 ^ 1 + head % 2) (0 * 2 ^ 1 + 1) ≡ bit_or (head / 2) 0 * 2 ^ 1 + bit_or (head % 2) 1 = or_block 1 (head / 2) 0 (head % 2) 1 (omega arith) (omega arith) in
    ap (λ n. bit_or n 1) parts ∙ (both ∙ rw (high, low) refl)
