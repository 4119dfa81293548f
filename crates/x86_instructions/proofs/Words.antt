-- The words of a command, as the code joins them bit by bit.
use Rattle.std.proofs.Common.{◌≡◌, ℕ, ◌+◌, ◌*◌, ◌/◌, ◌%◌, ◌^◌, ◌<◌, Bool, true, false, ◌∙◌, arith}
use Rattle.std.specs.Int.RustNames.{bit_and, bit_or}
use Rattle.std.proofs.lemmas.Nat.{or_shifted}
use Rattle.std.proofs.lemmas.Nat.Bits.{and_high}
use Rattle.std.specs.Int.Bits.{or_shifted_r}
use Rattle.x86_instructions.specs.Invlpgb.{bit_if}

pub page_word : (address options : ℕ) → address < 2 ^ 64 → options < 2 ^ 6 → options % 2 ≡ 0 →
    bit_or (bit_and address 18446744073709547520) (bit_or 1 options) ≡ address / 4096 * 4096 + (1 + options)
page_word address options small few even =
    let high : bit_and address 18446744073709547520 ≡ address / 4096 * 2 ^ 12 = and_high address 52 12 ∙ omega arith in
    let whole : options ≡ options / 2 * 2 ^ 1 = omega arith in
    let low : bit_or 1 options ≡ 1 + options = rw whole (or_shifted_r (options / 2) 1 1 (omega arith) ∙ omega arith) in
    rw (high, low) (or_shifted (address / 4096) 12 (1 + options) (omega arith))

pub count_word : (large : Bool) (count : ℕ) → count < 2 ^ 16 → bit_or (bit_if large 31) count ≡ bit_if large 31 + count
count_word true count fits = or_shifted 1 31 count (omega arith)
count_word false count fits = or_shifted 0 31 count (omega arith)
