-- The valid bits of DR7, and its fields of two bits.
use Rattle.std.proofs.Common.{◌≡◌, ℕ, ◌+◌, ◌-◌, ◌*◌, ◌/◌, ◌%◌, ◌^◌, ◌<◌, ◌≤◌, min, ap, sym, ◌∙◌, refl, arith}
use Rattle.std.specs.Int.{bit_at}
use Rattle.std.specs.Int.RustNames.{bit_and, bit_or, bit_xor}
use Rattle.std.proofs.lemmas.Nat.{or_shifted, shl_whole, one_shl, and_mask, and_le_r, and_mod, and_block, pow_pos}
use Rattle.std.proofs.Math.Nat.{div-le_self, mod-lt}
use Rattle.std.proofs.lemmas.Nat.Bits.{bit_at_and, bit_at_or, bit_at_xor, bit_at-lt, same_from_bits}
use Rattle.bitflags.specs.Sets.{known_from}
use Rattle.x86_flags.specs.Dr7Value.{IsDr7, dr7_valid, with_field}
use Rattle.x86_flags.specs.DebugAddressRegisterNumber.{register_number}
use Rattle.x86_flags.specs.declared.debug_address_register_number.DebugAddressRegisterNumber.{DebugAddressRegisterNumber}
use Rattle.x86_flags.specs.declared.debug_address_register_number.DebugAddressRegisterNumber.TheVariants.{Dr0, Dr1, Dr2, Dr3}

-- a bit of a number that has no bits but those of the mask
within_mask : (mask a i : ℕ) → bit_and a mask ≡ a → min (bit_at a i) (bit_at mask i) ≡ bit_at a i
within_mask mask a i h = sym (bit_at_and a mask i) ∙ ap (λ n. bit_at n i) h

pub mask-and : (mask a : ℕ) → bit_and (bit_and a mask) mask ≡ bit_and a mask
mask-and mask a = same_from_bits (bit_and (bit_and a mask) mask) (bit_and a mask)
    (λ i. omega (arith, bit_at_and (bit_and a mask) mask i, bit_at_and a mask i))

pub mask-or : (mask a b : ℕ) → bit_and a mask ≡ a →
    bit_and (bit_or a (bit_and b mask)) mask ≡ bit_or a (bit_and b mask)
mask-or mask a b h = same_from_bits (bit_and (bit_or a (bit_and b mask)) mask) (bit_or a (bit_and b mask))
    (λ i. omega (arith, within_mask mask a i h, bit_at_and (bit_or a (bit_and b mask)) mask i, bit_at_or a (bit_and b mask) i, bit_at_and b mask i))

pub mask-xor : (mask a b : ℕ) → bit_and a mask ≡ a →
    bit_and (bit_xor a (bit_and b mask)) mask ≡ bit_xor a (bit_and b mask)
mask-xor mask a b h = same_from_bits (bit_and (bit_xor a (bit_and b mask)) mask) (bit_xor a (bit_and b mask))
    (λ i. omega (
      arith,
      within_mask mask a i h,
      bit_at_and (bit_xor a (bit_and b mask)) mask i,
      bit_at_xor a (bit_and b mask) i,
      bit_at_and b mask i,
      bit_at-lt a i,
      bit_at-lt b i,
      bit_at-lt mask i,
    ))

pub mask-kept : (mask a b : ℕ) → bit_and a mask ≡ a → bit_and (bit_and a b) mask ≡ bit_and a b
mask-kept mask a b h = same_from_bits (bit_and (bit_and a b) mask) (bit_and a b)
    (λ i. omega (arith, within_mask mask a i h, bit_at_and (bit_and a b) mask i, bit_at_and a b i))

pub field-replaced : (bits at value : ℕ) → bits < 2 ^ 32 → at ≤ 30 → value < 4 →
    bit_or (bit_or (bits / 2 ^ (at + 2) * 4 % 2 ^ 64) value * 2 ^ at % 2 ^ 64) (bit_and bits (1 * 2 ^ at % 2 ^ 64 - 1)) ≡ with_field bits at value
field-replaced bits at value small near fits =
    let above : bits / 2 ^ (at + 2) ≤ bits = div-le_self bits (2 ^ (at + 2)) in
    let shifted : bits / 2 ^ (at + 2) * 4 % 2 ^ 64 ≡ bits / 2 ^ (at + 2) * 2 ^ 2 = omega arith in
    let joined = or_shifted (bits / 2 ^ (at + 2)) 2 value fits in
    let whole = shl_whole (bits / 2 ^ (at + 2) * 4 + value) 34 at 64 (omega arith) (omega arith) in
    let one = one_shl at 64 (omega arith) in
    let low = and_mask bits at in
    rw (shifted, joined, whole, one, low)
    (or_shifted (bits / 2 ^ (at + 2) * 4 + value) at (bits % 2 ^ at) (mod-lt bits (pow_pos at)))

dr7_valid-is : dr7_valid ≡ 65535 * 2 ^ 16 + 11263
unfolding known_from
dr7_valid-is = refl

-- the low half of a valid value, and that its high half is any sixteen bits
pub IsDr7-below : (bits : ℕ) → IsDr7 bits → bits < 2 ^ 32
IsDr7-below bits valid = omega (arith, valid, and_le_r bits dr7_valid, dr7_valid-is)

IsDr7-low : (bits : ℕ) → IsDr7 bits → bit_and (bits % 2 ^ 16) 11263 ≡ bits % 2 ^ 16
IsDr7-low bits valid =
    let low : dr7_valid % 2 ^ 16 ≡ 11263 = ap (λ n. n % 2 ^ 16) dr7_valid-is in
    ap (λ n. bit_and (bits % 2 ^ 16) n) (sym low) ∙ (sym (and_mod bits dr7_valid 16) ∙ ap (λ n. n % 2 ^ 16) valid)

IsDr7-from_halves : (bits : ℕ) → bits < 2 ^ 32 → bit_and (bits % 2 ^ 16) 11263 ≡ bits % 2 ^ 16 → IsDr7 bits
IsDr7-from_halves bits small low =
    let halves : bits ≡ bits / 2 ^ 16 * 2 ^ 16 + bits % 2 ^ 16 = omega arith in
    let high : bit_and (bits / 2 ^ 16) (2 ^ 16 - 1) ≡ bits / 2 ^ 16 = and_mask (bits / 2 ^ 16) 16 ∙ omega arith in
    ap (λ n. bit_and bits n) dr7_valid-is
    ∙ (ap (λ n. bit_and n (65535 * 2 ^ 16 + 11263)) halves
    ∙ (and_block 16 (bits / 2 ^ 16) 65535 (bits % 2 ^ 16) 11263 (omega arith) (omega arith)
    ∙ omega (arith, high, low)))

-- a field of two bits from bit 16 on keeps the low half, and stays below bit 32
IsDr7-with_field : (bits at value : ℕ) → IsDr7 bits →
    (with_field bits at value < 2 ^ 32) × (with_field bits at value % 2 ^ 16 ≡ bits % 2 ^ 16) →
    IsDr7 (with_field bits at value)
IsDr7-with_field bits at value valid kept =
    IsDr7-from_halves (with_field bits at value) kept.0 (ap (λ n. bit_and n 11263) kept.1 ∙ (IsDr7-low bits valid ∙ sym kept.1))

condition-kept : (n : DebugAddressRegisterNumber) (bits value : ℕ) → bits < 2 ^ 32 → value < 4 →
    (with_field bits (16 + 4 * register_number n) value < 2 ^ 32) × (with_field bits (16 + 4 * register_number n) value % 2 ^ 16 ≡ bits % 2 ^ 16)
condition-kept Dr0 bits value small fits = (omega arith, omega arith)
condition-kept Dr1 bits value small fits = (omega arith, omega arith)
condition-kept Dr2 bits value small fits = (omega arith, omega arith)
condition-kept Dr3 bits value small fits = (omega arith, omega arith)

size-kept : (n : DebugAddressRegisterNumber) (bits value : ℕ) → bits < 2 ^ 32 → value < 4 →
    (with_field bits (18 + 4 * register_number n) value < 2 ^ 32) × (with_field bits (18 + 4 * register_number n) value % 2 ^ 16 ≡ bits % 2 ^ 16)
size-kept Dr0 bits value small fits = (omega arith, omega arith)
size-kept Dr1 bits value small fits = (omega arith, omega arith)
size-kept Dr2 bits value small fits = (omega arith, omega arith)
size-kept Dr3 bits value small fits = (omega arith, omega arith)

pub IsDr7-with_condition : (n : DebugAddressRegisterNumber) (bits value : ℕ) → IsDr7 bits → value < 4 →
    IsDr7 (with_field bits (16 + 4 * register_number n) value)
IsDr7-with_condition n bits value valid fits =
    IsDr7-with_field bits (16 + 4 * register_number n) value valid (condition-kept n bits value (IsDr7-below bits valid) fits)

pub IsDr7-with_size : (n : DebugAddressRegisterNumber) (bits value : ℕ) → IsDr7 bits → value < 4 →
    IsDr7 (with_field bits (18 + 4 * register_number n) value)
IsDr7-with_size n bits value valid fits =
    IsDr7-with_field bits (18 + 4 * register_number n) value valid (size-kept n bits value (IsDr7-below bits valid) fits)
