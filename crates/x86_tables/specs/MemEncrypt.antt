-- The bit of a page table entry that says whether the page is encrypted (AMD64 manual, volume 2, section 7.10; the bit
-- that is set in shared pages is that of Intel's TDX).
use Rattle.std.specs.Prelude.{ℕ, ◌-◌, ◌^◌, Bool, true, false, not, ◌==◌, ◌&&◌, if◌then◌else◌}
use Rattle.std.specs.Int.RustNames.{bit_and, bit_or}
use Rattle.bitflags.specs.Sets.{without}
use Rattle.x86_tables.specs.declared.mem_encrypt.EncryptionBits.{EncryptionBits}
use Rattle.x86_tables.specs.declared.mem_encrypt.MemoryEncryptionConfiguration.{MemoryEncryptionConfiguration}
use Rattle.x86_tables.specs.declared.mem_encrypt.MemoryEncryptionConfiguration.TheVariants.{EncryptedBit, SharedBit}

-- the place of the bit
abbrev pub bit_place : MemoryEncryptionConfiguration → ℕ
bit_place (EncryptedBit place) = place
bit_place (SharedBit place) = place

-- whether the bit is set in the pages that are not encrypted
abbrev pub is_reversed : MemoryEncryptionConfiguration → Bool
is_reversed (EncryptedBit place) = false
is_reversed (SharedBit place) = true

-- the address field of a page table entry: bits 12 to 51
abbrev pub whole_address : ℕ
whole_address = 2 ^ 52 - 2 ^ 12

-- the address field loses the bit
abbrev pub encryption_bits : MemoryEncryptionConfiguration → EncryptionBits
encryption_bits configuration = record {
  mask = 2 ^ bit_place configuration;
  reversed = is_reversed configuration;
  address_mask = without 64 whole_address (2 ^ bit_place configuration);
}

-- the bits where memory encryption is off
abbrev pub no_encryption : EncryptionBits
no_encryption = record { mask = 0; reversed = false; address_mask = whole_address }

-- the other value if the bit is reversed
abbrev pub inverted : Bool → Bool → Bool
inverted true value = not value
inverted false value = value

-- the entry of an encrypted page, or of a shared one: the bit is set or cleared, and all others stay
abbrev pub encrypted_by : EncryptionBits → Bool → ℕ → ℕ
encrypted_by encryption encrypted bits =
    if inverted encryption.reversed encrypted then bit_or bits encryption.mask else without 64 bits encryption.mask

-- there is a bit, and it is set, or clear if it is reversed
abbrev pub is_encrypted_by : EncryptionBits → ℕ → Bool
is_encrypted_by encryption bits =
    not (encryption.mask == 0) && inverted encryption.reversed (bit_and bits encryption.mask == encryption.mask)
