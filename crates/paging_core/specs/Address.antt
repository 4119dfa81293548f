-- Virtual addresses and ranges of pages (AMD64 volume 2, "Canonical Address Form").
use Rattle.std.specs.Prelude.{◌≡◌, ℕ, ◌+◌, ◌-◌, ◌*◌, ◌/◌, ◌%◌, ◌^◌, ◌<◌, Bool, ◌==◌, ◌||◌, IsTrue, if◌then◌else◌}

-- bits 47 to 63 of the address are equal
abbrev pub is_canonical : ℕ → Bool
is_canonical address = address / 2 ^ 47 == 0 || address / 2 ^ 47 == 2 ^ 17 - 1

-- the low 48 bits, with bit 47 copied to the bits above it
abbrev pub sign_extended : ℕ → ℕ
sign_extended address = address % 2 ^ 47 + (if address / 2 ^ 47 % 2 == 1 then 2 ^ 64 - 2 ^ 47 else 0)

-- the pages from `first` on, by their numbers: at least one, and all in one canonical half
pub record IsCanonicalRange (first pages : ℕ) : Type 0 where
  pub some : 0 < pages
  pub canonical : IsTrue (is_canonical (first * 4096))
  pub one_half : (first + pages - 1) / 2 ^ 35 ≡ first / 2 ^ 35
