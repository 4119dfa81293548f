-- A privilege level in the low two bits of a selector.
use Rattle.std.proofs.Common.{◌≡◌, ℕ, ◌+◌, ◌*◌, ◌/◌, ◌%◌, ◌^◌, ◌<◌, ◌∙◌, refl, arith}
use Rattle.std.specs.Int.RustNames.{bit_and, bit_or}
use Rattle.std.proofs.lemmas.Nat.{or_shifted}
use Rattle.std.proofs.lemmas.Nat.Bits.{and_high}
use denote.Enum.Declared.{tag_of}
use Rattle.x86_flags.specs.PrivilegeLevel.{level_number}
use Rattle.x86_flags.specs.contracts.privilege_level.PrivilegeLevel.{the_type}
use Rattle.x86_flags.specs.declared.privilege_level.PrivilegeLevel.{PrivilegeLevel}
use Rattle.x86_flags.specs.declared.privilege_level.PrivilegeLevel.TheVariants.{Ring0, Ring1, Ring2, Ring3}

-- what `as u16` gives of a level
tag_of-level : (level : PrivilegeLevel) → tag_of the_type level ≡ level_number level
tag_of-level Ring0 = refl
tag_of-level Ring1 = refl
tag_of-level Ring2 = refl
tag_of-level Ring3 = refl

level_number-lt : (level : PrivilegeLevel) → level_number level < 4
level_number-lt Ring0 = omega arith
level_number-lt Ring1 = omega arith
level_number-lt Ring2 = omega arith
level_number-lt Ring3 = omega arith

pub selector-new : (index : ℕ) (level : PrivilegeLevel) →
    bit_or (index * 8 % 65536) (tag_of the_type level) ≡ index % 8192 * 8 + level_number level
selector-new index level =
    let shifted : index * 8 % 65536 ≡ index % 8192 * 2 ^ 3 = omega arith in
    rw (shifted, tag_of-level level) (or_shifted (index % 8192) 3 (level_number level) (omega (arith, level_number-lt level)))

pub selector-set : (selector : ℕ) (level : PrivilegeLevel) → selector < 65536 →
    bit_or (bit_and selector 65532) (tag_of the_type level) ≡ selector / 4 * 4 + level_number level
selector-set selector level lt =
    let high : bit_and selector 65532 ≡ selector / 4 * 2 ^ 2 = and_high selector 14 2 ∙ omega arith in
    rw (high, tag_of-level level) (or_shifted (selector / 4) 2 (level_number level) (omega (arith, level_number-lt level)))
