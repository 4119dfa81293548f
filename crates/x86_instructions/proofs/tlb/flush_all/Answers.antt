use Rattle.std.proofs.Common.{◌≡◌, ℕ, ◌%◌, ◌^◌, refl, arith}
use Rattle.std.specs.Int.RustNames.{bit_and}
use Rattle.std.proofs.lemmas.Nat.{and_le_r}
use Rattle.bitflags.specs.Sets.{known_bits, known_from}
use Rattle.x86_flags.specs.Cr3Flags.{cr3_flags}
use Rattle.x86_instructions.proofs.tlb.flush_all.Goals as goal

flags_are : known_bits cr3_flags ≡ 24
unfolding known_from
flags_are = refl

-- the flags lie below bit 16
flags_small : (cr3 : ℕ) → bit_and cr3 (known_bits cr3_flags) % 2 ^ 16 ≡ bit_and cr3 (known_bits cr3_flags)
flags_small cr3 = omega (arith, flags_are, and_le_r cr3 (known_bits cr3_flags))

pub returns-clause-reloaded : goal.returns-clause-reloaded
returns-clause-reloaded c = rw (c.write.ensures, c.read-frame.ensures.0, c.read-frame.ensures.1, flags_small c.args.cpu.now.cr3) refl
