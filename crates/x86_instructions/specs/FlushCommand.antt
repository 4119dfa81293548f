-- Commands that make the processor forget translations (AMD64 manual, volume 2, section 5.5).
use Rattle.std.specs.Prelude.{ℕ}
use Rattle.std.specs.Int.RustNames.{bit_and}
use Rattle.bitflags.specs.Sets.{known_bits}
use Rattle.x86_flags.specs.Cr3Flags.{cr3_flags}
use Rattle.x86_registers.specs.Cr3.{cr3_word, root_of}
use Rattle.x86_instructions.specs.declared.tlb.FlushCommand.{FlushCommand}
use Rattle.x86_instructions.specs.declared.tlb.FlushCommand.TheVariants.{Invpcid}
use Rattle.x86_instructions.specs.declared.tlb.InvPcidCommand.{InvPcidCommand}
use Rattle.x86_instructions.specs.declared.tlb.InvPcidCommand.TheVariants.{Address, Single, All, AllExceptGlobal}

-- INVPCID with its type and its descriptor (AMD64 manual, volume 3, INVPCID)
abbrev pub invpcid_of : InvPcidCommand → FlushCommand
invpcid_of (Address address pcid) = Invpcid 0 pcid address
invpcid_of (Single pcid) = Invpcid 1 pcid 0
invpcid_of All = Invpcid 2 0 0
invpcid_of AllExceptGlobal = Invpcid 3 0 0

-- CR3 when it is written with the frame and the flags that it holds
abbrev pub reloaded : ℕ → ℕ
reloaded cr3 = cr3_word (root_of cr3) (bit_and cr3 (known_bits cr3_flags))
