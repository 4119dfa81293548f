-- The register STAR (AMD64 manual, volume 2, section 6.1.1).
use Rattle.std.specs.Prelude.{ℕ, ◌+◌, ◌*◌, ◌%◌, ◌^◌, not, ◌||◌, ◌==◌, nat_lt, if◌then◌else◌, Result, Ok, Err}
use Rattle.paging_core.specs.Field.{field_of}
use Rattle.x86_flags.specs.declared.segment_selector.SegmentSelector.{SegmentSelector}
use Rattle.x86_registers.specs.declared.model_specific.star.InvalidStarSegmentSelectors.{InvalidStarSegmentSelectors}
use Rattle.x86_registers.specs.declared.model_specific.star.InvalidStarSegmentSelectors.TheVariants.{SysretOffset, SyscallOffset, SysretPrivilegeLevel, SyscallPrivilegeLevel}

-- the field of SYSRET, bits 48 to 63
abbrev pub sysret_of : ℕ → ℕ
sysret_of star = field_of star 48 64

-- the field of SYSCALL, bits 32 to 47
abbrev pub syscall_of : ℕ → ℕ
syscall_of star = field_of star 32 48

-- both fields, and no other bit
abbrev pub star_word : ℕ → ℕ → ℕ
star_word sysret syscall = sysret * 2 ^ 48 + syscall * 2 ^ 32

-- the selectors that SYSRET to 64-bit code and SYSCALL load: the code and the stack of each
abbrev pub selectors_of : ℕ → SegmentSelector × SegmentSelector × SegmentSelector × SegmentSelector
selectors_of star = (
  record { 0 = sysret_of star + 16 },
  record { 0 = sysret_of star + 8 },
  record { 0 = syscall_of star },
  record { 0 = syscall_of star + 8 },
)

-- whether the register can hold these selectors, or the first rule that they break
abbrev pub star_verdict : ℕ → ℕ → ℕ → ℕ → Result (Unit {0}) InvalidStarSegmentSelectors
star_verdict cs_sysret ss_sysret cs_syscall ss_syscall =
    if nat_lt ss_sysret 8 || not (cs_sysret == ss_sysret + 8) then Err SysretOffset
    else if not (ss_syscall == cs_syscall + 8) then Err SyscallOffset
    else if not (ss_sysret % 4 == 3) then Err SysretPrivilegeLevel
    else if not (ss_syscall % 4 == 0) then Err SyscallPrivilegeLevel
    else Ok tt
