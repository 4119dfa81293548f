-- Which processor states may be on together (AMD64 manual, volume 2, section 11.5.2).
use Rattle.std.specs.Prelude.{ℕ, ◌+◌, ◌^◌, Bool, not, ◌&&◌, ◌==◌, if◌then◌else◌, Result, Ok, Err}
use Rattle.std.specs.Int.RustNames.{bit_and}
use Rattle.x86_registers.specs.declared.xcontrol.InvalidXCr0.{InvalidXCr0}
use Rattle.x86_registers.specs.declared.xcontrol.InvalidXCr0.TheVariants.{X87, AvxWithoutSse, MpxApart, Avx512WithoutAvx, Avx512Apart}

-- the states that the rules are about: those of MPX are BNDREG and BNDCSR, and those of AVX-512 are OPMASK,
-- ZMM_HI256 and HI16_ZMM
abbrev pub x87 : ℕ
x87 = 2 ^ 0

abbrev pub sse : ℕ
sse = 2 ^ 1

abbrev pub avx : ℕ
avx = 2 ^ 2

abbrev pub mpx : ℕ
mpx = 2 ^ 3 + 2 ^ 4

abbrev pub avx512 : ℕ
avx512 = 2 ^ 5 + 2 ^ 6 + 2 ^ 7

-- one of `some` is on, and one of `needed` is not
abbrev pub is_lacking : ℕ → ℕ → ℕ → Bool
is_lacking flags some needed = not (bit_and flags some == 0) && not (bit_and flags needed == needed)

-- whether these states may be on together, or the first rule that they break
abbrev pub xcr0_verdict : ℕ → Result (Unit {0}) InvalidXCr0
xcr0_verdict flags =
    if not (bit_and flags x87 == x87) then Err X87
    else if is_lacking flags avx sse then Err AvxWithoutSse
    else if is_lacking flags mpx mpx then Err MpxApart
    else if is_lacking flags avx512 avx then Err Avx512WithoutAvx
    else if is_lacking flags avx512 avx512 then Err Avx512Apart
    else Ok tt
