-- Worked values: the definitions computed on short inputs.
use Rattle.std.proofs.Common.{◌≡◌, ◌^◌, ◌-◌, true, false, [], ◌∷◌, codes, refl, Some, None}
use Rattle.hex.specs.Hex.{encode_with}
use Rattle.std.specs.Fmt.{digits}
use Rattle.paging_core.specs.declared.processor_access.AccessKind.TheVariants.{Write as Writing, Fetch as Fetching}
use Rattle.machine_model.specs.declared.call.Call.TheVariants.{Malloc, Calloc, Write, Map, Probe, Reset}
use Rattle.call_lines.specs.CallLine.{call_line}
use Rattle.call_lines.specs.Number.{number_of}
use Rattle.call_lines.specs.Words.{words_of}

-- numbers

number-decimal : number_of (codes "0024") ≡ Some 24
number-decimal = refl

number-hexadecimal : number_of (codes "0xFfffFFFFFFFFffff") ≡ Some (2 ^ 64 - 1)
number-hexadecimal = refl

number-21_digits : number_of (codes "000000000000000000001") ≡ None
number-21_digits = refl

number-too_large : number_of (codes "18446744073709551616") ≡ None
number-too_large = refl

number-upper_x : number_of (codes "0X10") ≡ None
number-upper_x = refl

number-no_digit : number_of (codes "0x") ≡ None
number-no_digit = refl

-- words

words-two_spaces : words_of (codes "malloc  3") ≡ codes "malloc" ∷ [] ∷ codes "3" ∷ []
words-two_spaces = refl

-- lines of calls

line-malloc : call_line (Malloc 24 16) ≡ codes "malloc 24"
unfolding digits
line-malloc = refl

line-aligned : call_line (Calloc 24 4096) ≡ codes "calloc 24 4096"
unfolding digits
line-aligned = refl

line-bytes : call_line (Write 3 0 (255 ∷ 7 ∷ [])) ≡ codes "write 3 0 ff07"
unfolding digits encode_with
line-bytes = refl

line-map : call_line (Map 0x410000 2 (record { write = true; user = false; fetch = true })) ≡ codes "map 0x410000 2 rw-x"
unfolding digits
line-map = refl

line-probe : call_line (Probe 255 Writing true) ≡ codes "probe 0xff write user"
unfolding digits
line-probe = refl

line-kernel : call_line (Probe 0 Fetching false) ≡ codes "probe 0x0 fetch"
unfolding digits
line-kernel = refl

line-reset : call_line Reset ≡ codes "reset"
line-reset = refl
