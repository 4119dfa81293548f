-- The words by which C says how the processor is set and what an access does. The names are those of limzhur_guest.h.
use Rattle.std.specs.Prelude.{ℕ, ◌/◌, ◌%◌, ◌^◌, Bool, ◌==◌, ◌&&◌, ◌||◌, if◌then◌else◌}
use Rattle.paging_core.specs.declared.processor_access.AccessKind.{AccessKind}
use Rattle.paging_core.specs.declared.processor_access.AccessKind.TheVariants.{Read, Write, Fetch}
use Rattle.paging_core.specs.Entry.{has_bit, frame_of}
use Rattle.guest_walk.specs.declared.mode.Mode.{Mode}

-- the mode: WP is bit 0, NXE 1, SMEP 2, SMAP 3, AC 4, IGNORES_BIT_8 5. No other bit counts.
abbrev pub mode_of : ℕ → Mode
mode_of flags = record {
  write_protect = has_bit flags 0;
  no_execute = has_bit flags 1;
  smep = has_bit flags 2;
  smap = has_bit flags 3;
  alignment_check = has_bit flags 4;
  ignores_bit_8 = has_bit flags 5;
}

-- what the access does: bit 1 is a write, and bit 4 a fetch if it is none. No other bit but 2 counts.
abbrev pub kind_of : ℕ → AccessKind
kind_of access = if has_bit access 1 then Write else if has_bit access 4 then Fetch else Read

-- whether the user does it: bit 2
abbrev pub by_user : ℕ → Bool
by_user access = has_bit access 2

-- the frame of the root table: bits 12 to 51 of CR3
abbrev pub root_of : ℕ → ℕ
root_of cr3 = frame_of cr3
