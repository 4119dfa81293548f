-- What a processor's settings change of its entries (AMD64 volume 2, sections 5.3 and 5.4 for the entries, 5.6 for what they
-- grant).
use Rattle.std.specs.Prelude.{ℕ, ◌-◌, ◌*◌, ◌/◌, ◌%◌, ◌^◌, Bool, true, false, not, ◌==◌, ◌&&◌, ◌||◌, if◌then◌else◌}
use Rattle.paging_core.specs.Entry.{has_bit}
use Rattle.paging_core.specs.Plain.{maps_page}
use Rattle.paging_core.specs.ProcessorWalk.{has_reserved}
use Rattle.guest_walk.specs.declared.mode.Mode.{Mode}

-- the mode of a processor with no-execute and write protection, as `processor_walk` and `permits` have it
abbrev pub usual : Mode
usual = record {
  write_protect = true;
  no_execute = true;
  smep = false;
  smap = false;
  alignment_check = false;
  ignores_bit_8 = false;
}

-- An entry as the processor reads it. Where it ignores bit 8 in entries that map no page, it reads them as if the bit were
-- clear. That is global in the others.
abbrev pub entry_seen : Mode → ℕ → ℕ → ℕ
entry_seen mode step entry =
    if mode.ignores_bit_8 && (not (maps_page step entry) && has_bit entry 8) then entry - 2 ^ 8 else entry

-- An entry has a bit that is reserved: one that always is, or bit 63 where no-execute is off ("Page-Translation-Table Entry
-- Fields", "No Execute (NX) Bit").
abbrev pub has_reserved_in : Mode → ℕ → ℕ → ℕ → Bool
has_reserved_in mode width step entry = not mode.no_execute && has_bit entry 63 || has_reserved width step entry
