-- Worked values: what a trim cuts.
use Rattle.std.proofs.Common.{◌≡◌, ℕ, List, [], ◌∷◌, refl, false, true}
use Rattle.dlmalloc_chunks.specs.declared.extent.Kind.TheVariants.{Used, Free, Top, Record, Foot}
use Rattle.dlmalloc.specs.State.{HeapState, Segment, new_heap}
use Rattle.dlmalloc.specs.Trimmed.{cut_of, is_cut, after_cut, given_up}
use Rattle.dlmalloc.proofs.Extents.Lookup.{extent}

abbrev heap : ℕ → List Segment → ℕ → HeapState
heap granularity segments trim_check = record {
  segments = segments;
  victim = 0;
  granularity = granularity;
  rate = 4095;
  countdown = 4095;
  trim_check = trim_check;
}

-- a head segment of five pages with these flags, all top, and one after it
abbrev five : ℕ → ℕ → HeapState
five flags trim_check = heap 4096 (
    (record { base = 0x20000; size = 20480; flags = flags; extents = extent 0x20000 20400 Top ∷ extent 0x24fb0 80 Foot ∷ [] })
    ∷ (record { base = 0x10000; size = 4096; flags = 0; extents = extent 0x10000 4016 Free ∷ extent 0x10fb0 80 Record ∷ [] }) ∷ []
    ) trim_check

-- four of them go, and the trim check begins anew
four_go : after_cut true 4096 0 (five 0 5000) ≡ heap 4096 (
    (record { base = 0x20000; size = 4096; flags = 0; extents = extent 0x20000 4016 Top ∷ extent 0x20fb0 80 Foot ∷ [] })
    ∷ (record { base = 0x10000; size = 4096; flags = 0; extents = extent 0x10000 4016 Free ∷ extent 0x10fb0 80 Record ∷ [] }) ∷ []
    ) 2097152
four_go = refl

-- of the top more than the pad and 80 bytes stay: 4016 are one more than these
just_four : cut_of (five 0 5000) 3935 ≡ 16384
just_four = refl

three : cut_of (five 0 5000) 3936 ≡ 12288
three = refl

none_left : cut_of (five 0 5000) 16304 ≡ 0
none_left = refl

pad_too_large : cut_of (five 0 5000) 20320 ≡ 0
pad_too_large = refl

no_bytes_are_no_cut : is_cut true 4096 16304 (five 0 5000) ≡ false
no_bytes_are_no_cut = refl

-- bit 0 of the flags says that a segment is extern, and no other does
extern : after_cut true 4096 0 (five 1 5000) ≡ five 1 5000
extern = refl

other_flags : is_cut true 4096 0 (five 6 5000) ≡ true
other_flags = refl

-- if the system takes no parts, or no such ones
whole_alone : after_cut false 4096 0 (five 0 5000) ≡ five 0 5000
whole_alone = refl

no_units : is_cut true 0 0 (five 0 5000) ≡ false
no_units = refl

-- the cut is made of granularities, and what is left has to be made of units: of the page of a small granularity 3888 bytes
-- would go
abbrev small : HeapState
small = heap 16 ((record {
  base = 0x10000;
  size = 4096;
  flags = 0;
  extents =
      extent 0x10000 32 Used ∷ extent 0x10020 3984 Top ∷ extent 0x10fb0 80 Foot ∷ [];
}) ∷ []) 5000

cut_in_units_of_16 : cut_of small 0 ≡ 3888
cut_in_units_of_16 = refl

no_page : is_cut true 4096 0 small ≡ false
no_page = refl

some_bytes : after_cut true 1 0 small ≡ heap 16 ((record {
  base = 0x10000;
  size = 208;
  flags = 0;
  extents =
      extent 0x10000 32 Used ∷ extent 0x10020 96 Top ∷ extent 0x10080 80 Foot ∷ [];
}) ∷ []) 2097152
some_bytes = refl

-- a heap without a segment has nothing to cut
empty : after_cut true 4096 0 new_heap ≡ new_heap
empty = refl

-- a top above the trim check gives up, and no other
gives_up : given_up (five 0 20399) ≡ five 0 18446744073709551615
gives_up = refl

goes_on : given_up (five 0 20400) ≡ five 0 20400
goes_on = refl
