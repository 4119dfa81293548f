-- Worked values: where a grant goes.
use Rattle.std.proofs.Common.{◌≡◌, ℕ, ◌+◌, List, [], ◌∷◌, refl, false, true}
use Rattle.heap_memory.specs.declared.grant.Grant.{Grant}
use Rattle.dlmalloc_chunks.specs.declared.extent.Extent.{Extent}
use Rattle.dlmalloc_chunks.specs.declared.extent.Kind.TheVariants.{Used, Free, Top, Record, Foot}
use Rattle.dlmalloc.specs.State.{HeapState, Segment}
use Rattle.dlmalloc.specs.Taken.{taken}
use Rattle.dlmalloc.specs.Granted.{granted, is_put_before}
use Rattle.dlmalloc.proofs.Extents.Lookup.{extent}

abbrev heap : List Segment → ℕ → ℕ → HeapState
heap segments victim trim_check = record { segments = segments; victim = victim; granularity = 4096; rate = 4095; countdown = 4095; trim_check = trim_check }

abbrev grant : ℕ → ℕ → Grant
grant base flags = record { base = base; size = 4096; flags = flags }

abbrev segment : ℕ → ℕ → List Extent → Segment
segment base flags extents = record { base = base; size = 4096; flags = flags; extents = extents }

-- a first block of 100 bytes, from a grant with these flags
abbrev first : ℕ → ℕ → HeapState
first base flags = heap (segment base flags (extent base 112 Used ∷ extent (base + 112) 3904 Top ∷ extent (base + 4016) 80 Foot ∷ []) ∷ []) 0 2097152

-- ---- after a gap: the grant is the new head, and what was the top is free, with a record after it

new_head : taken (granted (grant 0x20000 0) 3920 (first 0x10000 0)) (extent 0x20000 4016 Top) 3920 ≡
    heap (segment 0x20000 0 (extent 0x20000 3920 Used ∷ extent 0x20f50 96 Top ∷ extent 0x20fb0 80 Foot ∷ [])
    ∷ segment 0x10000 0 (extent 0x10000 112 Used ∷ extent 0x10070 3904 Free ∷ extent 0x10fb0 80 Record ∷ []) ∷ []) 0 2097152
new_head = refl

-- if the top has 16 bytes, they are part of the record
top_of_16 : granted (grant 0x20000 0) 32 (heap (segment 0x10000 0 (extent 0x10000 4000 Used ∷ extent 0x10fa0 16 Top ∷ extent 0x10fb0 80 Foot ∷ []) ∷ [])
    0 2097152) ≡ heap (segment 0x20000 0 (extent 0x20000 4016 Top ∷ extent 0x20fb0 80 Foot ∷ []) ∷ segment 0x10000 0
    (extent 0x10000 4000 Used ∷ extent 0x10fa0 96 Record ∷ []) ∷ []) 0 2097152
top_of_16 = refl

-- ---- before a segment: the chunk is cut from the grant, and the rest joins what stands after

before_a_block : granted (grant 0x1f000 0) 3920 (first 0x20000 0) ≡ heap ((record {
  base = 0x1f000;
  size = 8192;
  flags = 0;
  extents = extent 0x1f000 3920 Used ∷ extent 0x1ff50 176 Free ∷ extent 0x20000 112 Used ∷ extent 0x20070 3904 Top ∷ extent 0x20fb0 80 Foot ∷ [];
}) ∷ []) 0 2097152
before_a_block = refl

-- the trim check stays as it was; a first extent that is free is one with the rest, and stays the victim if it was
before_the_victim : granted (grant 0x1f000 0) 1024 (heap (segment 0x20000 0
    (extent 0x20000 112 Free ∷ extent 0x20070 32 Used ∷ extent 0x20090 3872 Top ∷ extent 0x20fb0 80 Foot ∷ []) ∷ []) 0x20000 5000) ≡ heap ((record {
      base = 0x1f000;
      size = 8192;
      flags = 0;
      extents = extent 0x1f000 1024 Used ∷ extent 0x1f400 3184 Free ∷ extent 0x20070 32 Used ∷ extent 0x20090 3872 Top ∷ extent 0x20fb0 80 Foot ∷ [];
    }) ∷ []) 0x1f400 5000
before_the_victim = refl

before_the_top : granted (grant 0x1f000 0) 1024 (heap (segment 0x20000 0 (extent 0x20000 4016 Top ∷ extent 0x20fb0 80 Foot ∷ []) ∷ []) 0 5000) ≡
    heap ((record {
      base = 0x1f000;
      size = 8192;
      flags = 0;
      extents = extent 0x1f000 1024 Used ∷ extent 0x1f400 7088
          Top ∷ extent 0x20fb0 80 Foot ∷ [];
    }) ∷ []) 0 5000
before_the_top = refl

-- before a segment that is not the head
before_another : granted (grant 0xf000 0) 1024 (heap (segment 0x20000 0 (extent 0x20000 4016 Top ∷ extent 0x20fb0 80 Foot ∷ [])
    ∷ segment 0x10000 0 (extent 0x10000 112 Used ∷ extent 0x10070 3904 Free ∷ extent 0x10fb0 80 Record ∷ []) ∷ []) 0x10070 5000) ≡
    heap (segment 0x20000 0 (extent 0x20000 4016 Top ∷ extent 0x20fb0 80 Foot ∷ []) ∷ (record {
      base = 0xf000;
      size = 8192;
      flags = 0;
      extents = extent 0xf000 1024 Used ∷ extent 0xf400 3072 Free ∷ extent 0x10000 112 Used ∷ extent 0x10070 3904 Free ∷ extent 0x10fb0 80 Record ∷ [];
    }) ∷ []) 0x10070 5000
before_another = refl

-- between two segments the top grows
between : is_put_before (grant 0x11000 0) (segment 0x10000 0 (extent 0x10000 4016 Top ∷ extent 0x10fb0 80 Foot ∷ [])
    ∷ segment 0x12000 0 (extent 0x12000 4016 Free ∷ extent 0x12fb0 80 Record ∷ []) ∷ []) ≡ false
between = refl

-- ---- flags

-- an extern grant and an extern segment are never one
extern : granted (grant 0x11000 1) 32 (first 0x10000 1) ≡ heap (segment 0x11000 1 (extent 0x11000 4016 Top ∷ extent 0x11fb0 80 Foot ∷ []) ∷ segment
    0x10000 1 (extent 0x10000 112 Used ∷ extent 0x10070 3904 Free ∷ extent 0x10fb0 80 Record ∷ []) ∷ []) 0 2097152
extern = refl

-- others are if all of their flags are equal
equal_flags : granted (grant 0x11000 2) 32 (first 0x10000 2) ≡
    heap ((record {
      base = 0x10000;
      size = 8192;
      flags = 2;
      extents = extent 0x10000 112 Used ∷ extent 0x10070 8000
          Top ∷ extent 0x11fb0 80 Foot ∷ [];
    }) ∷ []) 0 2097152
equal_flags = refl

other_flags : granted (grant 0x11000 6) 32 (first 0x10000 2) ≡ heap (segment 0x11000 6 (extent 0x11000 4016 Top ∷ extent 0x11fb0 80 Foot ∷ []) ∷ segment
    0x10000 2 (extent 0x10000 112 Used ∷ extent 0x10070 3904 Free ∷ extent 0x10fb0 80 Record ∷ []) ∷ []) 0 2097152
other_flags = refl

other_flags_before : is_put_before (grant 0x1f000 6) (segment 0x20000 2 (extent 0x20000 4016 Top ∷ extent 0x20fb0 80 Foot ∷ []) ∷ []) ≡ false
other_flags_before = refl

equal_flags_before : is_put_before (grant 0x1f000 2) (segment 0x20000 2 (extent 0x20000 4016 Top ∷ extent 0x20fb0 80 Foot ∷ []) ∷ []) ≡ true
equal_flags_before = refl
