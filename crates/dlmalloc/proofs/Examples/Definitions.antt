-- Worked values: the definitions computed on small heaps.
use Rattle.std.proofs.Common.{◌≡◌, ℕ, List, [], ◌∷◌, refl, Some, None}
use Rattle.dlmalloc_chunks.specs.declared.extent.Extent.{Extent}
use Rattle.dlmalloc_chunks.specs.declared.extent.Kind.TheVariants.{Used, Free, Top, Foot}
use Rattle.dlmalloc.specs.State.{HeapState, new_heap}
use Rattle.dlmalloc.specs.Choice.{OfBins, TheVictim, TheTop, chosen}
use Rattle.dlmalloc.specs.Taken.{taken}
use Rattle.dlmalloc.specs.Freed.{freed}
use Rattle.dlmalloc.specs.Granted.{granted}
use Rattle.dlmalloc.proofs.Extents.Lookup.{extent as run}

-- a heap of one segment of 65536 bytes from 0x400000 on, with these extents and this victim
abbrev pub heap : List Extent → ℕ → HeapState
heap extents victim = record new_heap
    { segments = (record { base = 0x400000; size = 65536; flags = 0; extents = extents }) ∷ []; victim = victim; countdown = 4095; trim_check = 2097152 }

abbrev pub foot : Extent
foot = run 0x40ffb0 80 Foot

-- ---- a grant, and blocks from the top

first-grant : granted (record { base = 0x400000; size = 65536; flags = 0 }) 32 new_heap ≡ heap (run 0x400000 65456 Top ∷ foot ∷ []) 0
first-grant = refl

from-top : taken (heap (run 0x400000 65456 Top ∷ foot ∷ []) 0) (run 0x400000 65456 Top) 32 ≡ heap (run 0x400000 32 Used ∷ run 0x400020 65424 Top ∷ foot ∷ []) 0
from-top = refl

-- the top serves what is less than it, and keeps a rest of 16
top-serves : chosen (heap (run 0x400000 65456 Top ∷ foot ∷ []) 0) 65440 ≡ Some TheTop
top-serves = refl

top-keeps-16 : taken (heap (run 0x400000 65456 Top ∷ foot ∷ []) 0) (run 0x400000 65456 Top) 65440 ≡ heap
    (run 0x400000 65440 Used ∷ run 0x40ffa0 16 Top ∷ foot ∷ []) 0
top-keeps-16 = refl

top-is-not-used-up : chosen (heap (run 0x400000 65456 Top ∷ foot ∷ []) 0) 65456 ≡ None
top-is-not-used-up = refl

-- a grant after the segment makes the top longer, and its foot moves
second-grant : granted (record { base = 0x410000; size = 65536; flags = 0 }) 32 (heap (run 0x400000 65440 Used ∷ run 0x40ffa0 16 Top ∷ foot ∷ []) 0) ≡
    record new_heap {
      segments = (record {
        base = 0x400000;
        size = 131072;
        flags = 0;
        extents =
            run 0x400000 65440 Used ∷ run 0x40ffa0 65552 Top ∷ run 0x41ffb0 80 Foot ∷ [];
      }) ∷ [];
      countdown = 4095;
      trim_check = 2097152;
    }
second-grant = refl

-- ---- the first block of three is freed, and serves two small ones

abbrev freed-first : HeapState
freed-first = heap (run 0x400000 1008 Free ∷ run 0x4003f0 32 Used ∷ run 0x400410 64416 Top ∷ foot ∷ []) 0

frees-first : freed (heap (run 0x400000 1008 Used ∷ run 0x4003f0 32 Used ∷ run 0x400410 64416 Top ∷ foot ∷ []) 0) 0x400000 ≡ freed-first
frees-first = refl

bins-serve : chosen freed-first 32 ≡ Some (OfBins 1008)
bins-serve = refl

-- below 256 bytes the rest of a binned extent is the victim
small-leaves-victim : taken freed-first (run 0x400000 1008 Free) 32 ≡
    heap (run 0x400000 32 Used ∷ run 0x400020 976 Free ∷ run 0x4003f0 32 Used ∷ run 0x400410 64416 Top ∷ foot ∷ []) 0x400020
small-leaves-victim = refl

-- from 256 bytes on it is binned
large-leaves-bin : taken freed-first (run 0x400000 1008 Free) 512 ≡
    heap (run 0x400000 512 Used ∷ run 0x400200 496 Free ∷ run 0x4003f0 32 Used ∷ run 0x400410 64416 Top ∷ foot ∷ []) 0
large-leaves-bin = refl

-- a rest of 16 stays with the block, and one of 32 is cut off
rest-of-16-stays : taken freed-first (run 0x400000 1008 Free) 992 ≡ heap (run 0x400000 1008 Used ∷ run 0x4003f0 32 Used ∷ run 0x400410 64416 Top ∷ foot ∷ []) 0
rest-of-16-stays = refl

rest-of-32-is-cut : taken freed-first (run 0x400000 1008 Free) 976 ≡
    heap (run 0x400000 976 Used ∷ run 0x4003d0 32 Free ∷ run 0x4003f0 32 Used ∷ run 0x400410 64416 Top ∷ foot ∷ []) 0
rest-of-32-is-cut = refl

-- ---- a victim of 976 bytes beside chunks of 208, 512 and 976 bytes in bins

abbrev bins : HeapState
bins = heap (run 0x400000 32 Used ∷ run 0x400020 976 Free ∷ run 0x4003f0 32 Used ∷ run 0x400410 208 Free ∷ run 0x4004e0 32 Used ∷ run 0x400500 512
    Free ∷ run 0x400700 32 Used ∷ run 0x400720 976 Free ∷ run 0x400af0 32 Used ∷ run 0x400b10 62624 Top ∷ foot ∷ []) 0x400020

-- a small request goes to a bin by an exact fit alone, and else to the victim
exact-fit : chosen bins 208 ≡ Some (OfBins 208)
exact-fit = refl

victim-before-bins : chosen bins 192 ≡ Some TheVictim
victim-before-bins = refl

-- a large one goes to the smaller of the two, and to the victim if they are equal
smaller-bin : chosen bins 496 ≡ Some (OfBins 512)
smaller-bin = refl

tie : chosen bins 528 ≡ Some TheVictim
tie = refl

then-top : chosen bins 992 ≡ Some TheTop
then-top = refl

-- the rest of the victim is the victim, and if it is used up there is none
victim-stays : taken bins (run 0x400020 976 Free) 192 ≡ heap (run 0x400000 32 Used ∷ run 0x400020 192 Used ∷ run 0x4000e0 784 Free ∷ run 0x4003f0 32
    Used ∷ run 0x400410 208 Free ∷ run 0x4004e0 32 Used ∷ run 0x400500 512 Free ∷ run 0x400700 32 Used ∷ run 0x400720 976 Free ∷ run 0x400af0 32
    Used ∷ run 0x400b10 62624 Top ∷ foot ∷ []) 0x4000e0
victim-stays = refl

victim-is-used-up : taken bins (run 0x400020 976 Free) 976 ≡ heap
    (run 0x400000 32 Used ∷ run 0x400020 976 Used ∷ run 0x4003f0 32 Used ∷ run 0x400410 208 Free ∷ run 0x4004e0 32 Used ∷ run 0x400500 512
    Free ∷ run 0x400700 32 Used ∷ run 0x400720 976 Free ∷ run 0x400af0 32 Used ∷ run 0x400b10 62624 Top ∷ foot ∷ []) 0
victim-is-used-up = refl

-- ---- what a freed block joins

-- the victim before it stays the victim, and takes in the bin after it
joins-victim : freed bins 0x4003f0 ≡ heap (run 0x400000 32 Used ∷ run 0x400020 1216 Free ∷ run 0x4004e0 32 Used ∷ run 0x400500 512 Free ∷ run 0x400700
    32 Used ∷ run 0x400720 976 Free ∷ run 0x400af0 32 Used ∷ run 0x400b10 62624 Top ∷ foot ∷ []) 0x400020
joins-victim = refl

-- the top if that follows
joins-top : freed bins 0x400af0 ≡ heap (run 0x400000 32 Used ∷ run 0x400020 976 Free ∷ run 0x4003f0 32 Used ∷ run 0x400410 208 Free ∷ run 0x4004e0 32
    Used ∷ run 0x400500 512 Free ∷ run 0x400700 32 Used ∷ run 0x400720 63632 Top ∷ foot ∷ []) 0x400020
joins-top = refl

-- a victim that becomes part of the top is none
victim-in-top : freed (heap (run 0x400000 976 Free ∷ run 0x4003d0 32 Used ∷ run 0x4003f0 64448 Top ∷ foot ∷ []) 0x400000)
    0x4003d0 ≡ heap (run 0x400000 65456 Top ∷ foot ∷ []) 0
victim-in-top = refl
