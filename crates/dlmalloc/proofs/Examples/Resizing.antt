-- Worked values: resizing in place, and blocks at alignments, computed on small heaps.
use Rattle.std.proofs.Common.{◌≡◌, [], ◌∷◌, refl, Some, None}
use Rattle.dlmalloc_chunks.specs.declared.extent.Kind.TheVariants.{Used, Free, Top}
use Rattle.dlmalloc.specs.State.{HeapState}
use Rattle.dlmalloc.specs.Choice.{OfBins, chosen}
use Rattle.dlmalloc.specs.Taken.{taken}
use Rattle.dlmalloc.specs.Freed.{freed}
use Rattle.dlmalloc.specs.Resized.{in_place}
use Rattle.dlmalloc.specs.Aligned.{aligned_place, aligned}
use Rattle.dlmalloc.proofs.Extents.Lookup.{extent as run}
use Rattle.dlmalloc.proofs.Examples.Definitions.{heap, foot}

-- ---- a block that keeps its place

-- a size that the chunk has
stays : in_place (heap (run 0x400000 32 Used ∷ run 0x400020 65424 Top ∷ foot ∷ []) 0) 0x400000 32 ≡ Some
    (heap (run 0x400000 32 Used ∷ run 0x400020 65424 Top ∷ foot ∷ []) 0)
stays = refl

-- the top follows, and keeps the rest
into-top : in_place (heap (run 0x400000 32 Used ∷ run 0x400020 65424 Top ∷ foot ∷ []) 0) 0x400000 112 ≡ Some
    (heap (run 0x400000 112 Used ∷ run 0x400070 65344 Top ∷ foot ∷ []) 0)
into-top = refl

-- of which 16 bytes are enough, and which is never used up
top-keeps-16 : in_place (heap (run 0x400000 32 Used ∷ run 0x400020 65424 Top ∷ foot ∷ []) 0) 0x400000 65440 ≡ Some
    (heap (run 0x400000 65440 Used ∷ run 0x40ffa0 16 Top ∷ foot ∷ []) 0)
top-keeps-16 = refl

top-is-not-used-up : in_place (heap (run 0x400000 32 Used ∷ run 0x400020 65424 Top ∷ foot ∷ []) 0) 0x400000 65456 ≡ None
top-is-not-used-up = refl

-- another block follows
no-room : in_place (heap (run 0x400000 112 Used ∷ run 0x400070 32 Used ∷ run 0x400090 65312 Top ∷ foot ∷ []) 0) 0x400000 208 ≡ None
no-room = refl

-- no block begins there
no-block : in_place (heap (run 0x400000 65456 Top ∷ foot ∷ []) 0) 0x400010 32 ≡ None
no-block = refl

-- a rest of 32 bytes is freed, and joins the top
rest-of-32 : in_place (heap (run 0x400000 144 Used ∷ run 0x400090 65312 Top ∷ foot ∷ []) 0) 0x400000 112 ≡ Some
    (heap (run 0x400000 112 Used ∷ run 0x400070 65344 Top ∷ foot ∷ []) 0)
rest-of-32 = refl

-- one of 16 stays with the block
rest-of-16 : in_place (heap (run 0x400000 128 Used ∷ run 0x400080 65328 Top ∷ foot ∷ []) 0) 0x400000 112 ≡ Some
    (heap (run 0x400000 128 Used ∷ run 0x400080 65328 Top ∷ foot ∷ []) 0)
rest-of-16 = refl

-- ---- a binned chunk follows

abbrev beside-bin : HeapState
beside-bin = heap (run 0x400000 112 Used ∷ run 0x400070 112 Free ∷ run 0x4000e0 32 Used ∷ run 0x400100 65200 Top ∷ foot ∷ []) 0

-- its rest of 64 bytes is in a bin, and no victim
into-bin : in_place beside-bin 0x400000 160 ≡ Some (heap (run 0x400000 160 Used ∷ run 0x4000a0 64 Free ∷ run 0x4000e0 32
    Used ∷ run 0x400100 65200 Top ∷ foot ∷ []) 0)
into-bin = refl

into-bin-whole : in_place beside-bin 0x400000 208 ≡ Some (heap (run 0x400000 224 Used ∷ run 0x4000e0 32 Used ∷ run 0x400100 65200 Top ∷ foot ∷ []) 0)
into-bin-whole = refl

into-bin-all : in_place beside-bin 0x400000 224 ≡ Some (heap (run 0x400000 224 Used ∷ run 0x4000e0 32 Used ∷ run 0x400100 65200 Top ∷ foot ∷ []) 0)
into-bin-all = refl

bin-too-small : in_place beside-bin 0x400000 240 ≡ None
bin-too-small = refl

-- ---- the victim follows

abbrev beside-victim : HeapState
beside-victim = heap (run 0x400000 32 Used ∷ run 0x400020 976 Free ∷ run 0x4003f0 32 Used ∷ run 0x400410 64416 Top ∷ foot ∷ []) 0x400020

-- its rest is the victim
into-victim : in_place beside-victim 0x400000 512 ≡ Some (heap (run 0x400000 512 Used ∷ run 0x400200 496 Free ∷ run 0x4003f0
    32 Used ∷ run 0x400410 64416 Top ∷ foot ∷ []) 0x400200)
into-victim = refl

-- if a rest of 16 stays with the block, there is no victim any longer
into-victim-whole : in_place beside-victim 0x400000 992 ≡ Some (heap (run 0x400000 1008 Used ∷ run 0x4003f0 32 Used ∷ run 0x400410 64416 Top ∷ foot ∷ []) 0)
into-victim-whole = refl

-- a rest that is freed joins it
rest-joins-victim : in_place (heap (run 0x400000 512 Used ∷ run 0x400200 496 Free ∷ run 0x4003f0 32 Used ∷ run 0x400410
    64416 Top ∷ foot ∷ []) 0x400200) 0x400000 32 ≡ Some beside-victim
rest-joins-victim = refl

-- ---- alignments

-- 100 bytes at a multiple of 4096 are cut from 4240
abbrev cut-4240 : HeapState
cut-4240 = taken (heap (run 0x400000 65456 Top ∷ foot ∷ []) 0) (run 0x400000 65456 Top) 4240

-- what is before them is freed, and the 48 bytes after them
at-4096 : aligned cut-4240 0x400000 4096 112 ≡ heap (run 0x400000 4080 Free ∷ run 0x400ff0 112 Used ∷ run 0x401060 61264 Top ∷ foot ∷ []) 0
at-4096 = refl

-- a block of 4072 bytes fits before them
then-4072 : chosen (heap (run 0x400000 4080 Free ∷ run 0x400ff0 112 Used ∷ run 0x401060 61264 Top ∷ foot ∷ []) 0) 4080 ≡ Some (OfBins 4080)
then-4072 = refl

-- another size at the same alignment: a block of 50 bytes is cut from 4192, and then the first is freed
moved-at-4096 : freed (aligned (taken (heap (run 0x400000 4080 Free ∷ run 0x400ff0 112 Used ∷ run 0x401060 61264 Top ∷ foot ∷ []) 0) (run 0x401060 61264
    Top) 4192) 0x401060 4096 64) 0x400ff0 ≡ heap (run 0x400000 8176 Free ∷ run 0x401ff0 64 Used ∷ run 0x402030 57216 Top ∷ foot ∷ []) 0
moved-at-4096 = refl

-- if it need not be at that alignment, it stays
kept-in-place : in_place (heap (run 0x400000 4080 Free ∷ run 0x400ff0 112 Used ∷ run 0x401060 61264 Top ∷ foot ∷ []) 0) 0x400ff0 64
    ≡ Some (heap (run 0x400000 4080 Free ∷ run 0x400ff0 64 Used ∷ run 0x401030 61312 Top ∷ foot ∷ []) 0)
kept-in-place = refl

-- a chunk whose block is aligned already stays where it is
no-lead : aligned_place 0x400ff0 4096 ≡ 0x400ff0
no-lead = refl

-- a lead of 48 bytes is freed; with one of 32 the block moves on to the next aligned place
lead-of-48 : aligned_place 0x400fc0 4096 ≡ 0x400ff0
lead-of-48 = refl

lead-of-32 : aligned_place 0x400fd0 4096 ≡ 0x401ff0
lead-of-32 = refl

lead-of-16 : aligned_place 0x400fe0 32 ≡ 0x401010
lead-of-16 = refl

-- a tail of 32 bytes stays with the block, and one of 48 does not
tail-of-32 : aligned (heap (run 0x400000 32 Used ∷ run 0x400020 112 Used ∷ run 0x400090 32 Used ∷ run 0x4000b0 65280 Top ∷ foot ∷ []) 0) 0x400020 16
    80 ≡ heap (run 0x400000 32 Used ∷ run 0x400020 112 Used ∷ run 0x400090 32 Used ∷ run 0x4000b0 65280 Top ∷ foot ∷ []) 0
tail-of-32 = refl

tail-of-48 : aligned (heap (run 0x400000 32 Used ∷ run 0x400020 112 Used ∷ run 0x400090 32 Used ∷ run 0x4000b0 65280 Top ∷ foot ∷ []) 0) 0x400020 16
    64 ≡ heap (run 0x400000 32 Used ∷ run 0x400020 64 Used ∷ run 0x400060 48 Free ∷ run 0x400090 32 Used ∷ run 0x4000b0 65280 Top ∷ foot ∷ []) 0
tail-of-48 = refl
