-- Worked values: lists of extents that tile segments, and lists that do not.
use Rattle.std.proofs.Common.{ℕ, [], ◌∷◌, rules, arith}
use Rattle.dlmalloc_chunks.specs.declared.extent.Extent.{Extent}
use Rattle.dlmalloc_chunks.specs.declared.extent.Kind.{Kind}
use Rattle.dlmalloc_chunks.specs.declared.extent.Kind.TheVariants.{Used, Free, Victim, Top, Record, Foot}
use Rattle.dlmalloc_chunks.specs.Tiling.{AreExtents}

abbrev extent : Kind → ℕ → ℕ → Extent
extent kind at size = record { at = at; size = size; kind = kind }

-- a segment with a victim
one_segment :
    AreExtents (extent Used 0x400000 32 ∷ extent Used 0x400020 32 ∷ extent Victim 0x400040 944 ∷ extent Used 0x4003f0 32
    ∷ extent Top 0x400410 64416 ∷ extent Foot 0x40ffb0 80 ∷ [])
one_segment = search rules

-- a segment that ends with a record, and the head segment right after it
two_segments :
    AreExtents (extent Used 0x400000 112 ∷ extent Free 0x400070 3904 ∷ extent Record 0x400fb0 80
    ∷ extent Used 0x401000 3920 ∷ extent Free 0x401f50 176 ∷ extent Used 0x402000 5008 ∷ extent Top 0x403390 3104
    ∷ extent Foot 0x403fb0 80 ∷ [])
two_segments = search rules

-- a heap that has been granted nothing
no_segment : AreExtents []
no_segment = search rules

-- two free ones touch
touching :
    AreExtents (extent Used 0x400000 32 ∷ extent Free 0x400020 32 ∷ extent Victim 0x400040 32 ∷ extent Used 0x400060 32
    ∷ extent Top 0x400080 3888 ∷ extent Foot 0x400fb0 80 ∷ []) → ⊥
touching h = grind (arith, h.segments)

-- the top touches a free one
touching_top : AreExtents (extent Used 0x400000 32 ∷ extent Free 0x400020 32 ∷ extent Top 0x400040 3952 ∷ extent Foot 0x400fb0 80 ∷ []) → ⊥
touching_top h = grind (arith, h.segments)

-- two victims
two_victims :
    AreExtents (extent Victim 0x400000 32 ∷ extent Used 0x400020 32 ∷ extent Victim 0x400040 32
    ∷ extent Used 0x400060 32 ∷ extent Top 0x400080 3888 ∷ extent Foot 0x400fb0 80 ∷ []) → ⊥
two_victims h = grind (arith, h.victims)

-- a top without a foot
no_foot : AreExtents (extent Used 0x400000 32 ∷ extent Top 0x400020 4064 ∷ []) → ⊥
no_foot h = grind (arith, h.feet)

-- a segment without a record, before another
no_record : AreExtents (extent Used 0x400000 4096 ∷ extent Used 0x402000 32 ∷ extent Top 0x402020 3984 ∷ extent Foot 0x402fb0 80 ∷ []) → ⊥
no_record h = grind (arith, h.segments)

-- bytes that no extent has
gap : AreExtents (extent Used 0x400000 32 ∷ extent Used 0x400040 32 ∷ extent Top 0x400060 3920 ∷ extent Foot 0x400fb0 80 ∷ []) → ⊥
gap h = grind (arith, h.segments)

-- a chunk of a size that no chunk has
odd_size : AreExtents (extent Used 0x400000 40 ∷ extent Top 0x400028 3976 ∷ extent Foot 0x400fb0 80 ∷ []) → ⊥
odd_size h = grind (arith, h.sizes)
