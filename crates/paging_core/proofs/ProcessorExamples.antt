-- A processor's walk of page 0 over four tables, in the frames 0 to 3, of which each has its first entry alone. QEMU's
-- processor was seen to take these walks so.
use Rattle.std.proofs.Common.{◌≡◌, ℕ, true, List, ◌∷◌, ◌++◌, replicate, refl, false}
use Rattle.paging_core.specs.ProcessorWalk.{Outcome, NotPresent, Reserved, AtPage, processor_walk}

abbrev table : ℕ → List ℕ
table entry = entry ∷ replicate 511 0

abbrev walk_by : ℕ → ℕ → ℕ → ℕ → Outcome
walk_by first second third fourth = processor_walk 40 (table first ++ (table second ++ (table third ++ table fourth))) 0 0

abbrev at : ℕ → Outcome
at frame = AtPage (record { frame = frame; write = true; user = true; fetch = true; through = false; uncached = false; global = false })

small_page : walk_by 0x1027 0x2027 0x3027 0x4067 ≡ at 4
unfolding processor_walk
small_page = refl

-- bit 12 of a page of 2 MiB is PAT, and no address bit; bit 8 makes it global
pat : walk_by 0x1007 0x2007 0x6013c7 0
    ≡ AtPage (record { frame = 0x600; write = true; user = true; fetch = true; through = false; uncached = false; global = true })
unfolding processor_walk
pat = refl

giant_page : walk_by 0x1007 0x40000087 0 0 ≡ at 0x40000
unfolding processor_walk
giant_page = refl

absent : walk_by 0x1007 0x2007 0x6000 0 ≡ NotPresent 2
unfolding processor_walk
absent = refl

bit_7_first : walk_by 0x1087 0x2007 0x3007 0x4067 ≡ Reserved 0
unfolding processor_walk
bit_7_first = refl

giant_misaligned : walk_by 0x1007 0x2087 0x3007 0x4067 ≡ Reserved 1
unfolding processor_walk
giant_misaligned = refl

large_misaligned : walk_by 0x1007 0x2007 0x602087 0 ≡ Reserved 2
unfolding processor_walk
large_misaligned = refl

-- an address bit beyond the width
too_wide : walk_by 0x1007 0x2007 0x3007 0x8000000004067 ≡ Reserved 3
unfolding processor_walk
too_wide = refl

-- bit 7 of the fourth entry is PAT
pat_last : walk_by 0x1007 0x2007 0x3007 0x40e7 ≡ at 4
unfolding processor_walk
pat_last = refl
