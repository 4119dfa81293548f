-- What the extents of a heap say of it, in numbers.
use Rattle.std.specs.Prelude.{ℕ, ◌-◌, ◌*◌, ◌/◌, max, Bool, true, false, ◌==◌, if◌then◌else◌, List, [], ◌∷◌}
use Rattle.std.specs.List.{count_by, sum_by}
use Rattle.dlmalloc_chunks.specs.declared.extent.Extent.{Extent}
use Rattle.dlmalloc_chunks.specs.declared.extent.Kind.{Kind}
use Rattle.dlmalloc_chunks.specs.declared.extent.Kind.TheVariants.{Used as InUse, Free as Binned, Victim, Top, Record, Foot}
use Rattle.run_figures.specs.declared.counting.Part.{Part}
use Rattle.run_figures.specs.declared.counting.Part.TheVariants.{Used, Free, Overhead}

-- whether extents of a kind are in a part of the heap's memory
abbrev pub is_part : Part → Kind → Bool
is_part Used InUse = true
is_part Used Binned = false
is_part Used Victim = false
is_part Used Top = false
is_part Used Record = false
is_part Used Foot = false
is_part Free InUse = false
is_part Free Binned = true
is_part Free Victim = true
is_part Free Top = true
is_part Free Record = false
is_part Free Foot = false
is_part Overhead InUse = false
is_part Overhead Binned = false
is_part Overhead Victim = false
is_part Overhead Top = false
is_part Overhead Record = true
is_part Overhead Foot = true

-- how many extents the part has
abbrev pub part_count : Part → List Extent → ℕ
part_count part extents = count_by (λ extent. is_part part extent.kind) extents

-- and how many bytes
abbrev pub part_bytes : Part → List Extent → ℕ
part_bytes part extents = sum_by (λ extent. if is_part part extent.kind then extent.size else 0) extents

-- the greatest free extent's size; 0 where there is none
abbrev pub greatest_of : List Extent → ℕ
greatest_of [] = 0
greatest_of (extent ∷ extents) = max (if is_part Free extent.kind then extent.size else 0) (greatest_of extents)

-- of 1000 free bytes, how many are not in the greatest free extent, rounded down; 0 where there are none
abbrev pub permille_of : ℕ → ℕ → ℕ
permille_of free greatest = if free == 0 then 0 else 1000 * (free - greatest) / free
