-- A processor's walk, one step after the other, by the entries that the code reads.
use Rattle.std.proofs.Common.{◌≡◌, ℕ, zero, suc, ◌+◌, ◌%◌, ◌<◌, List, refl, arith}
use Rattle.paging_core.specs.Memory.{word_at}
use Rattle.paging_core.specs.Prefix.{prefix_of}
use Rattle.paging_core.specs.Walk.{Place, top}
use Rattle.paging_core.specs.ProcessorWalk.{Outcome, index_of, by_entry, processor_walk, IsInTime}
use Rattle.paging_core.specs.declared.processor_walk.Next.{Next}
use Rattle.paging_core.specs.declared.processor_walk.Next.TheVariants.{Table, End}

pub in_time : (step : ℕ) (next : Next) → step < 3 → IsInTime step next
in_time step (Table to) before = before
in_time step (End end) before = tt

-- the walk from the table of a step on
abbrev pub from_table : ℕ → List ℕ → ℕ → ℕ → Place → Outcome
from_table width words page step at = by_entry width words page step at (word_at words at.frame (index_of step page))

pub from_root : (width : ℕ) (words : List ℕ) (root page : ℕ) → processor_walk width words root page ≡ from_table width words page 0 (top root)
unfolding processor_walk
from_root width words root page = refl

-- the index by the prefixes of the page
pub index_is : (step page : ℕ) → step < 4 → prefix_of page (step + 1) % 512 ≡ index_of step page
index_is zero page lt = omega arith
index_is (suc zero) page lt = omega arith
index_is (suc (suc zero)) page lt = omega arith
index_is (suc (suc (suc zero))) page lt = omega arith
index_is (suc (suc (suc (suc more)))) page lt = absurd (omega arith)
