-- A new page takes nothing from one that was mapped.
use Rattle.std.proofs.Common.{◌≡◌, ℕ, ◌%◌, ◌^◌, Bool, List, Some, arith}
use Rattle.paging_core.specs.Large.{IsLargeAdded}
use Rattle.paging_core.specs.Walk.{Place, walk_of}
use Rattle.paging_core.specs.declared.page_table.PageBits.{PageBits}

pub stays_mapped : (old new : List ℕ) (free free' : List Bool) (root page frame : ℕ) (rights : PageBits) →
    IsLargeAdded old new free free' root page frame rights →
    (other : ℕ) (place : Place) → walk_of old root other ≡ Some place → walk_of new root other ≡ Some place
unfolding walk_of
stays_mapped old new free free' root page frame rights added other place is = added.stayed 4 (other % 2 ^ 36) place (omega arith) is
