use Rattle.std.proofs.Common.{List, subst}
use Rattle.dlmalloc_chunks.specs.declared.extent.Extent.{Extent}
use Rattle.dlmalloc.specs.Listed.{IsListed}
use Rattle.machine_model.specs.State.{State}
use Rattle.machine_model.specs.Run.{IsGood}
use Rattle.machine_model.specs.Machine.{Stands}
use Rattle.machine_model.specs.Extents.{IsTiling}
use Rattle.kernel_heap.specs.Heap.{word}
use Rattle.kernel_heap.specs.Machine.{seen}
use Rattle.kernel_heap.specs.Parts.{Parts}
use Rattle.kernel_heap.proofs.Listed.{tiling}
use Rattle.kernel_heap.proofs.machine.Machine.law_extents_tile.Goals as goal

pub returns : goal.returns
returns c =
    let at : Parts = record { heap = c.self.inside.heap; cpu = c.self.inside.cpu } in
    subst (λ (parts : Parts). (s : State) → (list : List Extent) → IsGood s → Stands (seen parts) s → IsListed word parts.heap.heap list → IsTiling s list) c.self.view_is
    (λ s list good stands listed. tiling at.heap.heap c.law_intact.ensures.sound at.heap.blocks.items c.self.invariant s good stands list listed)
