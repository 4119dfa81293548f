-- Bytes of a live block are written or seen: the machine stands for the state in which they are known.
use Rattle.std.proofs.Common.{sym, ◌≡◌, ℕ, ◌+◌, ◌≤◌, List, length, ap, ◌∙◌, Some}
use Rattle.paging_core.specs.Walk.{reached}
use Rattle.machine_model.specs.State.{State, Block, block_at}
use Rattle.machine_model.specs.Memory.{IsPut}
use Rattle.machine_model.specs.Answer.{with_block, known_block}
use Rattle.machine_model.specs.Machine.{Paged, OnlyHeapBytesChange, Seen, Stands}
use Rattle.machine_model.specs.Run.{IsGood}
use Rattle.machine_model.proofs.Known.{holds_known, known, outline_known}
use Rattle.machine_model.proofs.Moved.{stands_moved}

-- the machine stands for the state, once the bytes of a live block have been put
pub stands_written : (m : Seen) (s : State) (new : Paged) (number offset : ℕ) (bytes : List ℕ) (block : Block) → IsGood s → Stands m s →
    block_at s.blocks number ≡ Some block → offset + length bytes ≤ block.size → OnlyHeapBytesChange m.paged new →
    IsPut s.heap (reached m.paged.words m.paged.root) (reached new.words m.paged.root) (block.address + offset) bytes →
    Stands (record m { paged = new }) (known s number offset bytes)
stands_written m s new number offset bytes block good stands is inside still put =
    let root : new.root ≡ m.paged.root = ap (λ p. p.root) still.others in
    let holds = holds_known s (reached m.paged.words m.paged.root) (reached new.words m.paged.root) number offset bytes block good is inside put stands.bytes in
    stands_moved m s new m.blocks (with_block s.blocks number (known_block offset bytes)) good stands still
    (stands.blocks ∙ sym (outline_known s.blocks number offset bytes))
    (record { known = λ i k byte it at cell. ap (λ r. reached new.words r (it.address + k)) root ∙ holds.known i k byte it at cell })
