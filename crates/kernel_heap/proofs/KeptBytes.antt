-- Of a block with another size fewer bytes that were held are kept too.
use Rattle.std.proofs.Common.{ℕ, ◌≤◌, true, arith}
use Rattle.dlmalloc.specs.Moved.{IsGivenSize}
use Rattle.dlmalloc.specs.declared.heap.Dlmalloc.{Dlmalloc}
use Rattle.kernel_heap.specs.Heap.{regions, word, follows}
use Rattle.paged_systems.specs.declared.paged_system.PagedSystem.{PagedSystem}

pub given_fewer : (heap new : Dlmalloc PagedSystem) (from held size align address fewer : ℕ) → fewer ≤ held →
    IsGivenSize regions word follows true true 4096 heap from held align size address new →
    IsGivenSize regions word follows true true 4096 heap from fewer align size address new
given_fewer heap new from held size align address fewer less out = record {
  middle = out.middle;
  found = out.found;
  between = out.between;
  still = out.still;
  here = out.here;
  elsewhere = out.elsewhere;
  granularity = out.granularity;
  small = out.small;
  low = out.low;
  block = out.block;
  multiple = out.multiple;
  aligned = out.aligned;
  granted = out.granted;
  moved = out.moved;
  kept = out.kept;
  contents = λ k few m. out.contents k (omega (arith, few, less)) m;
  sound = out.sound;
}
