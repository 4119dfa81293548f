-- What a paged system gives back.
use Rattle.std.specs.Prelude.{◌≡◌, ℕ, ◌+◌, ◌-◌, ◌/◌, ◌%◌, ◌<◌, ◌≤◌}
use Rattle.heap_memory.specs.Runs.{IsRun}
use Rattle.machine_model.specs.Machine.{Paged}
use Rattle.mapped_regions.specs.Mapped.{IsMapped, AreGone}
use Rattle.mapped_regions.specs.FrameUse.{AreFramesFree}
use Rattle.paged_systems.specs.Words.{grants_of}

-- What is after the first `left` bytes of a run was given back, in whole pages; if that is nothing, the system is as it
-- was. Its tables, frames and regions go together as ever. The frames of a whole run are free.
pub record IsReleasedFor (old new : Paged) (at size left : ℕ) : Type 0 where
  pub run : IsRun (grants_of old) at (at + size)
  pub within : left ≤ size
  pub in_pages : left % 4096 ≡ 0
  pub gone : left < size → AreGone old new (at + left) ((size - left) / 4096)
  pub none : left ≡ size → new ≡ old
  pub mapped : IsMapped new
  pub frames : left ≡ 0 → AreFramesFree old new at (size / 4096)
