use Rattle.std.proofs.Common.{◌≡◌, ℕ, ◌+◌, ◌<◌, ◌≤◌, true, length}
use Rattle.paging_core.specs.Pool.{is_frame_free, free_count, IsOut}
use Rattle.paging_core.proofs.large.free_frames.Given as goal

abbrev pub invariant-loop-step : goal.invariant-loop-step
invariant-loop-step l = record {
  flags : length l.pool ≡ length l.fn.pool;
  given : (k : ℕ) → k < l.step → is_frame_free l.pool (l.first + k) ≡ true;
  kept : (f : ℕ) → ((k : ℕ) → k < l.step → f ≡ l.first + k → ⊥) → is_frame_free l.pool f ≡ is_frame_free l.fn.pool f;
  out : (k : ℕ) → l.step ≤ k → k < l.count → IsOut l.pool (l.first + k);
  count : free_count l.pool ≡ free_count l.fn.pool + l.step;
}
