-- All blocks that were handed out, by number.
use Rattle.std.specs.Prelude.{◌≡◌, ℕ, ◌<◌, ◌≤◌, List, Option, None, length}
use Rattle.machine_model.specs.declared.live.Live.{Live}
use Rattle.kernel_heap.specs.Numbered.{live_at}

-- the blocks by number, and how many can be numbered before memory is asked for
pub record BlocksByNumber : Type 0 where
  pub items : List (Option Live)
  pub capacity : ℕ

-- no block before a number is live
pub record HaveEnded (blocks : List (Option Live)) (first : ℕ) : Type 0 where
  pub within : first ≤ length blocks
  pub none : (number : ℕ) → number < first → live_at blocks number ≡ None
