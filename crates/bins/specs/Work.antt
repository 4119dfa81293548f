-- What a call takes that only loads and stores words: steps, and nothing of the system.
use Rattle.std.specs.Prelude.{◌≡◌, ℕ, ◌+◌, ◌≤◌}
use Rattle.heap_memory.specs.declared.links.Links.{Ghosts as Links}
use Rattle.heap_memory.specs.Asks.{AsksNothing}

-- this number of words was loaded or stored, and the system was asked for nothing
pub record TakesSteps {A : Type 0} (links : Links A) (count : ℕ) (old : A) (before : ℕ) (new : A) (after : ℕ) : Type 0 where
  pub asks : AsksNothing links old new
  pub open asks use *
  pub counted : after ≡ before + count

-- at most this number of words was loaded or stored, and the system was asked for nothing
pub record TakesAtMost {A : Type 0} (links : Links A) (count : ℕ) (old : A) (before : ℕ) (new : A) (after : ℕ) : Type 0 where
  pub asks : AsksNothing links old new
  pub open asks use *
  pub counted : after ≤ before + count
