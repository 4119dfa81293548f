-- Calls that ask the system for nothing.
use Rattle.std.specs.Prelude.{◌≡◌, ℕ, []}
use Rattle.heap_memory.specs.declared.links.Links.{Ghosts as Links}
use Rattle.heap_memory.specs.Words.{IsStored}

-- The system was asked for nothing: its regions stay, and no request or release came between.
pub record AsksNothing {A : Type 0} (links : Links A) (old new : A) : Type 0 where
  pub regions : links.regions new ≡ links.regions old
  pub follows : links.follows old [] new

-- A word was stored at a place, and nothing else was done: the other granted words are as they were, and the system was
-- asked for nothing.
pub record StoresWord {A : Type 0} (links : Links A) (at value : ℕ) (old new : A) : Type 0 where
  pub stored : IsStored (links.regions old) (links.word old) at value (links.word new)
  pub asks : AsksNothing links old new
  pub open asks use *
