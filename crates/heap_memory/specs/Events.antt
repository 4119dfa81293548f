-- What a system does besides loads and stores.
use Rattle.std.specs.Prelude.{ℕ}
use Rattle.heap_memory.specs.declared.grant.Grant.{Grant}
use Rattle.heap_memory.specs.declared.grant.GrantFault.{GrantFault}

-- what a system did for a heap
pub data Event : Type 0 where
  -- a request of this size was granted
  Granted : ℕ → Grant → Event
  -- a request of this size was refused with a fault
  Refused : ℕ → GrantFault → Event
  -- of a run of bytes of the old size from a place on, those after the new size were given back
  Released : ℕ → ℕ → ℕ → Event
