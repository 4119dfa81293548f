-- Flat words beside a paged system (own).
use Rattle.std.specs.Prelude.{◌≡◌, ℕ}
use Rattle.std.proofs.Props.{props}
use Rattle.heap_memory.specs.Regions.{IsWordOf}
use Rattle.machine_model.specs.Machine.{Paged}
use Rattle.mapped_regions.specs.Mapped.{word_reached}
use Rattle.paged_systems.specs.declared.flat_window.FlatWindow.{FlatWindow}
use Rattle.paged_systems.specs.FlatWindow.{IsCovered, flat_word}
use Rattle.paged_systems.specs.Words.{grants_of}

-- The flat words begin with the window. At every granted place there is one, and it is the word that the walk reaches.
pub record IsTwin (p : Paged) (flat : FlatWindow) : Type 0 where
  pub base : flat.base ≡ p.base
  pub covered : (at : ℕ) → IsWordOf (grants_of p) at → IsCovered flat at
  pub equal : (at : ℕ) → IsWordOf (grants_of p) at → flat_word flat at ≡ word_reached p at

pub IsTwin-prop : (p : Paged) (flat : FlatWindow) → IsProp (IsTwin p flat)
IsTwin-prop p flat = hlevel props
