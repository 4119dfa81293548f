-- What contracts see of a twin system.
use Rattle.std.specs.Prelude.{◌≡◌, ℕ, ◌+◌, ◌%◌, ◌<◌, ◌≤◌, []}
use Rattle.heap_memory.specs.declared.grant.Grant.{Grant}
use Rattle.heap_memory.specs.Regions.{IsWordOf}
use Rattle.heap_memory.specs.Words.{IsStored, AreWordsOf, AreFilled, AreCopied}
use Rattle.machine_model.specs.Machine.{Paged}
use Rattle.mapped_regions.specs.Mapped.{word_reached}
use Rattle.paged_systems.specs.FlatWindow.{flat_word}
use Rattle.paged_systems.specs.Follows.{Follows}
use Rattle.paged_systems.specs.System.{paged}
use Rattle.paged_systems.specs.Words.{grants_of}
use Rattle.paged_systems.specs.Written.{AreCopyable}
use Rattle.paged_systems.specs.declared.twin_system.TwinSystem.{TwinSystem}

-- the paged system in it
abbrev pub paged_of : TwinSystem → Paged
paged_of system = paged system.mapped

-- a word of the regions stands at an address, or `count` of them from there on, or from each of two places that are apart
abbrev pub IsWordIn : TwinSystem → ℕ → Type 0
IsWordIn system at = IsWordOf (grants_of (paged_of system)) at

-- so many words lie in the regions, from an address on
abbrev pub AreWordsIn : TwinSystem → ℕ → ℕ → Type 0
AreWordsIn system at count = AreWordsOf (grants_of (paged_of system)) at count

-- so many words can be copied from one address to another
abbrev pub AreCopyableIn : TwinSystem → ℕ → ℕ → ℕ → Type 0
AreCopyableIn system from to count = AreCopyable (grants_of (paged_of system)) from to count

-- the word there is this one, in both
pub record IsWordOfBoth (system : TwinSystem) (at word : ℕ) : Type 0 where
  pub reached : word ≡ word_reached (paged_of system) at
  pub flat : word ≡ flat_word system.flat at

-- the flat words of a grant are zero
abbrev pub IsFlatCleared : TwinSystem → Grant → Type 0
IsFlatCleared system grant = (at : ℕ) → grant.base ≤ at → at < grant.base + grant.size → at % 8 ≡ 0 → flat_word system.flat at ≡ 0

-- A word was put into both, and nothing else was changed.
pub record IsStoredInBoth (old new : TwinSystem) (at value : ℕ) : Type 0 where
  pub regions : grants_of (paged_of new) ≡ grants_of (paged_of old)
  pub follows : Follows (paged_of old) [] (paged_of new)
  pub stored : IsStored (grants_of (paged_of old)) (word_reached (paged_of old)) at value (word_reached (paged_of new))
  pub flat : IsStored (grants_of (paged_of old)) (flat_word old.flat) at value (flat_word new.flat)

-- The same word was put at each of `count` places, into both, and nothing else was changed.
pub record AreFilledInBoth (old new : TwinSystem) (at count value : ℕ) : Type 0 where
  pub regions : grants_of (paged_of new) ≡ grants_of (paged_of old)
  pub follows : Follows (paged_of old) [] (paged_of new)
  pub filled : AreFilled (grants_of (paged_of old)) (word_reached (paged_of old)) at count value (word_reached (paged_of new))
  pub flat : AreFilled (grants_of (paged_of old)) (flat_word old.flat) at count value (flat_word new.flat)

-- `count` words were copied in both, and nothing else was changed.
pub record AreCopiedInBoth (old new : TwinSystem) (from to count : ℕ) : Type 0 where
  pub regions : grants_of (paged_of new) ≡ grants_of (paged_of old)
  pub follows : Follows (paged_of old) [] (paged_of new)
  pub copied : AreCopied (grants_of (paged_of old)) (word_reached (paged_of old)) from to count (word_reached (paged_of new))
  pub flat : AreCopied (grants_of (paged_of old)) (flat_word old.flat) from to count (flat_word new.flat)
