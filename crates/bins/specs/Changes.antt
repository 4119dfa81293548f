-- How the bins change: a chunk goes into the index, or comes out of it.
use Rattle.std.specs.Prelude.{◌≡◌, ℕ, ◌≤◌, List}
use Rattle.heap_memory.specs.declared.links.Links.{Ghosts as Links}
use Rattle.heap_memory.specs.Asks.{AsksNothing}
use Rattle.bins.specs.declared.bins.Bins.{Bins}
use Rattle.bins.specs.Index.{IsIn, first_or, with_chunk, without_chunk}
use Rattle.bins.specs.Linked.{IsLinked, IsFreshChunk, OnlyLinksChange}

-- A fresh chunk was put into the index that was linked, as the newest of its size. Of the granted words only link words
-- changed, and the system was asked for nothing.
pub record IsInserted {A : Type 0} (links : Links A) (size chunk : ℕ)
    (before : Bins) (old : A) (after : Bins) (new : A) : Type 0 where
  pub linked : (index : ℕ → List ℕ) → IsLinked (links.regions old) (links.word old) before index → IsFreshChunk (links.regions old) (links.word old) index size chunk →
      IsLinked (links.regions new) (links.word new) after (with_chunk size chunk index)
  pub words : (index : ℕ → List ℕ) → IsLinked (links.regions old) (links.word old) before index → IsFreshChunk (links.regions old) (links.word old) index size chunk →
      OnlyLinksChange (links.regions old) index size chunk (links.word old) (links.word new)
  pub asks : AsksNothing links old new
  pub open asks use *

-- A chunk was taken out of the index that was linked, and no other. Of the granted words only link words changed, and the
-- system was asked for nothing.
pub record IsUnlinked {A : Type 0} (links : Links A) (size chunk : ℕ)
    (before : Bins) (old : A) (after : Bins) (new : A) : Type 0 where
  pub linked : (index : ℕ → List ℕ) → IsLinked (links.regions old) (links.word old) before index → IsIn chunk (index size) →
      IsLinked (links.regions new) (links.word new) after (without_chunk size chunk index)
  pub words : (index : ℕ → List ℕ) → IsLinked (links.regions old) (links.word old) before index → IsIn chunk (index size) →
      OnlyLinksChange (links.regions old) index size chunk (links.word old) (links.word new)
  pub asks : AsksNothing links old new
  pub open asks use *

-- The oldest chunk of a size of at least 256 was taken out of the index that was linked, and no other. Of the granted words
-- only link words changed, and the system was asked for nothing.
pub record IsNodeUnlinked {A : Type 0} (links : Links A) (chunk : ℕ) (before : Bins) (old : A) (after : Bins) (new : A) : Type 0 where
  pub linked : (index : ℕ → List ℕ) (size : ℕ) → 256 ≤ size → IsLinked (links.regions old) (links.word old) before index → IsIn chunk (index size) → chunk ≡ first_or 0 (index size) →
      IsLinked (links.regions new) (links.word new) after (without_chunk size chunk index)
  pub words : (index : ℕ → List ℕ) (size : ℕ) → 256 ≤ size → IsLinked (links.regions old) (links.word old) before index → IsIn chunk (index size) → chunk ≡ first_or 0 (index size) →
      OnlyLinksChange (links.regions old) index size chunk (links.word old) (links.word new)
  pub asks : AsksNothing links old new
  pub open asks use *
