-- The words in which a heap describes its extents.
use Rattle.std.specs.Prelude.{◌≡◌, ℕ, ◌+◌, ◌<◌, ◌≤◌, ◌⊎◌, List, Some, IsTrue}
use Rattle.heap_memory.specs.declared.grant.Grant.{Grant}
use Rattle.heap_memory.specs.Regions.{IsWordOf}
use Rattle.dlmalloc_chunks.specs.declared.extent.Extent.{Extent}
use Rattle.dlmalloc_chunks.specs.declared.extent.Kind.TheVariants.{Record}
use Rattle.dlmalloc.specs.Extents.{extent_at}
use Rattle.dlmalloc.specs.State.{HeapState, extents_in, is_free_below_top}
use Rattle.dlmalloc.specs.FreeExtents.{IsFreeAt}

-- A word at a boundary of an extent: its head; or the word after it, if it is free and not the top, since its size
-- stands there (dlmalloc: `head` and `prev_foot`).
pub record IsBoundary (heap : HeapState) (k : ℕ) : Type 0 where
  pub extent : Extent
  pub there : extent_at extent.at (extents_in heap) ≡ Some extent
  pub is : (k ≡ extent.at + 8) ⊎ (IsTrue (is_free_below_top extent.kind) × (k ≡ extent.at + extent.size))

-- Each granted word stays, unless it stands at a boundary of the heap: nothing is written into blocks, into free extents or
-- into the top.
abbrev pub OnlyBoundariesChange : List Grant → HeapState → (ℕ → ℕ) → (ℕ → ℕ) → Type 0
OnlyBoundariesChange regions heap old new = (k : ℕ) → IsWordOf regions k → (IsBoundary heap k → ⊥) → new k ≡ old k

-- a word of a free extent other than the top, at least 16 bytes after its beginning: links may stand there
pub record IsInFree (heap : HeapState) (k : ℕ) : Type 0 where
  pub at : ℕ
  pub size : ℕ
  pub free : IsFreeAt heap at size
  pub low : at + 16 ≤ k
  pub high : k < at + size

-- a word that the heap may write for itself: at a boundary, or in a free extent
abbrev pub IsOwn : HeapState → ℕ → Type 0
IsOwn heap k = IsBoundary heap k ⊎ IsInFree heap k

-- Each granted word that was in no free extent before stays, unless it is the heap's own afterwards: nothing is written
-- into blocks, or into the top.
abbrev pub OnlyOwnChange : List Grant → (before after : HeapState) → (ℕ → ℕ) → (ℕ → ℕ) → Type 0
OnlyOwnChange regions before after old new = (k : ℕ) → IsWordOf regions k → (IsInFree before k → ⊥) → (IsOwn after k → ⊥) → new k ≡ old k

-- a word of a record, after its first, which is that of the extent before it
pub record IsInRecord (heap : HeapState) (k : ℕ) : Type 0 where
  pub extent : Extent
  pub there : extent_at extent.at (extents_in heap) ≡ Some extent
  pub is : extent.kind ≡ Record
  pub low : extent.at < k
  pub high : k < extent.at + extent.size

-- If segments are described anew, words of records may change too.
abbrev pub OnlyTagsChange : List Grant → HeapState → (ℕ → ℕ) → (ℕ → ℕ) → Type 0
OnlyTagsChange regions heap old new = (k : ℕ) → IsWordOf regions k → (IsBoundary heap k → ⊥) → (IsInRecord heap k → ⊥) → new k ≡ old k

-- the same together with own words
abbrev pub OnlyOwnOrTagsChange : List Grant → (before after : HeapState) → (ℕ → ℕ) → (ℕ → ℕ) → Type 0
OnlyOwnOrTagsChange regions before after old new = (k : ℕ) → IsWordOf regions k → (IsInFree before k → ⊥) → (IsOwn after k → ⊥) → (IsInRecord after k → ⊥) → new k ≡ old k

-- Each word that a call was granted is 0, unless it is the heap's own.
abbrev pub NewWordsAreZero : List Grant → List Grant → HeapState → (ℕ → ℕ) → Type 0
NewWordsAreZero old new heap words = (k : ℕ) → IsWordOf new k → (IsWordOf old k → ⊥) → (IsOwn heap k → ⊥) → words k ≡ 0
