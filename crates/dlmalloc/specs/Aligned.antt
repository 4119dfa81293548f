-- A block at a multiple of an alignment is cut from a chunk that has room for it (dlmalloc: `memalign`).
use Rattle.std.specs.Prelude.{◌≡◌, ◌≢◌, ℕ, ◌+◌, ◌-◌, ◌%◌, ◌==◌, nat_le, nat_lt, if◌then◌else◌, List, Some}
use Rattle.dlmalloc_chunks.specs.Request.{round_up}
use Rattle.dlmalloc_chunks.specs.declared.extent.Extent.{Extent}
use Rattle.dlmalloc_chunks.specs.declared.extent.Kind.TheVariants.{Used}
use Rattle.dlmalloc.specs.Extents.{extent_at}
use Rattle.dlmalloc.specs.State.{HeapState, extents_in, size_where}
use Rattle.dlmalloc.specs.Blocks.{KeepsBlocks}
use Rattle.dlmalloc.specs.Freed.{freed}
use Rattle.dlmalloc.specs.Resized.{exchanged, halves, tail_freed}

-- Where a chunk whose block is at a multiple of an alignment begins, in a chunk at an address: there, if that one's
-- block is at one; else before the first such place that leaves more than 32 bytes before it.
abbrev pub aligned_place : ℕ → ℕ → ℕ
aligned_place at align =
    if (at + 16) % align == 0 then at else
    if nat_le (round_up (at + 16) align) (at + 48) then round_up (at + 16) align + align - 16 else round_up (at + 16) align - 16

-- the bytes of the extent in use at an address before another are freed
abbrev pub lead_freed : HeapState → ℕ → ℕ → HeapState
lead_freed heap at place = if place == at then heap else freed (exchanged heap at (halves (place - at))) at

-- a rest of more than 32 bytes after n bytes of the extent at an address is freed
abbrev pub tail_cut : HeapState → ℕ → ℕ → HeapState
tail_cut heap at n = if nat_lt (n + 32) (size_where (λ extent. extent.at == at) (extents_in heap)) then tail_freed heap at n else heap

-- of the extent in use at an address, n bytes at the aligned place stay in use: what is before them is freed, and then
-- what is after them
abbrev pub aligned : HeapState → ℕ → ℕ → ℕ → HeapState
aligned heap at align n = tail_cut (lead_freed heap at (aligned_place at align)) (aligned_place at align) n

-- One extent in use gave way to one at another address, which had none. Every other extent in use is the same in both.
pub record HasOneMoved (old new : HeapState) (from to : ℕ) : Type 0 where
  pub kept : (used : Extent) → used.kind ≡ Used → used.at ≢ from → extent_at used.at (extents_in old) ≡ Some used → extent_at used.at (extents_in new) ≡ Some used
  pub only : (used : Extent) → used.kind ≡ Used → used.at ≢ to → extent_at used.at (extents_in new) ≡ Some used → extent_at used.at (extents_in old) ≡ Some used
  pub apart : (used : Extent) → used.kind ≡ Used → used.at ≢ from → extent_at used.at (extents_in old) ≡ Some used → used.at ≢ to
  pub gone : (used : Extent) → used.kind ≡ Used → used.at ≢ to → extent_at used.at (extents_in new) ≡ Some used → used.at ≢ from

-- the extents in use of a list are in use in a heap, and none of them is at an address
abbrev pub AreOthers : HeapState → ℕ → List Extent → Type 0
AreOthers heap at blocks = (used : Extent) → used.kind ≡ Used → extent_at used.at blocks ≡ Some used → (used.at ≢ at) × (extent_at used.at (extents_in heap) ≡ Some used)

-- the blocks of a heap keep their words, but for the one at an address
abbrev pub KeepsOthers : HeapState → ℕ → (ℕ → ℕ) → (ℕ → ℕ) → Type 0
KeepsOthers heap at old new = (blocks : List Extent) → AreOthers heap at blocks → KeepsBlocks blocks old new
