-- Which free extent serves a request (dlmalloc: `malloc`).
use Rattle.std.specs.Prelude.{◌≡◌, ℕ, Bool, ◌&&◌, ◌||◌, ◌==◌, nat_le, nat_lt, min, if◌then◌else◌, List, [], ◌∷◌, map, filter, unwrap_or, option_map, Option, Some, None, IsTrue}
use Rattle.dlmalloc_chunks.specs.declared.extent.Extent.{Extent}
use Rattle.dlmalloc.specs.Extents.{extent_at}
use Rattle.dlmalloc.specs.State.{HeapState, extents_in, is_top, is_victim, is_binned, size_where}

-- what is chosen
pub data Choice : Type 0 where
  -- a binned extent of this size
  OfBins : ℕ → Choice
  TheVictim : Choice
  TheTop : Choice

-- the least of these sizes that is at least n
abbrev pub least_from : ℕ → List ℕ → Option ℕ
least_from n [] = None
least_from n (size ∷ sizes) =
    if nat_lt size n then least_from n sizes else Some (unwrap_or (option_map (min size) (least_from n sizes)) size)

-- the least size of a binned extent that is at least n
abbrev pub least_fit : HeapState → ℕ → Option ℕ
least_fit heap n = least_from n (map (λ extent. extent.size) (filter (is_binned heap) (extents_in heap)))

-- Whether a binned extent of a size goes before a victim of another: if the victim is too small for n; else a small
-- chunk only by an exact fit, and a large one if it is the smaller of the two.
abbrev pub goes_first : ℕ → ℕ → ℕ → Bool
goes_first n victim size = nat_lt victim n || (if nat_lt n 256 then size == n else nat_lt size victim)

-- the choice for n bytes among a least fit of the bins, a victim and a top of these sizes; the top is never used up
abbrev pub choose : ℕ → Option ℕ → ℕ → ℕ → Option Choice
choose n (Some size) victim top = Some (if goes_first n victim size then OfBins size else TheVictim)
choose n None victim top = if nat_le n victim then Some TheVictim else if nat_lt n top then Some TheTop else None

-- the choice for a chunk of n bytes in the state of a heap
abbrev pub chosen : HeapState → ℕ → Option Choice
chosen heap n =
    choose n (least_fit heap n) (size_where (is_victim heap) (extents_in heap)) (size_where (λ extent. is_top extent.kind) (extents_in heap))

-- whether an extent is one of those chosen
abbrev pub is_one_of : HeapState → Choice → Extent → Bool
is_one_of heap (OfBins size) extent = is_binned heap extent && extent.size == size
is_one_of heap TheVictim extent = is_victim heap extent
is_one_of heap TheTop extent = is_top extent.kind

pub record IsChosen (heap : HeapState) (n : ℕ) (extent : Extent) : Type 0 where
  pub choice : Choice
  pub is : chosen heap n ≡ Some choice
  pub there : extent_at extent.at (extents_in heap) ≡ Some extent
  pub one : IsTrue (is_one_of heap choice extent)
