-- The index of a plain list, which the tests keep beside the bins: sizes with their chunks, in the order in which the
-- chunks were put in.
use Rattle.std.specs.Prelude.{◌≡◌, ℕ, ◌+◌, ◌%◌, ◌^◌, ◌<◌, ◌≤◌, ◌==◌, nat_le, ◌||◌, Bool, if◌then◌else◌, List, [], ◌∷◌, IsTrue}
use Rattle.heap_memory.specs.declared.grant.Grant.{Grant}
use Rattle.heap_memory.specs.Regions.{is_granted}
use Rattle.bins.specs.declared.bins.Bins.{Bins}
use Rattle.bins.specs.Linked.{IsLinked}

-- the chunks of a size
abbrev pub index_of : List (ℕ × ℕ) → ℕ → List ℕ
index_of [] n = []
index_of (entry ∷ entries) n = if n == entry.0 then entry.1 ∷ index_of entries n else index_of entries n

-- whether a run of bytes has none of a chunk
abbrev pub is_apart : ℕ → ℕ → ℕ × ℕ → Bool
is_apart size at entry = nat_le (entry.1 + entry.0) at || nat_le (at + size) entry.1

-- a place for a chunk in the memory of the tests
pub record HasPlace (size at : ℕ) : Type 0 where
  pub whole : size % 16 ≡ 0
  pub long : 32 ≤ size
  pub aligned : at % 16 ≡ 0
  pub low : 65536 ≤ at
  pub high : at + size ≤ 65536 + 2 ^ 26

-- the bins have the chunks of a list, in the memory of the tests
pub record AreBeside (regions : List Grant) (words : ℕ → ℕ) (bins : Bins) (entries : List (ℕ × ℕ)) : Type 0 where
  pub granted : (at : ℕ) → 65536 ≤ at → at < 65536 + 2 ^ 26 → IsTrue (is_granted regions at)
  pub linked : IsLinked regions words bins (index_of entries)
