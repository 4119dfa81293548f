-- A finite map from a size to its chunks, oldest first, as a function.
use Rattle.std.specs.Prelude.{◌≡◌, ℕ, ◌<◌, ◌≤◌, ◌⊎◌, ⊤, ◌==◌, nat_lt, if◌then◌else◌, List, [], ◌∷◌, ◌++◌}

-- a chunk is one of some
abbrev pub IsIn : ℕ → List ℕ → Type 0
IsIn chunk [] = ⊥
IsIn chunk (first ∷ chunks) = (chunk ≡ first) ⊎ IsIn chunk chunks

-- each stands there once
abbrev pub AreDistinct : List ℕ → Type 0
AreDistinct [] = ⊤
AreDistinct (first ∷ chunks) = (IsIn first chunks → ⊥) × AreDistinct chunks

-- the first of some chunks, and the last of some chunks; if there is none, what stands after or before them
abbrev pub first_or : ℕ → List ℕ → ℕ
first_or behind [] = behind
first_or behind (first ∷ chunks) = first

abbrev pub last_or : ℕ → List ℕ → ℕ
last_or before [] = before
last_or before (first ∷ chunks) = last_or first chunks

-- the chunks without one
abbrev pub removed : ℕ → List ℕ → List ℕ
removed chunk [] = []
removed chunk (first ∷ chunks) = if first == chunk then chunks else first ∷ removed chunk chunks

-- an index with a further chunk, the newest of its size
abbrev pub with_chunk : ℕ → ℕ → (ℕ → List ℕ) → ℕ → List ℕ
with_chunk size chunk index n = if n == size then index n ++ chunk ∷ [] else index n

-- an index without a chunk
abbrev pub without_chunk : ℕ → ℕ → (ℕ → List ℕ) → ℕ → List ℕ
without_chunk size chunk index n = if n == size then removed chunk (index n) else index n

-- an index without the chunks of a size
abbrev pub without_size : ℕ → (ℕ → List ℕ) → ℕ → List ℕ
without_size size index n = if n == size then [] else index n

-- an index of the chunks of at least a size
abbrev pub from : ℕ → (ℕ → List ℕ) → ℕ → List ℕ
from least index n = if nat_lt n least then [] else index n

-- an index has no chunk of a size from low on and below high
abbrev pub IsNone : (ℕ → List ℕ) → ℕ → ℕ → Type 0
IsNone index low high = (n : ℕ) → low ≤ n → n < high → index n ≡ []

-- a chunk of the least size that is at least n and has chunks: the newest of them below 256, and the oldest from 256 on
pub record IsLeastFit (index : ℕ → List ℕ) (n chunk : ℕ) : Type 0 where
  pub size : ℕ
  pub enough : n ≤ size
  pub least : IsNone index n size
  pub binned : IsIn chunk (index size)
  pub newest : size < 256 → chunk ≡ last_or 0 (index size)
  pub oldest : 256 ≤ size → chunk ≡ first_or 0 (index size)
