-- The index prefixes of pages. A page's four indices are the bits 39 to 47, 30 to 38, 21 to 29 and
-- 12 to 20 of its address. Its first `level` indices are one number in base 512.
use Rattle.std.specs.Prelude.{ℕ, zero, suc, ◌+◌, ◌-◌, ◌/◌, ◌%◌, ◌^◌, List, [], ◌∷◌, ◌++◌}

pub record Prefix : Type 0 where
  pub level : ℕ
  pub number : ℕ

-- the first `level` indices of the page
abbrev pub prefix_of : ℕ → ℕ → ℕ
prefix_of page level = page % 2 ^ 36 / 512 ^ (4 - level)

-- the prefixes of one level with the numbers from `number` on, `count` of them
unfoldable pub prefixes_from : ℕ → ℕ → ℕ → List Prefix
prefixes_from level number zero = []
prefixes_from level number (suc count) = record { level = level; number = number } ∷ prefixes_from level (number + 1) count

-- the prefixes of one level of the pages `first` to `last`
abbrev pub prefixes_at : ℕ → ℕ → ℕ → List Prefix
prefixes_at first last level = prefixes_from level (prefix_of first level) (prefix_of last level + 1 - prefix_of first level)

-- the prefixes of one, two and three indices of the pages from `first` on, each once
unfoldable pub prefixes_of : ℕ → ℕ → List Prefix
prefixes_of first zero = []
prefixes_of first (suc more) =
    prefixes_at first (first + more) 1 ++ (prefixes_at first (first + more) 2 ++ prefixes_at first (first + more) 3)
