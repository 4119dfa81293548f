-- The tables that are missing for pages.
use Rattle.std.specs.Prelude.{ℕ, Bool, List, count_by, is_none}
use Rattle.paging_core.specs.Prefix.{Prefix, prefixes_of}
use Rattle.paging_core.specs.Walk.{reach}

-- no table is met at the prefix
abbrev pub is_missing : List ℕ → ℕ → Prefix → Bool
is_missing words root prefix = is_none (reach words root prefix.level prefix.number)

-- how many tables are missing for the pages from `first` on
unfoldable pub missing_of : List ℕ → ℕ → ℕ → ℕ → ℕ
missing_of words root first pages = count_by (is_missing words root) (prefixes_of first pages)
