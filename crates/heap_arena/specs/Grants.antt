-- Grants in the words of a table (own).
use Rattle.std.specs.Prelude.{ℕ, zero, suc, ◌+◌, ◌*◌, Bool, ◌&&◌, nat_le, nat_lt, List, [], ◌∷◌, ◌++◌, slice_index}
use Rattle.std.specs.List.{list_all}
use Rattle.heap_memory.specs.declared.grant.Grant.{Grant}

-- the grant at a place of a table: its base, and after it its size
abbrev pub grant_at : List ℕ → ℕ → Grant
grant_at words place = record { base = slice_index words (2 * place); size = slice_index words (2 * place + 1); flags = 0 }

-- the first of them, a given number
unfoldable pub grants : List ℕ → ℕ → List Grant
grants words zero = []
grants words (suc count) = grants words count ++ grant_at words count ∷ []

-- whether grants stand from one address up to another
abbrev pub are_between : ℕ → ℕ → List Grant → Bool
are_between low high regions = list_all (λ region. nat_le low region.base && nat_le (region.base + region.size) high) regions

-- whether a grant begins before a place and ends there or before it
abbrev pub lies_before : ℕ → Grant → Bool
lies_before place grant = nat_lt grant.base place && nat_le (grant.base + grant.size) place
