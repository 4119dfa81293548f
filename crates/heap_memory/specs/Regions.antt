-- Granted regions.
use Rattle.std.specs.Prelude.{◌≡◌, ℕ, ◌+◌, ◌%◌, ◌^◌, ◌<◌, ◌≤◌, ◌⊎◌, Bool, true, ◌&&◌, ◌==◌, nat_le, nat_lt, if◌then◌else◌, List, [], ◌∷◌, IsTrue}
use Rattle.std.specs.List.{list_any, list_all}
use Rattle.heap_memory.specs.declared.grant.Grant.{Grant}

-- whether the byte at an address is granted
abbrev pub is_granted : List Grant → ℕ → Bool
is_granted regions at = list_any (λ region. nat_le region.base at && nat_lt at (region.base + region.size)) regions

-- a word stands at the address: bases and sizes are multiples of 8, so a word is granted with its first byte
pub record IsWordOf (regions : List Grant) (at : ℕ) : Type 0 where
  pub granted : IsTrue (is_granted regions at)
  pub aligned : at % 8 ≡ 0

-- the regions with a further one, by ascending base
abbrev pub with_grant : Grant → List Grant → List Grant
with_grant grant [] = grant ∷ []
with_grant grant (region ∷ regions) =
    if nat_lt grant.base region.base then grant ∷ region ∷ regions else region ∷ with_grant grant regions

-- a region has no byte from low on and below high
abbrev pub IsApart : ℕ → ℕ → Grant → Type 0
IsApart low high region = (region.base + region.size ≤ low) ⊎ (high ≤ region.base)

-- what every grant for a request of `asked` bytes is
pub record IsGoodGrant (asked : ℕ) (grant : Grant) : Type 0 where
  pub long : asked ≤ grant.size
  pub base_aligned : grant.base % 16 ≡ 0
  pub size_aligned : grant.size % 16 ≡ 0
  pub low : 4096 ≤ grant.base
  pub high : grant.base + grant.size < 2 ^ 64

-- A region is made of units of 16 bytes, at least one, from 4096 on and below 2 ^ 64.
pub record IsWhole (region : Grant) : Type 0 where
  pub base_aligned : region.base % 16 ≡ 0
  pub size_aligned : region.size % 16 ≡ 0
  pub some : 0 < region.size
  pub low : 4096 ≤ region.base
  pub high : region.base + region.size < 2 ^ 64

abbrev pub is_whole : Grant → Bool
is_whole region = region.base % 16 == 0 && region.size % 16 == 0 && nat_lt 0 region.size && nat_le 4096 region.base && nat_lt (region.base + region.size) (2 ^ 64)

abbrev pub are_whole : List Grant → Bool
are_whole regions = list_all is_whole regions

-- whether each region ends before every later one begins
abbrev pub are_ordered : List Grant → Bool
are_ordered [] = true
are_ordered (region ∷ regions) = list_all (λ later. nat_le (region.base + region.size) later.base) regions && are_ordered regions
