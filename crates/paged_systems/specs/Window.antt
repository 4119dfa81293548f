-- Where a paged system may grant.
use Rattle.std.specs.Prelude.{◌≡◌, ℕ, ◌+◌, ◌-◌, ◌*◌, ◌/◌, ◌%◌, ◌^◌, ◌≤◌}
use Rattle.paging_core.specs.Address.{IsCanonicalRange}

-- a window of whole pages in one canonical half, without the first and the last page of the address space
pub record IsHeapWindow (base pages : ℕ) : Type 0 where
  pub whole : base % 4096 ≡ 0
  pub canonical : IsCanonicalRange (base / 4096) pages
  pub after_first : 4096 ≤ base
  pub before_last : base + 4096 * pages ≤ 2 ^ 64 - 4096
