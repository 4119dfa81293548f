-- The pages of a size in the order of their addresses. The addresses between the canonical halves have no page, so the
-- first page of the high half follows the last one of the low half (own).
use Rattle.std.specs.Prelude.{ℕ, zero, suc, ◌+◌, ◌-◌, ◌*◌, ◌/◌, ◌^◌, nat_lt, nat_le, if◌then◌else◌, Option, Some, None}
use Rattle.paging_core.specs.Address.{is_canonical}

-- how many pages a canonical half has
abbrev pub half_pages : ℕ → ℕ
half_pages size = 2 ^ 47 / size

-- how many pages of the size the addresses between the halves would have
abbrev pub gap_pages : ℕ → ℕ
gap_pages size = (2 ^ 17 - 2) * half_pages size

-- how many pages are before the page with this number
abbrev pub position : ℕ → ℕ → ℕ
position size number = (if nat_lt number (half_pages size) then number else number - gap_pages size)

-- the number of the page that has this many pages before it
abbrev pub page_at : ℕ → ℕ → ℕ
page_at size place = (if nat_lt place (half_pages size) then place else place + gap_pages size)

-- the steps on from one place to another: the bounds that Rust's `Step::steps_between` answers
abbrev pub steps : ℕ → ℕ → ℕ × Option ℕ
steps from to = (if nat_le from to then (to - from, Some (to - from)) else (0, None))

-- how many of the numbers below one are of pages, counted one by one
unfoldable pub pages_before : ℕ → ℕ → ℕ
pages_before size zero = 0
pages_before size (suc number) = (if is_canonical (number * size) then 1 else 0) + pages_before size number
