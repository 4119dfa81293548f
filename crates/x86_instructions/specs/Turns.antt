-- The turns in which a range of pages is flushed. A page's place is how many pages are before it.
use Rattle.std.specs.Prelude.{ℕ, zero, suc, ◌+◌, ◌-◌, List, [], ◌∷◌, min, max, nat_lt, if◌then◌else◌}
use Rattle.paging_core.specs.Steps.{half_pages, page_at}

-- a page by its number, and how many pages from it on one command is to flush
pub record Turn : Type 0 where
  pub page : ℕ
  pub count : ℕ

-- the greatest count of a turn from one place on, in a range that ends before another: no more pages than
-- are left, none past the low half for a page of it, no more than 16 bits hold, and no more than the
-- processor takes
abbrev pub greatest_count : ℕ → ℕ → ℕ → ℕ → ℕ
greatest_count size count_max from to =
    min (to - from) (min (if nat_lt from (half_pages size) then half_pages size - from else to - from) (min 65535 count_max))

-- a turn with the greatest count at the place, and then the turns of what is left. A command flushes a page also if its
-- count is 0. `pages` is no less than the pages left
unfoldable pub turns_within : ℕ → ℕ → ℕ → ℕ → ℕ → List Turn
turns_within zero size count_max from to = []
turns_within (suc pages) size count_max from to =
    if nat_lt from to
    then record { page = page_at size from; count = greatest_count size count_max from to }
    ∷ turns_within pages size count_max (from + max 1 (greatest_count size count_max from to)) to
    else []

-- the turns of the pages from one place up to another
abbrev pub turns : ℕ → ℕ → ℕ → ℕ → List Turn
turns size count_max from to = turns_within (to - from) size count_max from to
