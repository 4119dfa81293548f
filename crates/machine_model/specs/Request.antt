-- The pages that hold bytes, and those that are granted for a chunk. All numbers are whole and never wrap.
use Rattle.std.specs.Prelude.{ℕ, ◌+◌, ◌/◌}
use Rattle.dlmalloc_chunks.specs.Request.{round_up}

-- the pages that hold n bytes
unfoldable pub pages_in : ℕ → ℕ
pages_in n = round_up n 4096 / 4096

-- the pages that are granted for a chunk of n bytes, with the 96 bytes of the heap's own words besides it
unfoldable pub pages_for : ℕ → ℕ → ℕ
pages_for n granularity = pages_in (round_up (n + 96) granularity)
