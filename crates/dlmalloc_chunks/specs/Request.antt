-- What a request for bytes takes of the heap. All numbers are whole and never wrap.
use Rattle.std.specs.Prelude.{ℕ, ◌+◌, ◌-◌, ◌*◌, ◌/◌, ◌^◌, nat_le, nat_lt, ◌==◌, if◌then◌else◌}

-- the least multiple of a unit that is at least n
abbrev pub round_up : ℕ → ℕ → ℕ
round_up n unit = (n + (unit - 1)) / unit * unit

-- the size of a chunk for n bytes: with its head word, in units of 16 bytes, and at least 32 (dlmalloc: request2size)
unfoldable pub padded : ℕ → ℕ
padded n = if nat_lt n 23 then 32 else round_up (n + 8) 16

-- what is asked for if a place at an alignment above 16 has to be found in it (dlmalloc: memalign)
unfoldable pub enlarged : ℕ → ℕ → ℕ
enlarged n align = padded n + align + 24

-- the chunk that has to be free for n bytes at an alignment
unfoldable pub wanted : ℕ → ℕ → ℕ
wanted n align = if nat_le align 16 then padded n else padded n + align + 32

-- the least size that is refused whatever is free (dlmalloc: max_request)
unfoldable pub limit : ℕ → ℕ
limit granularity = if granularity == 16 then 2 ^ 64 - 135 else 2 ^ 64 - granularity - 103
