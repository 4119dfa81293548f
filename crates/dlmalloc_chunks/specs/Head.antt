-- The head word of a chunk: its size, a multiple of 8, with two bits (dlmalloc: PINUSE, CINUSE).
use Rattle.std.specs.Prelude.{ℕ, ◌+◌, ◌*◌, ◌/◌, ◌%◌, Bool, not, ◌&&◌, ◌==◌, if◌then◌else◌}

-- the size: the head without its three low bits
abbrev pub size_of : ℕ → ℕ
size_of head = head / 8 * 8

-- bit 0: the chunk before is in use
abbrev pub pinuse_of : ℕ → Bool
pinuse_of head = head % 2 == 1

-- bit 1: this chunk is in use
abbrev pub cinuse_of : ℕ → Bool
cinuse_of head = head / 2 % 2 == 1

-- a chunk is free if the chunk before is in use and it is not
abbrev pub free_of : ℕ → Bool
free_of head = pinuse_of head && not (cinuse_of head)

-- the head of a size and the two bits
abbrev pub head_of : ℕ → Bool → Bool → ℕ
head_of size pinuse cinuse = size + (if pinuse then 1 else 0) + (if cinuse then 2 else 0)

-- a head with bit 0 set, and with bit 0 clear
abbrev pub with_pinuse : ℕ → ℕ
with_pinuse head = head / 2 * 2 + 1

-- the head that says that the chunk below is free
abbrev pub without_pinuse : ℕ → ℕ
without_pinuse head = head / 2 * 2
