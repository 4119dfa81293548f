-- A memory with given words.
use Rattle.std.specs.Prelude.{ℕ, ◌/◌, ◌%◌, List, [], ◌∷◌, ◌&&◌, ◌==◌, nat_lt, set, if◌then◌else◌}
use Rattle.paging_core.specs.Memory.{frame_count}

-- with a word at a physical address, if that is a place of a word in the memory
abbrev pub put : List ℕ → ℕ → ℕ → List ℕ
put words place word = if place % 8 == 0 && nat_lt (place / 4096) (frame_count words) then set words (place / 8) word else words

-- with words, each after its physical address
abbrev pub filled : List ℕ → List ℕ → List ℕ
filled words [] = words
filled words (place ∷ []) = words
filled words (place ∷ word ∷ pairs) = filled (put words place word) pairs
