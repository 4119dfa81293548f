-- Words at addresses, kept in stretches one after the other in one list (own).
use Rattle.std.specs.Prelude.{ℕ, ◌+◌, ◌-◌, ◌*◌, ◌/◌, ◌%◌, Bool, ◌&&◌, ◌==◌, nat_le, nat_lt, if◌then◌else◌, List, [], ◌∷◌, slice_index}
use Rattle.std.specs.List.{list_any, list_all}
use Rattle.heap_memory.specs.declared.flat_words.Stretch.{Stretch}

-- whether the byte at an address lies in a stretch
abbrev pub is_in : ℕ → Stretch → Bool
is_in at stretch = nat_le stretch.base at && nat_lt at (stretch.base + 8 * stretch.count)

-- whether it lies in one of them
abbrev pub is_held : List Stretch → ℕ → Bool
is_held stretches at = list_any (λ stretch. is_in at stretch) stretches

-- the number of words of all stretches
abbrev pub word_count : List Stretch → ℕ
word_count [] = 0
word_count (stretch ∷ stretches) = stretch.count + word_count stretches

-- the place of an address's word among the words of all stretches: that in the first that holds it
abbrev pub place_of : List Stretch → ℕ → ℕ
place_of [] at = 0
place_of (stretch ∷ stretches) at =
    if is_in at stretch then (at - stretch.base) / 8 else stretch.count + place_of stretches at

-- the word at an address
abbrev pub word_in : List Stretch → List ℕ → ℕ → ℕ
word_in stretches words at = slice_index words (place_of stretches at)

-- each stretch begins at a multiple of 8
abbrev pub are_aligned : List Stretch → Bool
are_aligned stretches = list_all (λ stretch. stretch.base % 8 == 0) stretches
