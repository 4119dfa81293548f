use Rattle.std.proofs.Common.{◌≡◌, ℕ, get_or, vec_len, take}
use Rattle.heap_memory.specs.FlatWords.{word_count}
use Rattle.heap_memory.proofs.flat_words.FlatWords.new.Given as goal

abbrev pub invariant-loop-stretch : goal.invariant-loop-stretch
invariant-loop-stretch l = record {
  counted : vec_len l.words ≡ word_count (take l.stretch-index l.stretch-items);
  zero : (k : ℕ) → get_or l.words.items k 0 ≡ 0;
}
