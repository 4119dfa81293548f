use Rattle.std.proofs.Common.{◌≡◌, ◌+◌, IsTrue, drop}
use Rattle.heap_memory.specs.FlatWords.{is_held, word_count, place_of}
use Rattle.heap_memory.proofs.flat_words.FlatWords.place.Given as goal

abbrev pub invariant-loop-stretch : goal.invariant-loop-stretch
invariant-loop-stretch l = record {
  held : IsTrue (is_held (drop l.stretch-index l.stretch-items) l.at);
  so_far : l.place + place_of (drop l.stretch-index l.stretch-items) l.at ≡ place_of l.stretch-items l.at;
  counted : l.place + word_count (drop l.stretch-index l.stretch-items) ≡ word_count l.stretch-items;
}
