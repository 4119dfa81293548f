use Rattle.std.proofs.Common.{◌≡◌, ◌≤◌, [], ◌++◌, drop, string_bytes}
use Rattle.heap_curves.specs.Calls.{words_text}
use Rattle.heap_curves.proofs.upright.push_words.Given as goal

abbrev pub invariant-loop-letter : goal.invariant-loop-letter
invariant-loop-letter l = record {
  rest : string_bytes l.out ++ words_text l.x l.y l.place (string_bytes l.word) (drop l.letter-index l.line) ≡ string_bytes
      l.fn.out ++ words_text l.x l.y 0 [] l.line;
  few : l.place ≤ l.letter-index;
}
