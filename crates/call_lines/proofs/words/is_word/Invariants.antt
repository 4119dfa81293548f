use Rattle.std.proofs.Common.{◌≡◌, drop}
use Rattle.std.specs.Str.{bytes_eq}
use Rattle.call_lines.proofs.words.is_word.Given as goal

abbrev pub invariant-loop-k : goal.invariant-loop-k
invariant-loop-k l = bytes_eq l.word l.name ≡ bytes_eq (drop l.k l.word) (drop l.k l.name)
