use Rattle.std.proofs.Common.{◌≡◌, ◌++◌, drop, string_bytes}
use Rattle.memory_image.specs.Image.{word_lines}
use Rattle.memory_image.proofs.image.push_words.Given as goal

abbrev pub invariant-loop-number : goal.invariant-loop-number
invariant-loop-number l = string_bytes l.out ++ word_lines l.number (drop l.number l.frames) ≡ string_bytes l.fn.out ++ word_lines 0 l.frames
