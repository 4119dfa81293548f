use Rattle.std.proofs.Common.{◌≡◌, ◌++◌, take, string_bytes}
use Rattle.std.specs.List.{flat_map}
use Rattle.register_image.specs.Numbers.{number_text}
use Rattle.register_image.proofs.segments.push_words.Given as goal

abbrev pub invariant-loop-word : goal.invariant-loop-word
invariant-loop-word l = string_bytes l.out ≡ string_bytes l.fn.out ++ flat_map number_text (take l.word-index l.words)
