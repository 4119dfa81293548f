use Rattle.std.proofs.Common.{◌≡◌, ◌++◌, take, string_bytes}
use Rattle.std.specs.List.{flat_map}
use Rattle.register_image.specs.Numbers.{number_text}
use Rattle.register_image.proofs.segments.push_selectors.Given as goal

abbrev pub invariant-loop-selector : goal.invariant-loop-selector
invariant-loop-selector l = string_bytes l.out ≡ string_bytes l.fn.out ++ flat_map number_text (take l.selector-index l.selectors)
