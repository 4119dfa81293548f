use Rattle.std.proofs.Common.{ℕ, List, ◌++◌, string_bytes, ap, ◌∙◌}
use Rattle.std.proofs.lemmas.Result.{on_ok_weaker}
use Rattle.x86_flags.specs.BreakpointSize.{size_bytes}
use Rattle.register_image.specs.Breakpoints.{condition_word, values_line}
use Rattle.register_image.proofs.breakpoints.push_breakpoint.Goals as goal

pub returns : goal.returns
returns c =
    let out = string_bytes c.args.out.now in
    let word = condition_word c.args.condition in
    let bytes = size_bytes c.args.size in
    on_ok_weaker c.push_values.result (λ written. written
    ∙ ap (λ (w : List ℕ). out ++ values_line w c.bytes_of.result c.value_of-value.result) c.condition_word.ensures
    ∙ ap (λ (n : ℕ). out ++ values_line word n c.value_of-value.result) c.bytes_of.ensures
    ∙ ap (λ (n : ℕ). out ++ values_line word bytes n) c.value_of-value.ensures) c.push_values.ensures
