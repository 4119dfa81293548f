use Rattle.std.proofs.Common.{ℕ, ◌*◌, List, ◌++◌, length, take, string_bytes, subst, sym, ap, ◌∙◌}
use Rattle.std.proofs.lemmas.Result.{on_ok_weaker}
use Rattle.std.specs.Str.{IsUtf8}
use Rattle.heap_program.proofs.Blocks.{hexes_are_text, run_front}
use Rattle.heap_program.proofs.digits.push_run.Goals as goal

pub push_text-requires : goal.push_text-requires
push_text-requires c =
    let bytes = c.args.bytes.now in
    subst IsUtf8 (sym (ap (take (2 * length bytes)) c.digits_of-digits.ensures
    ∙ run_front bytes c.padded-run.result c.padded-run.ensures)) (hexes_are_text bytes)

pub returns : goal.returns
returns c =
    let bytes = c.args.bytes.now in
    let front = ap (take (2 * length bytes)) c.digits_of-digits.ensures ∙ run_front bytes c.padded-run.result c.padded-run.ensures in
    on_ok_weaker c.push_text.result (λ written. written ∙ ap (λ (l : List ℕ). string_bytes c.args.out.now ++ l) front) c.push_text.ensures
