use Rattle.std.proofs.Common.{ℕ, length, sym, ◌∙◌, arith, le_refl}
use Rattle.std.specs.Prelude.{◌==◌}
use Rattle.heap_program.proofs.Found.{found_at, one_line_before}
use Rattle.call_lines.proofs.WordLemmas.{none_far, some_near}
use Rattle.heap_program.proofs.session.line_length.Goals as goal

pub returns-in-Some : goal.returns-in-Some
returns-in-Some c =
    let bytes = c.args.bytes.now in
    let near = some_near (λ (b : ℕ). b == 10) bytes c.in-Some.feed (sym c.first_of.ensures ∙ c.in-Some.is) in
    record {
      few = omega (arith, near.0, near.1);
      line = one_line_before bytes c.in-Some.feed (omega (arith, near.1));
      feed = λ less. found_at bytes c.in-Some.feed near.1 less;
    }

pub returns-in-None : goal.returns-in-None
returns-in-None c =
    let bytes = c.args.bytes.now in
    let far = none_far (λ (b : ℕ). b == 10) bytes (sym c.first_of.ensures ∙ c.in-None.is) in
    record { few = le_refl (length bytes); line = one_line_before bytes (length bytes) far; feed = λ less. absurd (omega (arith, less)) }
