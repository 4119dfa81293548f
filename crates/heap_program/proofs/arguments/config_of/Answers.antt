use Rattle.std.proofs.Common.{sym, arith}
use Rattle.heap_program.proofs.Commands.{other_words}
use Rattle.heap_program.proofs.arguments.config_of.Goals as goal

pub returns-in_default : goal.returns-in_default
returns-in_default c = sym (other_words c.args.words.now (λ is. absurd (omega (arith, is, c.in_default.len_at_least)))
    (λ is. absurd (omega (arith, is, c.in_default.len_below))))

pub returns-in_default-2 : goal.returns-in_default-2
returns-in_default-2 c = sym (other_words c.args.words.now (λ is. absurd (omega (arith, is, c.in_default.len_at_least)))
    (λ is. absurd (omega (arith, is, c.in_default.len_at_least))))
