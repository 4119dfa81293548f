use Rattle.std.proofs.Common.{rules, inl, inr, refl}
use Rattle.machine_model.specs.State.{start}
use Rattle.heap_program.proofs.Commands.{made_status}
use Rattle.heap_program.proofs.generate.generate_new.Goals as goal

pub returns-in-Ok-generate-clause-generated : goal.returns-in-Ok-generate-clause-generated
returns-in-Ok-generate-clause-generated g c =
    let new = c.in-Ok.ensures.new in
    (c.in-Ok.machine, new, c.in-Ok-generate.ensures.generated (start c.args.config.now) (record { good = new.good; stands = new.stands }))

pub returns-in-Ok-generate-clause-status : goal.returns-in-Ok-generate-clause-status
returns-in-Ok-generate-clause-status g c = record {
  statuses = search rules;
  refused = made_status c.args.config.now c.in-Ok.ensures.accepted;
  untouched = search rules;
  write_fault = search rules;
}

-- no machine was made
pub returns-in-Err-clause-stopped : goal.returns-in-Err-clause-stopped
returns-in-Err-clause-stopped g c late = inl (search rules, refl)

-- it stopped early
pub returns-in-Err-generate-clause-stopped : goal.returns-in-Err-generate-clause-stopped
returns-in-Err-generate-clause-stopped g c late =
    let new = c.in-Ok.ensures.new in
    inr (c.in-Ok.machine, new, c.in-Err-generate.ensures.stopped (start c.args.config.now) (record { good = new.good; stands = new.stands }))
