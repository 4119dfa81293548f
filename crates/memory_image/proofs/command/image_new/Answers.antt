use Rattle.std.proofs.Common.{rules, arith, ℕ, List, [], ◌<◌, ◌+◌, ◌^◌, length, inl, refl, ◌∙◌}
use Rattle.std.specs.Prelude.{unwrap_or}
use Rattle.heap_program.proofs.Commands.{made_status, complete_status, ok_status, stop_status}
use Rattle.memory_image.proofs.command.image_new.Goals as goal

-- no machine was made
pub returns-in-Err-clause-images : goal.returns-in-Err-clause-images
returns-in-Err-clause-images g c = record {
  machine = search rules;
  image = search rules;
  refused = search rules;
  read_fault = search rules;
  write_fault = search rules;
  too_long = search rules;
  complete = λ good unread unwritten. complete_status c.args.config.now c.ended_early.result.status (search rules)
      (search rules) (search rules) good (search rules) (search rules);
}

-- the image was written
pub returns-in-Ok-image_run-clause-images : goal.returns-in-Ok-image_run-clause-images
returns-in-Ok-image_run-clause-images g c =
    let left = g.S.Source.left in
    record {
      machine = search rules;
      image = (c.in-Ok.machine, c.in-Ok.ensures.new, c.in-Ok-image_run.ensures.imaged);
      refused = made_status c.args.config.now c.in-Ok.ensures.accepted;
      read_fault = λ six. absurd (omega (arith, six));
      write_fault = λ seven. absurd (omega (arith, seven));
      too_long = ok_status (left c.args.source.now) c.in-Ok-image_run.machine
          (λ (input : List ℕ). 2 ^ 30 + length (unwrap_or (left c.image_run.new.source) []) < length input)
          c.in-Ok-image_run.ensures.too_long;
      complete = λ good unread unwritten. inl refl;
    }

-- it stopped early
pub returns-in-Err-image_run-clause-images : goal.returns-in-Err-image_run-clause-images
returns-in-Err-image_run-clause-images g c =
    let left = g.S.Source.left in
    record {
      machine = search rules;
      image = search rules;
      refused = search rules;
      read_fault = search rules;
      write_fault = search rules;
      too_long = stop_status (left c.args.source.now) c.in-Err-image_run.stop c.ended_early-in-Err-image_run.result.status
          (λ (input : List ℕ). 2 ^ 30 + length (unwrap_or (left c.image_run.new.source) []) < length input)
          (c.ended_early-in-Err-image_run.ensures.status ∙ c.status_of.ensures) c.in-Err-image_run.ensures.too_long;
      complete = λ good unread unwritten. search rules;
    }
