use Rattle.std.proofs.Common.{rules, arith, ℕ, List, [], ◌<◌, ◌+◌, ◌^◌, length, inl, inr, refl, ◌∙◌}
use Rattle.std.specs.Prelude.{unwrap_or}
use Rattle.machine_model.specs.State.{start}
use Rattle.heap_program.proofs.Commands.{made_status, ok_status, stop_status, complete_status}
use Rattle.heap_program.proofs.LiveBlocks.{holds_blocks}
use Rattle.heap_program.proofs.command.run_new.Goals as goal

-- no machine was made
pub returns-in-Err-clause-run : goal.returns-in-Err-clause-run
returns-in-Err-clause-run g c = record {
  answered = search rules;
  stopped = λ late. inl (search rules, refl, refl);
}

pub returns-in-Err-clause-status : goal.returns-in-Err-clause-status
returns-in-Err-clause-status g c = record {
  few = search rules;
  usage = search rules;
  refused = search rules;
  untouched = search rules;
  read_fault = search rules;
  write_fault = search rules;
  too_long = search rules;
  flushed = search rules;
  complete = λ good unread unwritten. complete_status c.args.config.now c.ended_early.result.status (search rules)
      (search rules) (search rules) good (search rules) (search rules);
}

-- the run ended well
pub returns-in-Ok-run-clause-run : goal.returns-in-Ok-run-clause-run
returns-in-Ok-run-clause-run g c =
    let new = c.in-Ok.ensures.new in
    let run = (c.in-Ok-run.ensures.answered (start c.args.config.now) (record { good = new.good; stands = new.stands }) refl).run in
    record {
      answered = (run, holds_blocks _ run.state run.good run.stands);
      stopped = λ late. absurd (omega (arith, late));
    }

pub returns-in-Ok-run-clause-steps : goal.returns-in-Ok-run-clause-steps
returns-in-Ok-run-clause-steps g c =
    let new = c.in-Ok.ensures.new in
    (c.in-Ok.machine, new, c.in-Ok-run.ensures.answered (start c.args.config.now) (record { good = new.good; stands = new.stands }) refl)

pub returns-in-Ok-run-clause-status : goal.returns-in-Ok-run-clause-status
returns-in-Ok-run-clause-status g c =
    let left = g.S.Source.left in
    record {
      few = search rules;
      usage = search rules;
      refused = made_status c.args.config.now c.in-Ok.ensures.accepted;
      untouched = search rules;
      read_fault = search rules;
      write_fault = search rules;
      too_long = ok_status (left c.args.source.now) c.in-Ok-run.machine
          (λ (input : List ℕ). 2 ^ 30 + length (unwrap_or (left c.run.new.source) []) < length input)
          c.in-Ok-run.ensures.too_long;
      flushed = λ which. absurd (elim which [ inl six ↦ omega (arith, six) | inr eight ↦ omega (arith, eight) ]);
      complete = search rules;
    }

-- it stopped early
pub returns-in-Err-run-clause-run : goal.returns-in-Err-run-clause-run
returns-in-Err-run-clause-run g c =
    let new = c.in-Ok.ensures.new in
    let part = c.in-Err-run.ensures.part in
    record {
      answered = search rules;
      stopped = λ late. inr (record {
        first = c.in-Ok.machine;
        new = new;
        stopped = part.stopped (start c.args.config.now) (record { good = new.good; stands = new.stands });
        kept_up = part.kept_up (start c.args.config.now) (record { good = new.good; stands = new.stands });
        caught_up = λ six. part.at_fault (search rules) (start c.args.config.now)
            (record { good = new.good; stands = new.stands });
        caught_up_long = λ eight. part.at_length (search rules) (start c.args.config.now)
            (record { good = new.good; stands = new.stands });
      });
    }

pub returns-in-Err-run-clause-status : goal.returns-in-Err-run-clause-status
returns-in-Err-run-clause-status g c =
    let left = g.S.Source.left in
    record {
      few = search rules;
      usage = search rules;
      refused = search rules;
      untouched = search rules;
      read_fault = search rules;
      write_fault = search rules;
      too_long = stop_status (left c.args.source.now) c.in-Err-run.stop c.ended_early-in-Err-run.result.status
          (λ (input : List ℕ). 2 ^ 30 + length (unwrap_or (left c.run.new.source) []) < length input)
          (c.ended_early-in-Err-run.ensures.status ∙ c.status_of.ensures)
          c.in-Err-run.ensures.too_long;
      flushed = search rules;
      complete = search rules;
    }
