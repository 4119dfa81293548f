use Rattle.std.proofs.Common.{rules, arith, ℕ, List, [], ◌<◌, ◌+◌, ◌^◌, length, inl, inr, refl, ◌∙◌}
use Rattle.std.specs.Prelude.{unwrap_or}
use Rattle.machine_model.specs.State.{start}
use Rattle.heap_program.proofs.Commands.{made_status, complete_status}
use Rattle.heap_report.proofs.Lengths.{ok_status, stop_status}
use Rattle.heap_report.proofs.tell.tell_new.Goals as goal

-- no machine was made
pub returns-in-Err-clause-tells : goal.returns-in-Err-clause-tells
returns-in-Err-clause-tells g c = record {
  machine = search rules;
  extents = search rules;
  told = search rules;
  refused = search rules;
  part = λ late. inl (search rules, refl, refl);
  silent = search rules;
  read_fault = search rules;
  write_fault = search rules;
  too_long = search rules;
  complete = λ good unread unwritten. complete_status c.args.config.now c.ended_early.result.status (search rules)
      (search rules) (search rules) good (search rules) (search rules);
}

pub tell_run-requires : goal.tell_run-requires
tell_run-requires g c = (start c.args.config.now, record { good = c.in-Ok.ensures.new.good; stands = c.in-Ok.ensures.new.stands }, refl)

-- the run was told of
pub returns-in-Ok-tell_run-clause-tells : goal.returns-in-Ok-tell_run-clause-tells
returns-in-Ok-tell_run-clause-tells g c =
    let left = g.S.Source.left in
    record {
      machine = search rules;
      extents = search rules;
      told = (
        c.in-Ok.machine,
        c.in-Ok.ensures.new,
        c.in-Ok-tell_run.ensures.told (start c.args.config.now)
            (record { good = c.in-Ok.ensures.new.good; stands = c.in-Ok.ensures.new.stands }) refl,
      );
      refused = made_status c.args.config.now c.in-Ok.ensures.accepted;
      part = λ late. absurd (omega (arith, late));
      silent = λ which. absurd (elim which [ inl six ↦ omega (arith, six) | inr eight ↦ omega (arith, eight) ]);
      read_fault = λ six. absurd (omega (arith, six));
      write_fault = λ seven. absurd (omega (arith, seven));
      too_long = ok_status (left c.args.source.now) c.in-Ok-tell_run.listed
          (λ (input : List ℕ). 2 ^ 30 + length (unwrap_or (left c.tell_run.new.source) []) < length input)
          c.in-Ok-tell_run.ensures.too_long;
      complete = λ good unread unwritten. inl refl;
    }

-- it stopped early
pub returns-in-Err-tell_run-clause-tells : goal.returns-in-Err-tell_run-clause-tells
returns-in-Err-tell_run-clause-tells g c =
    let left = g.S.Source.left in
    record {
      machine = search rules;
      extents = search rules;
      told = search rules;
      refused = search rules;
      part = λ late. inr (
        c.in-Ok.machine,
        c.in-Ok.ensures.new,
        c.in-Err-tell_run.ensures.part (start c.args.config.now)
            (record { good = c.in-Ok.ensures.new.good; stands = c.in-Ok.ensures.new.stands }) refl,
      );
      silent = search rules;
      read_fault = search rules;
      write_fault = search rules;
      too_long = stop_status (left c.args.source.now) c.in-Err-tell_run.stop c.ended_early-in-Err-tell_run.result.status
          (λ (input : List ℕ). 2 ^ 30 + length (unwrap_or (left c.tell_run.new.source) []) < length input)
          (c.ended_early-in-Err-tell_run.ensures.status ∙ c.status_of.ensures) c.in-Err-tell_run.ensures.too_long;
      complete = λ good unread unwritten. search rules;
    }
