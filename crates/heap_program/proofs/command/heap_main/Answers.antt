use Rattle.std.proofs.Common.{arith, ℕ, ◌≡◌, ◌≤◌, ◌⊎◌, Some, IfSome, inl, inr, refl, sym, subst}
use Rattle.machine_model.specs.declared.config.Config.{Config}
use Rattle.heap_program.specs.declared.arguments.Command.TheVariants.{Run, Generate}
use Rattle.heap_program.specs.Command.{command_of}
use Rattle.heap_program.specs.Done.{IsStatusOf}
use Rattle.heap_program.specs.Stepped.{IsAnsweredByNew, IsGeneratedByNew, IsGenerationStoppedByNew}
use Rattle.heap_program.specs.Streams.{streams}
use Rattle.heap_program.proofs.Commands.{complete_status, unread_long, same_run, same_generate, one_kind}
use Rattle.heap_program.proofs.LiveBlocks.{generated_live}
use Rattle.heap_program.proofs.command.heap_main.Goals as goal

-- the steps of a machine that was new
pub returns-in-Some-Run-clause-steps : goal.returns-in-Some-Run-clause-steps
returns-in-Some-Run-clause-steps g c =
    let left = g.S.Source.left in
    let taken = g.K.Sink.taken in
    let words = command_of c.args.words.now in
    let known : words ≡ Some (Run c.in-Some-Run.config) = (let value = c.command_of.ensures.value in let some =
    c.in-Some-Run.is in let what = c.in-Some-Run.field-0-is in cc) in
    record {
      run = λ config is.
          same_run words c.in-Some-Run.config config known is
          (λ (k : Config). IfSome c.run_new.result.machine (IsAnsweredByNew k (left c.args.source.now)
          (left c.run_new.new.source) (taken c.args.sink.now) (taken c.run_new.new.sink)
          (g.K.Sink.flushed c.run_new.new.sink)))
          c.run_new.ensures.steps;
      generated = λ seed count config is. absurd (one_kind words c.in-Some-Run.config seed count config known is);
    }

pub returns-in-Some-Generate-clause-steps : goal.returns-in-Some-Generate-clause-steps
returns-in-Some-Generate-clause-steps g c =
    let taken = g.K.Sink.taken in
    let words = command_of c.args.words.now in
    let it = c.in-Some-Generate in
    let known : words ≡ Some (Generate it.seed it.count it.config) = (let value = c.command_of.ensures.value in let some =
    c.in-Some-Generate.is in let what = c.in-Some-Generate.field-0-is in cc) in
    record {
      run = λ config is. absurd (one_kind words config it.seed it.count it.config is known);
      generated = λ seed count config is.
          same_generate words it.seed it.count it.config seed count config known is
          (λ (i n : ℕ) (k : Config). IfSome c.generate_new.result.machine
          (IsGeneratedByNew k i n (taken c.args.sink.now) (taken c.generate_new.new.sink)
          (g.K.Sink.flushed c.generate_new.new.sink)))
          c.generate_new.ensures.generated;
    }

-- what calls that are drawn leave, with where the live blocks lie
pub returns-in-Some-Generate-clause-generated : goal.returns-in-Some-Generate-clause-generated
returns-in-Some-Generate-clause-generated g c = λ seed count config is.
    let taken = g.K.Sink.taken in
    let flushed = g.K.Sink.flushed c.generate_new.new.sink in
    let statuses = c.generate_new.ensures.status.statuses in
    let words = command_of c.args.words.now in
    let it = c.in-Some-Generate in
    let known : words ≡ Some (Generate it.seed it.count it.config) = (let value = c.command_of.ensures.value in let some =
    c.in-Some-Generate.is in let what = c.in-Some-Generate.field-0-is in cc) in
    let done : IfSome c.generate_new.result.machine (IsGeneratedByNew config seed count (taken c.args.sink.now) (taken c.generate_new.new.sink) flushed) =
    same_generate words it.seed it.count it.config seed count config known is
    (λ (i n : ℕ) (k : Config). IfSome c.generate_new.result.machine (IsGeneratedByNew k i n (taken c.args.sink.now)
    (taken c.generate_new.new.sink) flushed)) c.generate_new.ensures.generated in
    record {
      generated = generated_live c.generate_new.result.machine config seed count (taken c.args.sink.now) (taken c.generate_new.new.sink) flushed done;
      stopped = same_generate words it.seed it.count it.config seed count config known is
          (λ (i n : ℕ) (k : Config). 5 ≤ c.generate_new.result.status →
          ((c.generate_new.result.status ≡ 5) × (c.generate_new.new.sink ≡ c.args.sink.now))
          ⊎ IsGenerationStoppedByNew k i n (taken c.args.sink.now) (taken c.generate_new.new.sink))
          c.generate_new.ensures.stopped;
      unread = (refl, statuses.2, statuses.1);
    }

-- the source is as it was, so no status tells of it
pub returns-in-Some-Generate-clause-status : goal.returns-in-Some-Generate-clause-status
returns-in-Some-Generate-clause-status g c =
    let made = c.generate_new.ensures.status in
    let command = Generate c.in-Some-Generate.seed c.in-Some-Generate.count c.in-Some-Generate.config in
    let told = streams g.S.Source.left g.S.Source.faults g.K.Sink.taken g.K.Sink.flushed g.K.Sink.faults in
    let is : command_of c.args.words.now ≡ Some command = (let value = c.command_of.ensures.value in let some =
    c.in-Some-Generate.is in let known = c.in-Some-Generate.field-0-is in cc) in
    let done : IsStatusOf {S = g.row.S.Denot} {K = g.row.K.Denot} told (Some command) c.args.source.now c.args.source.now
    c.args.sink.now c.generate_new.new.sink c.generate_new.result.status = record {
      few = omega (arith, made.statuses.2);
      usage = (λ one. absurd (made.statuses.0 one), λ none. absurd (cc));
      refused = made.refused;
      untouched = λ one four. (refl, made.untouched one four);
      read_fault = λ six. absurd (made.statuses.1 six);
      write_fault = made.write_fault;
      too_long = unread_long (g.S.Source.left c.args.source.now) c.generate_new.result.status made.statuses.2;
      flushed = λ which. absurd (elim which [ inl six ↦ made.statuses.1 six | inr eight ↦ omega (arith, eight, made.statuses.2) ]);
      complete = λ good unread unwritten. complete_status c.in-Some-Generate.config c.generate_new.result.status
          (omega (arith, made.statuses.2)) made.statuses.0 made.refused good made.statuses.1
          (λ seven. unwritten (made.write_fault seven));
    } in
    subst (λ other. IsStatusOf {S = g.row.S.Denot} {K = g.row.K.Denot} told other c.args.source.now c.args.source.now
    c.args.sink.now c.generate_new.new.sink c.generate_new.result.status) (sym is) done
