use Rattle.std.proofs.Common.{◌≡◌, ◌⊎◌, inl, string_bytes, sym, subst, rules}
use Rattle.heap_program.specs.Generated.{IsGenerationStopped}
use Rattle.heap_program.specs.Progress.{IsAt}
use Rattle.heap_program.specs.Stepped.{IsGeneratedBy}
use Rattle.heap_program.proofs.Draws.{all_drawn, whole_text, none_generated, part_generated, all_generated}
use Rattle.heap_program.proofs.Errors.{if_err, on_err}
use Rattle.heap_program.proofs.Wholes.{passed_on}
use Rattle.heap_program.specs.declared.run.Stop.{Stop}
use Rattle.heap_program.specs.declared.run.Stop.TheVariants.{Memory, WriteFault}
use Rattle.kernel_heap.specs.declared.machine.Machine.{Machine}
use Rattle.heap_program.proofs.generate.generate.Goals as goal

pub returns-in_err-draw_calls-clause-stopped : goal.returns-in_err-draw_calls-clause-stopped
returns-in_err-draw_calls-clause-stopped g c = on_err c.from_residual.result
    (λ s at. none_generated c.args.machine s c.args.seed c.args.count (g.K.Sink.taken c.args.sink.now))

pub returns-in_err-push_tally-clause-stopped : goal.returns-in_err-push_tally-clause-stopped
returns-in_err-push_tally-clause-stopped g c = on_err c.from_residual-in_err-push_tally.result
    (λ s at. none_generated c.args.machine s c.args.seed c.args.count (g.K.Sink.taken c.args.sink.now))

pub returns-in_err-push_end-clause-stopped : goal.returns-in_err-push_end-clause-stopped
returns-in_err-push_end-clause-stopped g c = on_err c.from_residual-in_err-push_end.result
    (λ s at. none_generated c.args.machine s c.args.seed c.args.count (g.K.Sink.taken c.args.sink.now))

pub returns-in_err-draw_calls-clause-faults : goal.returns-in_err-draw_calls-clause-faults
returns-in_err-draw_calls-clause-faults g c = record {
  which = if_err c.from_residual.result (λ stop. stop ≡ Memory) c.from_residual.ensures.1 (λ stop made. inl made);
  later = search rules;
  cause = search rules;
}

pub returns-in_err-push_tally-clause-faults : goal.returns-in_err-push_tally-clause-faults
returns-in_err-push_tally-clause-faults g c = record {
  which = if_err c.from_residual-in_err-push_tally.result (λ stop. stop ≡ Memory) c.from_residual-in_err-push_tally.ensures.1 (λ stop made. inl made);
  later = search rules;
  cause = search rules;
}

pub returns-in_err-push_end-clause-faults : goal.returns-in_err-push_end-clause-faults
returns-in_err-push_end-clause-faults g c = record {
  which = if_err c.from_residual-in_err-push_end.result (λ stop. stop ≡ Memory) c.from_residual-in_err-push_end.ensures.1 (λ stop made. inl made);
  later = search rules;
  cause = search rules;
}

pub returns-in_err-write_out-clause-stopped : goal.returns-in_err-write_out-clause-stopped
returns-in_err-write_out-clause-stopped g c = on_err c.from_residual-in_err-write_out.result (λ s at.
    let first = c.new-drawing.ensures in
    let drawing = c.draw_calls.new.self in
    let w = all_drawn s c.args.seed c.args.count c.new-drawing.result drawing first.state first.given first.refused
    (c.in_ok-draw_calls.ensures s (subst (λ (m : Machine). IsAt m s) (sym first.machine) at)) in
    let out = string_bytes c.push_end.new.out in
    let part = c.in_err-write_out.ensures.err in
    subst (λ (m : Machine). IsGenerationStopped m s c.args.seed c.args.count (g.K.Sink.taken c.args.sink.now)
    (g.K.Sink.taken c.write_out.new.sink)) first.machine
    (part_generated s c.new-drawing.result.machine c.args.seed c.args.count drawing w out (g.K.Sink.taken c.args.sink.now)
    (g.K.Sink.taken c.write_out.new.sink) part.0
    (whole_text s c.new-drawing.result.machine c.args.seed c.args.count drawing w (string_bytes c.new-output.result)
    (string_bytes c.push_tally.new.out) out c.new-output.ensures.bytes c.in_ok-push_tally.ensures
    (c.in_ok-push_end.ensures w.state w.at.stands)) part.1))

pub returns-in_err-write_out-clause-faults : goal.returns-in_err-write_out-clause-faults
returns-in_err-write_out-clause-faults g c =
    let of = c.in_err-write_out in
    let r = c.from_residual-in_err-write_out in
    record {
      which = if_err r.result (λ stop. stop ≡ of.field-0.0) r.ensures.1
          (λ stop made. subst (λ (s : Stop). s ≡ Memory ⊎ s ≡ WriteFault) (sym made) of.ensures.faults.which);
      later = of.ensures.faults.later;
      cause = λ is. of.ensures.faults.cause (passed_on r.result of.field-0.0 WriteFault r.ensures.1 is);
    }

pub returns-clause-generated : goal.returns-clause-generated
returns-clause-generated g c s at =
    let first = c.new-drawing.ensures in
    let drawing = c.draw_calls.new.self in
    let w = all_drawn s c.args.seed c.args.count c.new-drawing.result drawing first.state first.given first.refused
    (c.in_ok-draw_calls.ensures s (subst (λ (m : Machine). IsAt m s) (sym first.machine) at)) in
    let out = string_bytes c.push_end.new.out in
    subst (λ (m : Machine). IsGeneratedBy m s c.args.seed c.args.count (g.K.Sink.taken c.args.sink.now)
    (g.K.Sink.taken c.write_out.new.sink) (g.K.Sink.flushed c.write_out.new.sink) drawing.machine) first.machine
    (all_generated s c.new-drawing.result.machine c.args.seed c.args.count drawing w out (g.K.Sink.taken c.args.sink.now)
    (g.K.Sink.taken c.write_out.new.sink) (g.K.Sink.flushed c.write_out.new.sink)
    (whole_text s c.new-drawing.result.machine c.args.seed c.args.count drawing w (string_bytes c.new-output.result)
    (string_bytes c.push_tally.new.out) out c.new-output.ensures.bytes c.in_ok-push_tally.ensures
    (c.in_ok-push_end.ensures w.state w.at.stands))
    c.in_ok-write_out.ensures.ok c.in_ok-write_out.ensures.flushed)
