use Rattle.std.proofs.Common.{◌≡◌, subst, arith}
use Rattle.heap_program.specs.Drawing.{HasDrawnCalls}
use Rattle.heap_program.proofs.Draws.{drawn_none, drawn_more}
use Rattle.heap_program.proofs.generate.Drawing.draw_calls.Goals as goal

pub calls-init : goal.calls-init
calls-init c = record {
  drawn = λ s at. drawn_none s c.args.self.now at;
  given = omega (arith, c.requires.given);
  refused = omega (arith, c.requires.refused);
}

pub calls-preserved : goal.calls-preserved
calls-preserved c = record {
  drawn = λ s at.
      let h = c.calls.invariant.drawn s at in
      drawn_more s c.args.self.now c.calls.self c.draw_call.new.self c.calls._made h (c.in_ok-draw_call.ensures.drawn h.state h.at);
  given = omega (arith, c.in_ok-draw_call.ensures.given, c.calls.invariant.given);
  refused = omega (arith, c.in_ok-draw_call.ensures.refused, c.calls.invariant.refused);
}

pub returns : goal.returns
returns c = λ s at.
    let end = c.calls.auto._made-end in
    let out = c.calls-test.false in
    let whole : c.calls._made ≡ c.args.count = omega (arith, end, out) in
    subst (HasDrawnCalls s c.args.self.now c.calls.self) whole (c.calls.invariant.drawn s at)
