use Rattle.std.proofs.Common.{◌≡◌, ℕ, List, ◌-◌, ◌≤◌, length, take, drop, sym, subst, arith, length-drop}
use Rattle.std.proofs.lemmas.List.{take_all}
use Rattle.std.proofs.Math.Seq.{take-add}
use Rattle.heap_program.specs.Advanced.{Advanced}
use Rattle.heap_program.proofs.Sessions.{advanced_none, advanced_more}
use Rattle.heap_program.proofs.session.Session.feed.Goals as goal

pub loop-done-init : goal.loop-done-init
loop-done-init g c = (advanced_none g.R.Respond.responds c.args.self.now (g.met.R.Respond.responds_none c.args.self.now.responder), omega arith)

pub loop-done-preserved : goal.loop-done-preserved
loop-done-preserved g c =
    let piece = c.args.piece.now in
    let done = c.loop-done.done in
    let n = c.in_ok-done.field-0 in
    let rest : take (length piece - done) (drop done piece) ≡ drop done piece =
    take_all (length piece - done) (drop done piece) (omega (arith, length-drop done piece)) in
    let few = subst (λ (l : List ℕ). n ≤ length l) rest c.in_ok-done.ensures.few in
    let within = c.loop-done.invariant.1 in
    let b = subst (λ (l : List ℕ). Advanced g.R.Respond.responds c.loop-done.self c.feed_line.new.self (take n l)) rest c.in_ok-done.ensures.fed in (
      subst (Advanced g.R.Respond.responds c.args.self.now c.feed_line.new.self) (sym (take-add done n piece))
          (advanced_more g.R.Respond.responds g.met.R.Respond.responds_on c.args.self.now c.loop-done.self
          c.feed_line.new.self (take done piece) (take n (drop done piece)) c.loop-done.invariant.0 b),
      omega (arith, few, within, length-drop done piece),
    )

pub returns-clause-fed : goal.returns-clause-fed
returns-clause-fed g c =
    let piece = c.args.piece.now in
    let done = c.loop-done.done in
    let all : take done piece ≡ piece = take_all done piece (omega (arith, c.loop-done-test.false)) in
    subst (Advanced g.R.Respond.responds c.args.self.now c.loop-done.self) all c.loop-done.invariant.0
