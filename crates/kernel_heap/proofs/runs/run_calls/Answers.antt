use Rattle.std.specs.Prelude.{Result, Ok, Err, IfErr}
use Rattle.std.specs.Result.{IsErrAnd}
use Rattle.std.proofs.Common.{◌≡◌, ◌∷◌, [], ◌++◌, take, get_or, sym, subst, List}
use Rattle.std.proofs.lemmas.List.{take_more, take_all}
use Rattle.machine_model.specs.declared.call.Call.{Call}
use Rattle.machine_model.specs.declared.answer.Answer.{Answer}
use Rattle.kernel_heap.specs.Config.{IsConfigRefused}
use Rattle.kernel_heap.specs.Runs.{AreServed}
use Rattle.kernel_heap.specs.Steps.{HasStepped}
use Rattle.kernel_heap.specs.declared.run_error.RunError.TheVariants.{OutOfMemory}
use Rattle.kernel_heap.proofs.Calls.{served_none, served_more}
use Rattle.kernel_heap.proofs.runs.run_calls.Goals as goal

pub loop-call-init : goal.loop-call-init
loop-call-init c = subst (λ (answers : List Answer). AreServed c.args.config.now [] answers c.in_ok-machine.machine)
    (sym c.new-answers.ensures) (served_none c.args.config.now c.in_ok-machine.machine c.in_ok-machine.ensures.new)

pub loop-call-preserved : goal.loop-call-preserved
loop-call-preserved c =
    let config = c.args.config.now in
    let items = c.as_slice-call-items.result.now in
    let i = c.loop-call.call-index in
    let call = get_or items i c.call-item.result in
    let answer = c.in_ok-step.field-0 in
    let more : AreServed config (take i items ++ call ∷ []) (c.loop-call.answers ++ answer ∷ []) c.step.new.self =
    served_more config (take i items) c.loop-call.answers c.loop-call.machine c.step.new.self call answer
    c.loop-call.invariant (subst (λ (asked : Call). HasStepped c.loop-call.machine asked answer c.step.new.self)
    c.call-item.is c.in_ok-step.ensures.ok) in
    subst (λ (calls : List Call). AreServed config calls c.push.new.self c.step.new.self) (sym (take_more items i c.call-item.result c.loop-call-test.true))
    (subst (λ (answers : List Answer). AreServed config (take i items ++ call ∷ []) answers c.step.new.self) (sym c.in_ok-push.ensures.ok) more)

pub returns-clause-served : goal.returns-clause-served
returns-clause-served c =
    let items = c.as_slice-call-items.result.now in
    let all = take_all c.loop-call.call-index items c.loop-call-test.false in
    subst (λ (calls : List Call). AreServed c.args.config.now calls c.loop-call.answers c.loop-call.machine) c.as_slice-call-items.ensures
    (subst (λ (calls : List Call). AreServed c.args.config.now calls c.loop-call.answers c.loop-call.machine) all c.loop-call.invariant)

-- what holds of the error that was made
of_error : {T E : Type 0} (r : Result T E) (Q : E → Type 0) {P : E → Type 0} → IsErrAnd r Q → ((e : E) → Q e → P e) → IfErr r P
of_error (Ok x) Q made holds = absurd made
of_error (Err e) Q made holds = holds e made

pub returns-in_err-push-clause-refused : goal.returns-in_err-push-clause-refused
returns-in_err-push-clause-refused c =
    of_error c.from_residual-in_err-push.result (λ error. error ≡ OutOfMemory) c.from_residual-in_err-push.ensures.1
    (λ error made. subst (IsConfigRefused c.args.config.now) (sym made) c.in_ok-machine.ensures.accepted)
