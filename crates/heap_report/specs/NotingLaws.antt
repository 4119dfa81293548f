-- Laws of replays of which something is kept, one after another.
use Rattle.std.proofs.Common.{◌≡◌, ℕ, List, [], ◌∷◌, ◌++◌, Option, Some, None, refl, sym, ap, subst, append_assoc, arith}
use Rattle.std.proofs.lemmas.List.{append-nil}
use Rattle.machine_model.specs.declared.answer.Answer.{Answer}
use Rattle.machine_model.specs.declared.call.Call.{Call}
use Rattle.machine_model.proofs.Runs.{runs_none, calls_on}
use Rattle.kernel_heap.proofs.Steps.{calls_steps_on}
use Rattle.heap_report.specs.declared.noted.Noted.{Noted}
use Rattle.heap_report.specs.Calls.{calls_in}
use Rattle.heap_report.specs.Noting.{IsNoted, IsReplaying}
use Rattle.heap_report.specs.ReplayingLaws.{peak-append, peak_end}

pub calls_in-append : (a b : List (Option Call)) → calls_in (a ++ b) ≡ calls_in a ++ calls_in b
calls_in-append [] b = refl
calls_in-append (Some call ∷ a) b = ap (λ (l : List Call). call ∷ l) (calls_in-append a b)
calls_in-append (None ∷ a) b = calls_in-append a b

pub noted_none : {T : Type 0} (keeps : T → List Call → List Answer → Type 0) (x : Noted T) → IsNoted keeps x [] x
noted_none keeps x = λ s follows least. record {
  served = record {
    answers = [];
    state = s;
    run = runs_none s;
    steps = refl;
    follows = follows;
    peak_is = omega (arith, least);
  };
  noted = λ before given kept. subst (λ (calls : List Call). keeps x.kept calls (given ++ [])) (sym (append-nil before)) (subst (λ (answers : List Answer). keeps x.kept before answers) (sym (append-nil given)) kept);
}

pub noted_on : {T : Type 0} (keeps : T → List Call → List Answer → Type 0) (x y z : Noted T) (a b : List Call) → IsNoted keeps x a y → IsNoted keeps y b z → IsNoted keeps x (a ++ b) z
noted_on keeps x y z a b h k = λ s follows least.
    let one = h s follows least in
    let first = one.served in
    let two = k first.state first.follows (let up = peak_end s first.state a first.answers first.run in omega (arith, first.peak_is, up)) in
    let last = two.served in
    record {
      served = record {
        answers = first.answers ++ last.answers;
        state = last.state;
        run = calls_on s first.state last.state a b first.answers last.answers first.run last.run;
        steps = calls_steps_on x.replay.machine y.replay.machine z.replay.machine a b first.answers last.answers
            first.steps last.steps;
        follows = last.follows;
        peak_is = let joined = peak-append s first.state a b first.answers last.answers first.run in omega (arith, last.peak_is, first.peak_is, joined);
      };
      noted = λ before given kept.
          subst (λ (calls : List Call). keeps z.kept calls (given ++ (first.answers ++ last.answers))) (append_assoc before a b)
          (subst (λ (answers : List Answer). keeps z.kept ((before ++ a) ++ b) answers) (append_assoc given first.answers last.answers)
          (two.noted (before ++ a) (given ++ first.answers) (one.noted before given kept)));
    }

pub replaying_none : {T : Type 0} (keeps : T → List Call → List Answer → Type 0) (x : Noted T) → IsReplaying keeps x [] [] x
replaying_none keeps x = record { silent = refl; replayed = noted_none keeps x }

pub replaying_on : {T : Type 0} (keeps : T → List Call → List Answer → Type 0) (x y z : Noted T) (a b : List (Option Call)) (t u : List ℕ) → IsReplaying keeps x a t y → IsReplaying keeps y b u z → IsReplaying keeps x (a ++ b) (t ++ u) z
replaying_on keeps x y z a b t u h k = record {
  silent = (λ i. h.silent i ++ k.silent i);
  replayed = subst (λ (calls : List Call). IsNoted keeps x calls z) (sym (calls_in-append a b)) (noted_on keeps x y z (calls_in a) (calls_in b) h.replayed k.replayed);
}
