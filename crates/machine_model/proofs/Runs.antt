-- Runs, one after another.
use Rattle.std.proofs.Common.{List, [], ◌∷◌, ◌++◌, map, Option, Some, refl, sym, subst}
use Rattle.std.proofs.lemmas.List.{map-append}
use Rattle.machine_model.specs.declared.answer.Answer.{Answer}
use Rattle.machine_model.specs.declared.call.Call.{Call}
use Rattle.machine_model.specs.State.{State}
use Rattle.machine_model.specs.Run.{RunsTo, next}

-- no item
pub runs_none : (s : State) → RunsTo s [] [] s
runs_none s = record { run = tt; last = refl }

-- a run, and then another from its last state
pub run_on : (s m e : State) (xs ys : List (Option Call)) (us vs : List (Option Answer)) → RunsTo s xs us m →
    RunsTo m ys vs e → RunsTo s (xs ++ ys) (us ++ vs) e
run_on s m e [] ys [] vs h k = subst (λ (q : State). RunsTo q ys vs e) h.last k
run_on s m e (x ∷ xs) ys (u ∷ us) vs h k =
    let r = run_on (next s x u) m e xs ys us vs (record { run = h.run.1; last = h.last }) k in
    record { run = (h.run.0, r.run); last = r.last }
run_on s m e [] ys (u ∷ us) vs h k = absurd h.run
run_on s m e (x ∷ xs) ys [] vs h k = absurd h.run

-- where every item is a call
pub calls_on : (s m e : State) (a b : List Call) (x y : List Answer) → RunsTo s (map Some a) (map Some x) m →
    RunsTo m (map Some b) (map Some y) e → RunsTo s (map Some (a ++ b)) (map Some (x ++ y)) e
calls_on s m e a b x y h k =
    subst (λ (items : List (Option Call)). RunsTo s items (map Some (x ++ y)) e) (sym (map-append Some a b))
    (subst (λ (answers : List (Option Answer)). RunsTo s (map Some a ++ map Some b) answers e)
    (sym (map-append Some x y)) (run_on s m e (map Some a) (map Some b) (map Some x) (map Some y) h k))
