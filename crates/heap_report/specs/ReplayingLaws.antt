-- The peak of runs, one after another.
use Rattle.std.proofs.Common.{◌≡◌, ◌≤◌, max, List, [], ◌∷◌, ◌++◌, map, Some, ap, arith}
use Rattle.machine_model.specs.declared.answer.Answer.{Answer}
use Rattle.machine_model.specs.declared.call.Call.{Call}
use Rattle.machine_model.specs.State.{State}
use Rattle.machine_model.specs.Answer.{after}
use Rattle.machine_model.specs.Run.{RunsTo}
use Rattle.heap_report.specs.Live.{live, peak}

-- the peak is at least what is live at the start
peak_start : (s : State) (calls : List Call) (answers : List Answer) → live s ≤ peak s calls answers
peak_start s [] answers = omega arith
peak_start s (call ∷ calls) [] = omega arith
peak_start s (call ∷ calls) (answer ∷ answers) = omega arith

-- the greatest sum over one run and another after it
pub peak-append : (s e : State) (a b : List Call) (x y : List Answer) → RunsTo s (map Some a) (map Some x) e → peak s (a ++ b) (x ++ y) ≡ max (peak s a x) (peak e b y)
peak-append s e [] b [] y run =
    let same : peak e b y ≡ peak s b y = ap (λ (m : State). peak m b y) run.last in
    let least = peak_start s b y in
    omega (arith, same, least)
peak-append s e (call ∷ a) b (answer ∷ x) y run =
    let more = peak-append (after s call answer) e a b x y (record { run = run.run.1; last = run.last }) in
    omega (arith, more)
peak-append s e [] b (answer ∷ x) y run = absurd run.run
peak-append s e (call ∷ a) b [] y run = absurd run.run

-- the peak is at least what is live at the end
pub peak_end : (s e : State) (calls : List Call) (answers : List Answer) → RunsTo s (map Some calls) (map Some answers) e → live e ≤ peak s calls answers
peak_end s e [] [] run = omega (arith, ap live run.last)
peak_end s e (call ∷ calls) (answer ∷ answers) run =
    let more = peak_end (after s call answer) e calls answers (record { run = run.run.1; last = run.last }) in
    omega (arith, more)
peak_end s e [] (answer ∷ answers) run = absurd run.run
peak_end s e (call ∷ calls) [] run = absurd run.run
