-- How a drawing goes on.
use Rattle.std.specs.Prelude.{◌≡◌, ℕ, ◌+◌, List, [], ◌∷◌, ◌++◌, length, map, Some}
use Rattle.machine_model.specs.declared.answer.Answer.{Answer}
use Rattle.machine_model.specs.State.{State}
use Rattle.machine_model.specs.Run.{RunsTo}
use Rattle.kernel_heap.specs.Steps.{StepsTo}
use Rattle.heap_program.specs.declared.generate.Drawing.{Drawing}
use Rattle.heap_program.specs.Generator.{drawn_call, drawn_thrice, numbers_given, refusals, drawn_calls, blocks_given, refused_count}
use Rattle.heap_program.specs.Progress.{IsAt}

-- From the state s one more call was drawn and answered.
pub record HasDrawnOne (s : State) (old new : Drawing) : Type 0 where
  pub answer : Answer
  pub next : new.state ≡ drawn_thrice old.state
  pub given : new.given ≡ old.given + numbers_given (drawn_call old.state old.given) answer.reply
  pub refused : new.refused ≡ old.refused + refusals answer.reply
  pub state : State
  pub run : RunsTo s (Some (drawn_call old.state old.given) ∷ []) (Some answer ∷ []) state
  pub steps : StepsTo old.machine (Some (drawn_call old.state old.given) ∷ []) (Some answer ∷ []) new.machine
  pub at : IsAt new.machine state

-- From the state s, `count` calls more were drawn and answered.
pub record HasDrawnCalls (s : State) (old new : Drawing) (count : ℕ) : Type 0 where
  pub answers : List Answer
  pub counted : length answers ≡ count
  pub calls : (rest : List Answer) → drawn_calls old.state old.given (answers ++ rest) ≡ drawn_calls old.state old.given answers ++ drawn_calls new.state new.given rest
  pub given : (rest : List Answer) → blocks_given old.state old.given (answers ++ rest) ≡ blocks_given new.state new.given rest
  pub refused : new.refused ≡ old.refused + refused_count answers
  pub state : State
  pub run : RunsTo s (map Some (drawn_calls old.state old.given answers)) (map Some answers) state
  pub steps : StepsTo old.machine (map Some (drawn_calls old.state old.given answers)) (map Some answers) new.machine
  pub at : IsAt new.machine state
