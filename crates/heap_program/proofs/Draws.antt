-- Calls that are drawn, one after another.
use Rattle.std.proofs.Common.{◌≡◌, ℕ, ◌+◌, List, [], ◌∷◌, ◌++◌, length, map, Option, Some, refl, sym, ◌∙◌, ap, subst, append_assoc, length-append, arith, take, drop, take-append-drop, inl, inr}
use Rattle.std.proofs.lemmas.List.{append-nil}
use Rattle.std.specs.Io.KnownBytes.{Appends}
use Rattle.machine_model.specs.declared.answer.Answer.{Answer}
use Rattle.machine_model.specs.declared.call.Call.{Call}
use Rattle.machine_model.specs.State.{State}
use Rattle.machine_model.specs.Run.{RunsTo}
use Rattle.machine_model.proofs.Runs.{runs_none, calls_on}
use Rattle.kernel_heap.specs.declared.machine.Machine.{Machine}
use Rattle.kernel_heap.specs.Steps.{StepsTo}
use Rattle.kernel_heap.proofs.Steps.{calls_steps_on}
use Rattle.heap_program.specs.declared.generate.Drawing.{Drawing}
use Rattle.heap_program.specs.Drawing.{HasDrawnOne, HasDrawnCalls}
use Rattle.heap_program.specs.Flushed.{IsAllFlushed}
use Rattle.heap_program.specs.Generated.{AreDrawn, generated_text, IsGenerationStopped}
use Rattle.heap_program.specs.Generator.{first_state, drawn_call, refusals, drawn_calls, blocks_given, refused_count}
use Rattle.heap_program.specs.Progress.{IsAt}
use Rattle.heap_program.specs.Stepped.{IsGeneratedBy}
use Rattle.heap_program.specs.Text.{tally_line, end_text_of}
use Rattle.heap_program.proofs.Known.{appends_nothing}

refused-append : (xs : List Answer) (y : Answer) → refused_count (xs ++ y ∷ []) ≡ refused_count xs + refusals y.reply
refused-append [] y = omega arith
refused-append (x ∷ xs) y = let more = refused-append xs y in omega (arith, more)

-- no call
pub drawn_none : (s : State) (drawing : Drawing) → IsAt drawing.machine s → HasDrawnCalls s drawing drawing 0
drawn_none s drawing at = record {
  answers = [];
  counted = refl;
  calls = λ rest. refl;
  given = λ rest. refl;
  refused = omega arith;
  state = s;
  run = runs_none s;
  steps = refl;
  at = at;
}

-- some calls, and one more
pub drawn_more : (s : State) (old mid new : Drawing) (count : ℕ) (h : HasDrawnCalls s old mid count) →
    HasDrawnOne h.state mid new → HasDrawnCalls s old new (count + 1)
drawn_more s old mid new count h k =
    let call = drawn_call mid.state mid.given in
    let before = drawn_calls old.state old.given h.answers in
    let last : List Answer = k.answer ∷ [] in
    let one : drawn_calls old.state old.given (h.answers ++ last) ≡ before ++ call ∷ [] = h.calls last in
    record {
      answers = h.answers ++ last;
      counted = let len = length-append h.answers last in let counted = h.counted in omega (arith, len, counted);
      calls = λ rest.
          ap (drawn_calls old.state old.given) (append_assoc h.answers last rest)
          ∙ h.calls (k.answer ∷ rest)
          ∙ (λ i. before ++ call ∷ drawn_calls (sym k.next i) (sym k.given i) rest)
          ∙ sym (append_assoc before (call ∷ []) (drawn_calls new.state new.given rest))
          ∙ ap (λ (l : List Call). l ++ drawn_calls new.state new.given rest) (sym one);
      given = λ rest.
          ap (blocks_given old.state old.given) (append_assoc h.answers last rest)
          ∙ h.given (k.answer ∷ rest)
          ∙ (λ i. blocks_given (sym k.next i) (sym k.given i) rest);
      refused = let sum = refused-append h.answers k.answer in let first = h.refused in let then = k.refused in omega (arith, sum, first, then);
      state = k.state;
      run = subst (λ (calls : List Call). RunsTo s (map Some calls) (map Some (h.answers ++ last)) k.state) (sym one)
          (calls_on s h.state k.state before (call ∷ []) h.answers last h.run k.run);
      steps = subst (λ (calls : List Call).
          StepsTo old.machine (map Some calls) (map Some (h.answers ++ last)) new.machine) (sym one)
          (calls_steps_on old.machine mid.machine new.machine before (call ∷ []) h.answers last h.steps k.steps);
      at = k.at;
    }

-- what stands once all calls came
pub record IsWhole (s : State) (first : Machine) (seed count : ℕ) (drawing : Drawing) : Type 0 where
  pub answers : List Answer
  pub state : State
  pub counted : length answers ≡ count
  pub drawn : AreDrawn s seed answers state
  pub steps : StepsTo first (map Some (drawn_calls (first_state seed) 0 answers)) (map Some answers) drawing.machine
  pub tally : tally_line count drawing.given drawing.refused ≡ tally_line (length answers) (blocks_given (first_state seed) 0 answers) (refused_count answers)
  pub at : IsAt drawing.machine state

pub all_drawn : (s : State) (seed count : ℕ) (old new : Drawing) → old.state ≡ first_state seed → old.given ≡ 0 →
    old.refused ≡ 0 → HasDrawnCalls s old new count → IsWhole s old.machine seed count new
all_drawn s seed count old new first zero unrefused h =
    let calls : drawn_calls old.state old.given h.answers ≡ drawn_calls (first_state seed) 0 h.answers = (λ i. drawn_calls (first i) (zero i) h.answers) in
    let given : new.given ≡ blocks_given (first_state seed) 0 h.answers = sym (h.given []) ∙ (λ i. blocks_given (first i) (zero i) (append-nil h.answers i)) in
    let refused : new.refused ≡ refused_count h.answers = (let more = h.refused in omega (arith, more, unrefused)) in
    record {
      answers = h.answers;
      state = h.state;
      counted = h.counted;
      drawn = subst (λ (c : List Call). RunsTo s (map Some c) (map Some h.answers) h.state) calls h.run;
      steps = subst (λ (c : List Call). StepsTo old.machine (map Some c) (map Some h.answers) new.machine) calls h.steps;
      tally = λ i. tally_line (sym h.counted i) (given i) (refused i);
      at = h.at;
    }

-- the counts, and the end text after them
pub whole_text : (s : State) (first : Machine) (seed count : ℕ) (drawing : Drawing) (w : IsWhole s first seed count drawing)
    (empty told out : List ℕ) → empty ≡ [] → told ≡ empty ++ tally_line count drawing.given drawing.refused →
    out ≡ told ++ end_text_of w.state → out ≡ generated_text seed w.answers w.state
whole_text s first seed count drawing w empty told out none counts end =
    end ∙ ap (λ (text : List ℕ). text ++ end_text_of w.state) (counts ∙ ap
    (λ (text : List ℕ). text ++ tally_line count drawing.given drawing.refused) none ∙ w.tally)

-- nothing was written
pub none_generated : (first : Machine) (s : State) (seed count : ℕ) (taken : Option (List ℕ)) → IsGenerationStopped first s seed count taken taken
none_generated first s seed count taken = record { text = []; written = appends_nothing taken; front = inl refl }

-- a front of the text was written
pub part_generated : (s : State) (first : Machine) (seed count : ℕ) (drawing : Drawing)
    (w : IsWhole s first seed count drawing) (out : List ℕ) (before after : Option (List ℕ)) (n : ℕ) →
    out ≡ generated_text seed w.answers w.state → Appends before after (take n out) →
    IsGenerationStopped first s seed count before after
part_generated s first seed count drawing w out before after n is written = record {
  text = take n out;
  written = written;
  front = inr (record { answers = w.answers; state = w.state; counted = w.counted; drawn = w.drawn; last = drawing.machine; steps = w.steps; more = drop n out; front = take-append-drop n out ∙ is });
}

-- all of it was
pub all_generated : (s : State) (first : Machine) (seed count : ℕ) (drawing : Drawing)
    (w : IsWhole s first seed count drawing) (out : List ℕ) (before after : Option (List ℕ)) (flushed : Option ℕ) →
    out ≡ generated_text seed w.answers w.state → Appends before after out → IsAllFlushed after flushed →
    IsGeneratedBy first s seed count before after flushed drawing.machine
all_generated s first seed count drawing w out before after flushed is written all = record {
  run = record {
    answers = w.answers;
    state = w.state;
    counted = w.counted;
    drawn = w.drawn;
    written = subst (Appends before after) is written;
    flushed_all = all;
    good = w.at.good;
    stands = w.at.stands;
  };
  steps = w.steps;
}
