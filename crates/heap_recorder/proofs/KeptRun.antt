-- One call more of a run.
use Rattle.std.proofs.Common.{◌≡◌, List, [], ◌∷◌, ◌++◌, length, length-append, refl, sym, ◌∙◌, ap, arith}
use Rattle.heap_history.specs.declared.history.History.{History}
use Rattle.machine_model.specs.declared.answer.Answer.{Answer}
use Rattle.machine_model.specs.declared.call.Call.{Call}
use Rattle.heap_recorder.specs.Run.{Notes, IsRecordOf, nothing, noted, notes_from, history_in, history_of}

notes_more : (notes : Notes) (calls : List Call) (answers : List Answer) (call : Call) (answer : Answer) →
    length calls ≡ length answers → notes_from notes (calls ++ call ∷ []) (answers ++ answer ∷ []) ≡ noted
    (notes_from notes calls answers) call answer
notes_more notes [] [] call answer same = refl
notes_more notes (one ∷ calls) (given ∷ answers) call answer same = notes_more (noted notes one given) calls answers call answer (omega (arith, same))
notes_more notes [] (given ∷ answers) call answer same = absurd (omega (arith, same))
notes_more notes (one ∷ calls) [] call answer same = absurd (omega (arith, same))

pub record_more : (old new : Notes) (call : Call) (answer : Answer) → new ≡ noted old call answer →
    (calls : List Call) (answers : List Answer) → IsRecordOf old calls answers →
    IsRecordOf new (calls ++ call ∷ []) (answers ++ answer ∷ [])
record_more old new call answer is calls answers are = record {
  one_each = let one = length-append calls (call ∷ []) in let other = length-append answers (answer ∷ []) in let same =
      are.one_each in omega (arith, one, other, same);
  is = is ∙ ap (λ (notes : Notes). noted notes call answer) are.is ∙ sym (notes_more nothing calls answers call answer are.one_each);
}

pub record_end : (notes : Notes) (history : History) → history ≡ history_in notes →
    (calls : List Call) (answers : List Answer) → IsRecordOf notes calls answers → history ≡ history_of calls answers
record_end notes history is calls answers are = is ∙ ap history_in are.is
