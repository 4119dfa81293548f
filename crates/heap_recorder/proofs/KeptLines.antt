-- What is noted of lines is those of the calls.
use Rattle.std.proofs.Common.{◌≡◌, ℕ, ◌+◌, Bool, true, false, nat_lt, nat_le, List, [], ◌∷◌, ◌++◌, length, length-append, map, refl, sym, ◌∙◌, ap, arith, append_assoc}
use Rattle.std.specs.Prelude.{if◌then◌else◌}
use Rattle.std.proofs.lemmas.Bool.Decides.{nat_tests}
use Rattle.std.proofs.lemmas.List.{map-append, append-nil}
use Rattle.machine_model.specs.declared.answer.Answer.{Answer}
use Rattle.machine_model.specs.declared.call.Call.{Call}
use Rattle.call_lines.specs.CallLine.{call_line}
use Rattle.heap_recorder.specs.Lines.{lines_after, kept_call_lines}
use Rattle.heap_recorder.specs.Run.{Notes, nothing, noted, notes_from, moment, bytes_after, LinesAreTheCalls}
use Rattle.heap_recorder.specs.Sizes.{sizes_after}

more_calls : (calls : List Call) (call : Call) → length (calls ++ call ∷ []) ≡ length calls + 1
more_calls calls call = let more = length-append calls (call ∷ []) in omega (arith, more)

-- of one more call
line_more : (calls : List Call) (call : Call) → lines_after (length calls) call (kept_call_lines calls) ≡ kept_call_lines (calls ++ call ∷ [])
line_more calls call = go (nat_lt (length calls) 64) refl
  where
    go : (b : Bool) → nat_lt (length calls) 64 ≡ b → (if b then kept_call_lines calls ++ call_line call ∷ [] else []) ≡ kept_call_lines (calls ++ call ∷ [])
    go true is =
        let now : nat_le (length calls) 64 ≡ true = grind (arith, nat_tests, is) in
        let later : nat_le (length (calls ++ call ∷ [])) 64 ≡ true = (let more = more_calls calls call in grind (arith, nat_tests, is, more)) in
        ap (λ (b : Bool). (if b then map call_line calls else []) ++ call_line call ∷ []) now
        ∙ sym (map-append call_line calls (call ∷ []))
        ∙ sym (ap (λ (b : Bool). if b then map call_line (calls ++ call ∷ []) else []) later)
    go false is =
        let later : nat_le (length (calls ++ call ∷ [])) 64 ≡ false = (let more = more_calls calls call in grind (arith, nat_tests, is, more)) in
        sym (ap (λ (b : Bool). if b then map call_line (calls ++ call ∷ []) else []) later)

moments_more : (notes : Notes) (call : Call) (answer : Answer) → length (noted notes call answer).moments ≡ length notes.moments + 1
moments_more notes call answer = let more = length-append notes.moments
    (moment (sizes_after notes.sizes call answer.reply) (bytes_after answer.regions notes.bytes) ∷ []) in
    omega (arith, more)

-- and of all that come
lines_from : (earlier : List Call) (notes : Notes) (calls : List Call) (answers : List Answer) →
    length calls ≡ length answers → length earlier ≡ length notes.moments → notes.lines ≡ kept_call_lines earlier →
    (notes_from notes calls answers).lines ≡ kept_call_lines (earlier ++ calls)
lines_from earlier notes [] answers same count are = are ∙ sym (ap kept_call_lines (append-nil earlier))
lines_from earlier notes (call ∷ calls) [] same count are = absurd (omega (arith, same))
lines_from earlier notes (call ∷ calls) (answer ∷ answers) same count are =
    let now : (noted notes call answer).lines ≡ kept_call_lines (earlier ++ call ∷ []) =
    ap (λ (n : ℕ). lines_after n call notes.lines) (sym count) ∙ ap (lines_after (length earlier) call) are ∙ line_more earlier call in
    let counts : length (earlier ++ call ∷ []) ≡ length (noted notes call answer).moments =
    (let one = more_calls earlier call in let other = moments_more notes call answer in omega (arith, one, other, count)) in
    lines_from (earlier ++ call ∷ []) (noted notes call answer) calls answers (omega (arith, same)) counts now
    ∙ ap kept_call_lines (append_assoc earlier (call ∷ []) calls)

pub lines_are_calls : LinesAreTheCalls
lines_are_calls calls answers same = lines_from [] nothing calls answers same refl refl
