-- What is noted of a moment is what is so of the state.
use Rattle.std.proofs.Common.{◌≡◌, ◌<◌, ℕ, zero, suc, ◌+◌, ◌*◌, ◌%◌, ◌^◌, List, [], ◌∷◌, ◌++◌, length, length-append, map, Option, Some, None, refl, sym, ◌∙◌, ap, arith}
use Rattle.std.specs.Prelude.{slice_get, sum}
use Rattle.heap_history.specs.declared.history.Moment.{Moment}
use Rattle.machine_model.specs.declared.answer.Answer.{Answer}
use Rattle.machine_model.specs.declared.call.Call.{Call}
use Rattle.machine_model.specs.declared.region.Region.{Region}
use Rattle.machine_model.specs.State.{State, start, total_pages}
use Rattle.machine_model.specs.Answer.{IsAllowed, NewPages, after, changed, new_pages, slots_of, with_regions}
use Rattle.machine_model.specs.Run.{IsAllowedRun}
use Rattle.heap_recorder.proofs.KeptHeap.{changed_heap}
use Rattle.heap_recorder.specs.Run.{Notes, nothing, noted, notes_from, bytes_after}
use Rattle.heap_recorder.specs.Shown.{state_after}
use Rattle.heap_recorder.specs.Sizes.{sizes_after}
use Rattle.heap_report.specs.Live.{live, sizes_of}
use Rattle.heap_report.specs.Moments.{moment_of, EachMomentIsOfItsState}
use Rattle.heap_report.proofs.KeptSizes.{kept_sizes}

abbrev bytes_of : State → ℕ
bytes_of s = 4096 * total_pages s.heap % 2 ^ 128

bytes_noted : (s : State) (regions : Option (List Region)) (new : Option NewPages) (slots : List ℕ) →
    bytes_after regions (bytes_of s) ≡ bytes_of (with_regions s regions new slots)
bytes_noted s None None slots = refl
bytes_noted s None (Some new) slots = refl
bytes_noted s (Some list) None slots = refl
bytes_noted s (Some list) (Some new) slots = refl

-- the notes have what is so of the state
record AreOf (s : State) (notes : Notes) : Type 0 where
  sizes : notes.sizes ≡ sizes_of s
  bytes : notes.bytes ≡ bytes_of s

noted_of : (s : State) (notes : Notes) (call : Call) (answer : Answer) → IsAllowed s call answer → AreOf s notes →
    AreOf (after s call answer) (noted notes call answer)
noted_of s notes call answer allowed are = record {
  sizes = ap (λ (sizes : List ℕ). sizes_after sizes call answer.reply) are.sizes ∙ sym (kept_sizes s call answer allowed);
  bytes = ap (bytes_after answer.regions) (are.bytes ∙ ap (λ (heap : List Region). 4096 * total_pages heap % 2 ^ 128) (sym (changed_heap s call answer.reply)))
      ∙ bytes_noted (changed s call answer.reply) answer.regions (new_pages s call answer.reply answer.regions) (slots_of answer.large);
}

get_kept : (xs ys : List Moment) (k : ℕ) → k < length xs → slice_get (xs ++ ys) k ≡ slice_get xs k
get_kept [] ys k less = absurd (omega (arith, less))
get_kept (x ∷ xs) ys zero less = refl
get_kept (x ∷ xs) ys (suc k) less = get_kept xs ys k (omega (arith, less))

get_last : (xs : List Moment) (x : Moment) → slice_get (xs ++ x ∷ []) (length xs) ≡ Some x
get_last [] x = refl
get_last (y ∷ xs) x = get_last xs x

one_more : (notes : Notes) (call : Call) (answer : Answer) → length (noted notes call answer).moments ≡ suc (length notes.moments)
one_more notes call answer = let more = length-append notes.moments (record {
  live =
      sum (sizes_after notes.sizes call answer.reply);
  heap = bytes_after answer.regions notes.bytes;
} ∷ []) in
    omega (arith, more)

-- later calls change no moment
stays_so : (notes : Notes) (calls : List Call) (answers : List Answer) (k : ℕ) → k < length notes.moments →
    slice_get (notes_from notes calls answers).moments k ≡ slice_get notes.moments k
stays_so notes [] answers k less = refl
stays_so notes (call ∷ calls) [] k less = refl
stays_so notes (call ∷ calls) (answer ∷ answers) k less =
    stays_so (noted notes call answer) calls answers k (let one = one_more notes call answer in omega (arith, one, less))
    ∙ get_kept notes.moments (record { live = sum (sizes_after notes.sizes call answer.reply); heap = bytes_after answer.regions notes.bytes } ∷ []) k less

same_moment : (s : State) (notes : Notes) → AreOf s notes → Some (record { live = sum notes.sizes; heap = notes.bytes }) ≡ Some (moment_of s)
same_moment s notes are = (λ i. Some (record { live = sum (are.sizes i); heap = are.bytes i }))

moments_of : (s : State) (notes : Notes) (calls : List Call) (answers : List Answer) (k : ℕ) →
    IsAllowedRun s (map Some calls) (map Some answers) → AreOf s notes → k < length calls →
    slice_get (notes_from notes calls answers).moments (length notes.moments + k) ≡ Some (moment_of (state_after s calls answers (suc k)))
moments_of s notes [] answers k run are less = absurd (omega (arith, less))
moments_of s notes (call ∷ calls) [] k run are less = absurd run
moments_of s notes (call ∷ calls) (answer ∷ answers) zero run are less =
    let here : length notes.moments + zero ≡ length notes.moments = omega arith in
    ap (slice_get (notes_from (noted notes call answer) calls answers).moments) here
    ∙ stays_so (noted notes call answer) calls answers (length notes.moments) (let one = one_more notes call answer in omega (arith, one))
    ∙ get_last notes.moments (record { live = sum (sizes_after notes.sizes call answer.reply); heap = bytes_after answer.regions notes.bytes })
    ∙ same_moment (after s call answer) (noted notes call answer) (noted_of s notes call answer run.0.0 are)
moments_of s notes (call ∷ calls) (answer ∷ answers) (suc k) run are less =
    let there : length notes.moments + suc k ≡ length (noted notes call answer).moments + k = (let one = one_more notes call answer in omega (arith, one)) in
    ap (slice_get (notes_from (noted notes call answer) calls answers).moments) there
    ∙ moments_of (after s call answer) (noted notes call answer) calls answers k run.1 (noted_of s notes call answer run.0.0 are) (omega (arith, less))

pub each_moment : EachMomentIsOfItsState
each_moment config calls answers run k less =
    let here : k ≡ 0 + k = omega arith in
    ap (slice_get (notes_from nothing calls answers).moments) here
    ∙ moments_of (start config) nothing calls answers k run (record { sizes = refl; bytes = refl }) less
