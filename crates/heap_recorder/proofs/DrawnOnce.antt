-- Each block is drawn once.
use Rattle.std.proofs.Common.{◌≡◌, ◌<◌, ℕ, zero, suc, ◌+◌, List, [], ◌∷◌, length, length-append, map, Some, refl, sym, ◌∙◌, ap, subst, arith}
use Rattle.machine_model.specs.declared.answer.Answer.{Answer}
use Rattle.machine_model.specs.declared.call.Call.{Call}
use Rattle.machine_model.specs.declared.config.Config.{Config}
use Rattle.machine_model.specs.Answer.{after}
use Rattle.machine_model.specs.Run.{IsAllowedRun}
use Rattle.machine_model.specs.State.{State, start}
use Rattle.heap_recorder.specs.Run.{Notes, nothing, noted, notes_from, moment, bytes_after}
use Rattle.heap_recorder.specs.Shown.{count_shown, has_block, state_after, EachBlockIsDrawnOnce}
use Rattle.heap_recorder.specs.Sizes.{sizes_after}
use Rattle.heap_recorder.specs.Stays.{stays_after}
use Rattle.heap_recorder.proofs.Later.{ArePast, showing, later, past_later, showing_later, showing_last, shows_all}
use Rattle.heap_recorder.proofs.Tracked.{Tracks, bit, tracked}

-- the notes of as many calls as there are moments, in the state after them
record IsKept (s : State) (notes : Notes) : Type 0 where
  tracks : Tracks s.blocks notes.stays
  past : ArePast (length notes.moments) notes.stays.stays

pub one_more : (notes : Notes) (call : Call) (answer : Answer) → length (noted notes call answer).moments ≡ suc (length notes.moments)
one_more notes call answer = let more = length-append notes.moments (moment (sizes_after notes.sizes call answer.reply)
    (bytes_after answer.regions notes.bytes) ∷ []) in omega (arith, more)

kept : (s : State) (notes : Notes) (call : Call) (answer : Answer) (calls : List Call) (answers : List Answer) →
    IsAllowedRun s (map Some (call ∷ calls)) (map Some (answer ∷ answers)) → IsKept s notes →
    IsKept (after s call answer) (noted notes call answer)
kept s notes call answer calls answers run is = record {
  tracks = tracked (length notes.moments) s call answer notes.stays run.0.0 is.tracks;
  past = subst (λ (n : ℕ). ArePast n (stays_after (length notes.moments) call answer.reply notes.stays).stays) (sym (one_more notes call answer))
      (past_later (length notes.moments) notes.stays.stays (stays_after (length notes.moments) call answer.reply
      notes.stays).stays (later (length notes.moments) call answer.reply notes.stays) is.past);
}

pub moments_all : (s : State) (notes : Notes) (calls : List Call) (answers : List Answer) →
    IsAllowedRun s (map Some calls) (map Some answers) → length (notes_from notes calls answers).moments ≡ length
    notes.moments + length calls
moments_all s notes [] [] run = omega arith
moments_all s notes (call ∷ calls) (answer ∷ answers) run =
    let rest = moments_all (after s call answer) (noted notes call answer) calls answers run.1 in
    let one = one_more notes call answer in
    omega (arith, rest, one)
moments_all s notes [] (answer ∷ answers) run = absurd run
moments_all s notes (call ∷ calls) [] run = absurd run

-- what showed shows still
showed : (s : State) (notes : Notes) (calls : List Call) (answers : List Answer) (k number address size : ℕ) →
    IsAllowedRun s (map Some calls) (map Some answers) → k < length notes.moments →
    count_shown (showing k number address size) (notes_from notes calls answers).stays.stays ≡ count_shown (showing k number address size) notes.stays.stays
showed s notes [] [] k number address size run less = refl
showed s notes (call ∷ calls) (answer ∷ answers) k number address size run less =
    showed (after s call answer) (noted notes call answer) calls answers k number address size run.1
    (let one = one_more notes call answer in omega (arith, one, less))
    ∙ showing_later (length notes.moments) k number address size notes.stays.stays
    (stays_after (length notes.moments) call answer.reply notes.stays).stays less
    (later (length notes.moments) call answer.reply notes.stays)
showed s notes [] (answer ∷ answers) k number address size run less = absurd run
showed s notes (call ∷ calls) [] k number address size run less = absurd run

-- and after each call the live blocks do
shown_then : (s : State) (notes : Notes) (calls : List Call) (answers : List Answer) (k number address size : ℕ) →
    IsAllowedRun s (map Some calls) (map Some answers) → IsKept s notes → k < length calls →
    count_shown (showing (length notes.moments + k) number address size) (notes_from notes calls answers).stays.stays ≡ bit
    (has_block (state_after s calls answers (suc k)) number address size)
shown_then s notes [] [] k number address size run is less = absurd (omega (arith, less))
shown_then s notes (call ∷ calls) (answer ∷ answers) zero number address size run is less =
    let next = kept s notes call answer calls answers run is in
    let n = length notes.moments in
    let here : n + zero ≡ n = omega arith in
    ap (λ (m : ℕ). count_shown (showing m number address size) (notes_from (noted notes call answer) calls answers).stays.stays) here
    ∙ showed (after s call answer) (noted notes call answer) calls answers n number address size run.1
    (let one = one_more notes call answer in omega (arith, one))
    ∙ showing_last n number address size (noted notes call answer).stays.stays
    (subst (λ (m : ℕ). ArePast m (noted notes call answer).stays.stays) (one_more notes call answer) next.past)
    ∙ next.tracks.counts number address size
shown_then s notes (call ∷ calls) (answer ∷ answers) (suc k) number address size run is less =
    let next = kept s notes call answer calls answers run is in
    let there : length notes.moments + suc k ≡ length (noted notes call answer).moments + k = (let one = one_more notes call answer in omega (arith, one)) in
    ap (λ (m : ℕ). count_shown (showing m number address size) (notes_from (noted notes call answer) calls answers).stays.stays) there
    ∙ shown_then (after s call answer) (noted notes call answer) calls answers k number address size run.1 next (omega (arith, less))
shown_then s notes [] (answer ∷ answers) k number address size run is less = absurd run
shown_then s notes (call ∷ calls) [] k number address size run is less = absurd run

kept_start : (config : Config) → IsKept (start config) nothing
kept_start config = record { tracks = record { counts = λ number address size. refl; begun = refl }; past = tt }

pub drawn_once : EachBlockIsDrawnOnce
drawn_once config calls answers run k number address size less =
    let notes = notes_from nothing calls answers in
    let count : length notes.moments ≡ length calls = (let all = moments_all (start config) nothing calls answers run in omega (arith, all)) in
    let here : k ≡ 0 + k = omega arith in
    shows_all (length notes.moments) k number address size notes.stays.stays (omega (arith, count, less))
    ∙ ap (λ (m : ℕ). count_shown (showing m number address size) notes.stays.stays) here
    ∙ shown_then (start config) nothing calls answers k number address size run (kept_start config) less
