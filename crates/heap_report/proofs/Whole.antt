-- A whole input that is replayed.
use Rattle.std.proofs.Common.{◌≡◌, ◌≤◌, ◌^◌, ℕ, max, List, [], ◌∷◌, ◌++◌, map, take, drop, inl, inr, Option, Some, None, refl, sym, ◌∙◌, ap, subst, arith, take-append-drop}
use Rattle.std.proofs.lemmas.List.{append-nil}
use Rattle.std.specs.Io.KnownBytes.{Appends, IsAtEnd}
use Rattle.dlmalloc_chunks.specs.declared.extent.Extent.{Extent}
use Rattle.machine_model.specs.declared.answer.Answer.{Answer}
use Rattle.machine_model.specs.declared.call.Call.{Call}
use Rattle.machine_model.specs.declared.call.Call.TheVariants.{Extents}
use Rattle.machine_model.specs.State.{State}
use Rattle.machine_model.specs.Run.{RunsTo}
use Rattle.machine_model.proofs.Runs.{calls_on}
use Rattle.kernel_heap.specs.declared.machine.Machine.{Machine}
use Rattle.kernel_heap.specs.Steps.{StepsTo}
use Rattle.kernel_heap.proofs.Steps.{calls_steps_on}
use Rattle.heap_program.specs.declared.run.Stop.{Stop}
use Rattle.heap_program.specs.Flushed.{IsAllFlushed}
use Rattle.heap_program.specs.Lines.{items_of}
use Rattle.heap_program.specs.Progress.{IsAt}
use Rattle.heap_program.specs.Responses.{HasResponded}
use Rattle.heap_program.specs.Stop.{HasRead, HasStopped}
use Rattle.heap_program.proofs.Wholes.{read_whole}
use Rattle.heap_report.specs.declared.listed.Listed.{Listed}
use Rattle.heap_report.specs.declared.noted.Noted.{Noted}
use Rattle.heap_report.specs.Calls.{calls_in, calls_of}
use Rattle.heap_report.specs.Extents.{AreTheHeapsExtents}
use Rattle.heap_report.specs.Listed.{IsListedByReplay}
use Rattle.heap_report.specs.Live.{live, peak}
use Rattle.heap_report.specs.Noting.{IsBegunWith, IsNoted, IsReplaying}
use Rattle.heap_report.specs.NotingLaws.{replaying_on}
use Rattle.heap_report.specs.ReplayingLaws.{peak-append, peak_end}
use Rattle.heap_report.specs.Reported.{IsReplayOf, IsTold, IsToldInPart, text_of_run}
use Rattle.heap_report.proofs.Serving.{begun_follows, none_live}

abbrev Text : Type 0
Text = Machine → State → ℕ → ℕ → List Extent → List Call → List Answer → List ℕ

-- all calls of the input were served, the last line's too
pub served_input : {T : Type 0} (keeps : T → List Call → List Answer → Type 0) (first last end : Noted T) (line : List ℕ)
    (l l1 t t1 : Option (List ℕ)) (n : ℕ) (before after : List ℕ) (h : HasRead (IsReplaying keeps) first last line l l1 t t1
    n) → HasResponded (IsReplaying keeps) last (items_of line) before after end
    → IsNoted keeps first (calls_in (items_of h.bytes)) end
served_input keeps first last end line l l1 t t1 n before after h k =
    let a = h.responded in
    let items : items_of h.bytes ≡ a.items ++ items_of line =
    ap items_of (sym (append-nil h.bytes)) ∙ a.read [] ∙ ap (λ (rest : List ℕ). a.items ++ items_of rest) (append-nil line) in
    let both = replaying_on keeps first last end a.items (items_of line) h.told k.told a.responses k.responses in
    subst (λ (l : List (Option Call)). IsNoted keeps first (calls_in l) end) (sym items) both.replayed

-- and then the extents were asked for
pub record IsWhole {T : Type 0} (keeps : T → List Call → List Answer → Type 0) (s : State) (machine : Machine)
    (input : List ℕ) (kept : T) (listed : Listed) : Type 0 where
  pub answers : List Answer
  pub state : State
  pub replay : IsReplayOf s input answers state listed.extents
  pub steps : StepsTo machine (map Some (calls_of input)) (map Some answers) listed.machine
  pub of_heap : AreTheHeapsExtents listed.machine listed.extents
  pub at : IsAt listed.machine state
  pub live_is : listed.live ≡ live state
  pub peak_is : listed.peak ≡ peak s (calls_of input) answers
  pub keeping : keeps kept (calls_in (items_of input)) replay.last.earlier

-- the greatest over a run that begins at 0 and one behind it
joined_peak : (before first last both middle now : ℕ) → now ≡ max middle last → middle ≡ max before first → before ≡ 0 → both ≡ max first last → now ≡ both
joined_peak before first last both middle now top up none joined = omega (arith, top, up, none, joined)

pub whole : {T : Type 0} (keeps : T → List Call → List Answer → Type 0) (s : State) (machine : Machine)
    (first end : Noted T) (listed : Listed) (input : List ℕ) → IsAt machine s → s.blocks ≡ [] →
    IsBegunWith keeps machine first → IsNoted keeps first (calls_in (items_of input)) end →
    IsListedByReplay end.replay listed →
    IsWhole keeps s machine input end.kept listed
whole keeps s machine first end listed input at none begins served lists =
    let begun = begins.begun in
    let calls = calls_in (items_of input) in
    let nothing : live s ≡ 0 = none_live s none in
    let all_served = served s (begun_follows s machine first.replay begun at none) (omega (arith, nothing)) in
    let k = all_served.served in
    let up = peak_end s k.state calls k.answers k.run in
    let e = lists k.state k.follows (omega (arith, up, k.peak_is)) in
    let all : RunsTo s (map Some (calls_of input)) (map Some (k.answers ++ e.answer ∷ [])) e.state =
    calls_on s k.state e.state calls (Extents ∷ []) k.answers (e.answer ∷ []) k.run e.run in
    let joined = peak-append s k.state calls (Extents ∷ []) k.answers (e.answer ∷ []) k.run in
    let top : listed.peak ≡ peak s (calls_of input) (k.answers ++ e.answer ∷ []) =
    joined_peak first.replay.peak (peak s calls k.answers) (peak k.state (Extents ∷ []) (e.answer ∷ []))
    (peak s (calls_of input) (k.answers ++ e.answer ∷ [])) end.replay.peak listed.peak e.peak_is k.peak_is begun.peak_is
    joined in
    record {
      answers = k.answers ++ e.answer ∷ [];
      state = e.state;
      replay = record {
        run = all;
        last = record { earlier = k.answers; last = e.answer; split = refl; listed = e.lists };
        tiles = e.tiles;
        good = e.at.good;
      };
      steps = subst (λ (m : Machine). StepsTo m (map Some (calls_of input)) (map Some (k.answers ++ e.answer ∷ [])) listed.machine) begun.machine_is
          (calls_steps_on first.replay.machine end.replay.machine listed.machine calls (Extents ∷ []) k.answers
          (e.answer ∷ []) k.steps e.steps);
      of_heap = e.of_heap;
      at = e.at;
      live_is = e.live_is;
      peak_is = top;
      keeping = all_served.noted [] [] begins.kept;
    }

-- the text of the run is the one pushed
pub text_is : {T : Type 0} (keeps : T → List Call → List Answer → Type 0) (text : Text) (s : State) (machine : Machine)
    (input : List ℕ) (kept : T) (listed : Listed) (extents : List Extent) (output before : List ℕ)
    (w : IsWhole keeps s machine input kept listed) → extents ≡ listed.extents →
    ((e : State) (calls : List Call) (answers : List Answer) → IsAt listed.machine e → keeps kept calls answers →
    output ≡ before ++ text listed.machine e listed.live listed.peak extents calls answers) → before ≡ []
    → output ≡ text_of_run text listed.machine s input w.answers w.state listed.extents w.replay.last.earlier
text_is keeps text s machine input kept listed extents output before w same pushed empty =
    let calls = calls_in (items_of input) in
    let earlier = w.replay.last.earlier in
    pushed w.state calls earlier w.at w.keeping
    ∙ ap (λ (l : List ℕ). l ++ text listed.machine w.state listed.live listed.peak extents calls earlier) empty
    ∙ ap (λ (l : List Extent). text listed.machine w.state listed.live listed.peak l calls earlier) same
    ∙ ap (λ (n : ℕ). text listed.machine w.state n listed.peak listed.extents calls earlier) w.live_is
    ∙ ap (λ (n : ℕ). text listed.machine w.state (live w.state) n listed.extents calls earlier) w.peak_is

-- nothing, and then a text
appends_behind : (a b c : Option (List ℕ)) (ys : List ℕ) → Appends a b [] → Appends b c ys → Appends a c ys
appends_behind None b c ys h k = tt
appends_behind (Some us) None c ys h k = absurd h
appends_behind (Some us) (Some bs) None ys h k = absurd k
appends_behind (Some us) (Some bs) (Some cs) ys h k = k ∙ ap (λ (l : List ℕ). l ++ ys) (h ∙ append-nil us)

-- nothing went out while the input was read
pub silent_read : {T : Type 0} (keeps : T → List Call → List Answer → Type 0) (first last : Noted T) (line : List ℕ)
    (l l1 t t1 : Option (List ℕ)) (n : ℕ) → HasRead (IsReplaying keeps) first last line l l1 t t1 n → Appends t t1 []
silent_read keeps first last line l l1 t t1 n h = subst (λ (out : List ℕ). Appends t t1 out) h.responded.responses.silent h.appended

front_nothing : (told more whole : List ℕ) → told ++ more ≡ whole → whole ≡ [] → told ≡ []
front_nothing [] more whole split none = refl
front_nothing (x ∷ told) more whole split none = absurd (cc (split ∙ none))

pub silent_stop : {T : Type 0} (keeps : T → List Call → List Answer → Type 0) (first : Noted T) (stop : Stop)
    (l l1 t t1 : Option (List ℕ)) → HasStopped (IsReplaying keeps) first stop l l1 t t1 → Appends t t1 []
silent_stop keeps first stop l l1 t t1 h = subst (λ (out : List ℕ). Appends t t1 out)
    (front_nothing h.told h.front.more h.front.whole h.front.front h.front.responses.silent) h.appended

-- a run that stopped as it read
pub part_stopped : {T : Type 0} (keeps : T → List Call → List Answer → Type 0) (text : Text) (s : State) (machine : Machine) (first : Noted T)
    (stop : Stop) (l l1 t t1 : Option (List ℕ)) → HasStopped (IsReplaying keeps) first stop l l1 t t1 →
    IsToldInPart text s machine l l1 t t1
part_stopped keeps text s machine first stop l l1 t t1 h = record {
  taken = h.bytes;
  read = h.consumed;
  short = h.short;
  front = [];
  written = silent_stop keeps first stop l l1 t t1 h;
  is = inl refl;
}

-- one that stopped after that, before it wrote
pub part_read : {T : Type 0} (keeps : T → List Call → List Answer → Type 0) (text : Text) (s : State) (machine : Machine) (first last : Noted T)
    (line : List ℕ) (l l1 t t1 : Option (List ℕ)) (n : ℕ) → HasRead (IsReplaying keeps) first last line l l1 t t1 n →
    n ≤ 2 ^ 30 → IsToldInPart text s machine l l1 t t1
part_read keeps text s machine first last line l l1 t t1 n h short =
    record {
      taken = h.bytes;
      read = h.consumed;
      short = omega (arith, h.counted, short);
      front = [];
      written =
          silent_read keeps first last line l l1 t t1 n h;
      is = inl refl;
    }

-- one that stopped as it wrote
pub part_written : {T : Type 0} (keeps : T → List Call → List Answer → Type 0) (text : Text) (s : State) (machine : Machine)
    (first last : Noted T) (kept : T) (listed : Listed) (line output : List ℕ) (l l1 t t1 t2 : Option (List ℕ)) (n k : ℕ)
    (h : HasRead (IsReplaying keeps) first last line l l1 t t1 n) → n ≤ 2 ^ 30 → IsAtEnd l1 →
    (w : IsWhole keeps s machine h.bytes kept listed)
    → output ≡ text_of_run text listed.machine s h.bytes w.answers w.state listed.extents w.replay.last.earlier →
    Appends t1 t2 (take k output) → IsToldInPart text s machine l l1 t t2
part_written keeps text s machine first last kept listed line output l l1 t t1 t2 n k h short done w is written = record {
  taken = h.bytes;
  read = h.consumed;
  short = omega (arith, h.counted, short);
  front = take k output;
  written = appends_behind t t1 t2 (take k output) (silent_read keeps first last line l l1 t t1 n h) written;
  is = inr (record {
    input = h.bytes;
    read = read_whole l l1 h.bytes h.consumed done;
    answers = w.answers;
    state = w.state;
    extents = listed.extents;
    replay = w.replay;
    machine = listed.machine;
    steps = w.steps;
    stands = w.at.stands;
    of_heap = w.of_heap;
    more = drop k output;
    is = take-append-drop k output ∙ is;
  });
}

-- one that ended well
pub told : {T : Type 0} (keeps : T → List Call → List Answer → Type 0) (text : Text) (s : State) (machine : Machine)
    (first last : Noted T) (kept : T) (listed : Listed) (line output : List ℕ) (l l1 t t1 t2 : Option (List ℕ))
    (flushed : Option ℕ) (n : ℕ) (h : HasRead (IsReplaying keeps) first last line l l1 t t1 n) → IsAtEnd l1 →
    (w : IsWhole keeps s machine h.bytes kept listed)
    → output ≡ text_of_run text listed.machine s h.bytes w.answers w.state listed.extents w.replay.last.earlier →
    Appends t1 t2 output → IsAllFlushed t2 flushed → IsTold text s machine l l1 t t2 flushed listed.machine
    listed.extents
told keeps text s machine first last kept listed line output l l1 t t1 t2 flushed n h done w is written all = record {
  input = h.bytes;
  read = read_whole l l1 h.bytes h.consumed done;
  answers = w.answers;
  state = w.state;
  replay = w.replay;
  steps = w.steps;
  written = subst (Appends t t2) is (appends_behind t t1 t2 output (silent_read keeps first last line l l1 t t1 n h) written);
  flushed_all = all;
  stands = w.at.stands;
  of_heap = w.of_heap;
}
