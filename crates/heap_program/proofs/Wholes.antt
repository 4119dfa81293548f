-- A whole run, piece after piece.
use Rattle.std.proofs.Common.{◌≡◌, ◌<◌, ◌≤◌, ◌^◌, ◌+◌, ℕ, List, [], ◌∷◌, ◌++◌, length, take, drop, Option, None, Some, IfSome, Result, Ok, Err, IsErrOf, string_bytes, refl, sym, ◌∙◌, ap, subst, arith, append_assoc, length-append, take-append-drop, ◌⊎◌, inl, inr, ◌↔◌}
use Rattle.std.proofs.lemmas.List.{append-nil}
use Rattle.std.proofs.lemmas.Grind.{flat_map-append}
use Rattle.std.specs.Prelude.{unwrap_or, IsErrAnd}
use Rattle.std.specs.Io.KnownBytes.{Appends, Consumes, Keeps, IsAtEnd}
use Rattle.machine_model.specs.declared.answer.Answer.{Answer}
use Rattle.machine_model.specs.declared.call.Call.{Call}
use Rattle.machine_model.specs.State.{State}
use Rattle.kernel_heap.specs.declared.machine.Machine.{Machine}
use Rattle.heap_program.specs.declared.session.Session.{Session}
use Rattle.heap_program.specs.declared.run.Stop.{Stop}
use Rattle.heap_program.specs.declared.run.Stop.TheVariants.{Memory, ReadFault, WriteFault, TooLong}
use Rattle.heap_program.specs.Advanced.{Advanced}
use Rattle.heap_program.specs.Answering.{IsAnswering}
use Rattle.heap_program.specs.Flushed.{IsAllFlushed}
use Rattle.heap_program.specs.Headline.{ending_of, IsCaughtUp, IsFront, IsInterrupted, IsKeptUp, IsReadWhole, IsStopped}
use Rattle.call_lines.specs.Grammar.{item_of}
use Rattle.heap_program.specs.Lines.{items_of, IsOneLine}
use Rattle.machine_model.specs.Run.{RunsTo}
use Rattle.heap_program.specs.Progress.{texts_of, IsAt, IsEnd}
use Rattle.heap_program.specs.Responses.{Responded, IsResponseFront, HasCaughtUp, HasHeld, HasKeptUp}
use Rattle.heap_program.specs.Stepped.{IsAnsweredBy}
use Rattle.heap_program.specs.Stop.{IsFreshSession, HasRead, HasClosed, HasPart, HasStopped}
use Rattle.heap_program.specs.Text.{line_text, end_text_of}
use Rattle.heap_program.proofs.Fits.{run_fits, length-items}
use Rattle.heap_program.proofs.Known.{appends_nothing, appends_more, consumes_nothing, consumes_more, consumes_keeps}
use Rattle.heap_program.proofs.LineLemmas.{items-whole, items-none}
use Rattle.machine_model.proofs.Runs.{runs_none, run_on}
use Rattle.kernel_heap.specs.Steps.{StepsTo}
use Rattle.kernel_heap.proofs.Steps.{steps_on}
use Rattle.heap_program.proofs.Runs.{responded_more}

module _ {R : Type 0} (responds : R → List (Option Call) → List ℕ → R → Type 0) where
  -- nothing went out
  pub front_of_none : (x : R) (bytes : List ℕ) → responds x [] [] x → IsResponseFront responds x bytes []
  front_of_none x bytes none = record { items = []; others = items_of bytes; split = refl; whole = []; new = x; responses = none; more = []; front = refl }

  -- a front of a response to some bytes
  pub front_of_part : (x y : R) (before bytes told after front more : List ℕ) →
      Responded responds x before bytes told after y → front ++ more ≡ told →
      IsResponseFront responds x (before ++ bytes) front
  front_of_part x y before bytes told after front more a split = record {
    items = a.items;
    others = items_of (after ++ []);
    split = ap (λ (l : List ℕ). items_of (before ++ l)) (sym (append-nil bytes)) ∙ a.read [];
    whole = told;
    new = y;
    responses = a.responses;
    more = more;
    front = split;
  }

  -- all lines that ended in the bytes that came are responded to
  pub caught_up : (x y : R) (line : List ℕ) (l l1 t t1 : Option (List ℕ)) (n : ℕ)
      (h : HasRead responds x y line l l1 t t1 n) → IsOneLine line → HasCaughtUp responds x h.bytes h.told
  caught_up x y line l l1 t t1 n h one =
      let a = h.responded in
      record {
        items = a.items;
        item = item_of line;
        ended = a.read (10 ∷ []) ∙ ap (λ (l : List (Option Call)). a.items ++ l)
            (items-whole line [] one ∙ ap (λ (l : List (Option Call)). item_of line ∷ l) items-none);
        new = y;
        responses = a.responses;
      }

  -- a stop at a read that brought this piece
  pub held : (x y : R) (line : List ℕ) (l l1 l2 t t1 : Option (List ℕ)) (n most : ℕ) (piece : List ℕ)
      (h : HasRead responds x y line l l1 t t1 n) → IsOneLine line → Consumes l1 l2 piece → length piece ≤ most →
      HasHeld responds x most l l2 t t1
  held x y line l l1 l2 t t1 n most piece h one consumed short = record {
    input = h.bytes;
    piece = piece;
    read = consumes_more l l1 l2 h.bytes piece h.consumed consumed;
    short = short;
    text = h.told;
    written = h.appended;
    caught_up = caught_up x y line l l1 t t1 n h one;
  }

  -- nothing more was written
  pub kept_held : (x : R) (most : ℕ) (l l1 t t1 : Option (List ℕ)) → HasHeld responds x most l l1 t t1 → most ≤ 4096 →
      HasKeptUp responds x l l1 t t1
  kept_held x most l l1 t t1 h few = record {
    input = h.input;
    piece = h.piece;
    read = h.read;
    short = omega (arith, h.short, few);
    text = h.text;
    more = [];
    written = subst (Appends t t1) (sym (append-nil h.text)) h.written;
    caught_up = h.caught_up;
  }

  -- before the first piece
  pub read_none : (session : Session R) (left taken : Option (List ℕ)) → IsFreshSession session →
      responds session.responder [] [] session.responder → HasRead responds session.responder session.responder session.line
      left left taken taken 0
  read_none session left taken fresh none = record {
    bytes = [];
    told = [];
    consumed = consumes_nothing left;
    counted = refl;
    appended = appends_nothing taken;
    responded = subst (λ (l : List ℕ). Responded responds session.responder [] [] [] l session.responder) (sym fresh.line)
        (record { items = []; read = λ rest. refl; responses = none });
  }

  -- the end of the input
  pub read_end : (x y : R) (line : List ℕ) (l l1 l2 t t1 : Option (List ℕ)) (n : ℕ)
      (h : HasRead responds x y line l l1 t t1 n) → Consumes l1 l2 [] → HasRead responds x y line l l2 t t1 n
  read_end x y line l l1 l2 t t1 n h none = record {
    bytes = h.bytes;
    told = h.told;
    consumed = subst (Consumes l l2) (append-nil h.bytes) (consumes_more l l1 l2 h.bytes [] h.consumed none);
    counted = h.counted;
    appended = h.appended;
    responded = h.responded;
  }

  -- a stop that wrote nothing more
  pub stopped_dry : (x y : R) (line : List ℕ) (stop : Stop) (l l1 l2 t t1 : Option (List ℕ)) (n : ℕ) (piece : List ℕ)
      (h : HasRead responds x y line l l1 t t1 n) → Consumes l1 l2 piece → n + length piece ≤ 2 ^ 30 + 4096
      → (stop ≡ TooLong → 2 ^ 30 < n + length piece) → (2 ^ 30 < n + length piece → stop ≡ TooLong) →
      (stop ≡ ReadFault → HasHeld responds x 0 l l2 t t1) → (stop ≡ TooLong → HasHeld responds x 4096 l l2 t t1) →
      HasKeptUp responds x l l2 t t1 → HasStopped responds x stop l l2 t t1
  stopped_dry x y line stop l l1 l2 t t1 n piece h consumed most there back at_fault at_length kept_up =
      let count : length (h.bytes ++ piece) ≡ n + length piece = length-append h.bytes piece ∙ ap (λ (k : ℕ). k + length piece) h.counted in
      let a = h.responded in
      record {
        bytes = h.bytes ++ piece;
        told = h.told;
        consumed = consumes_more l l1 l2 h.bytes piece h.consumed consumed;
        short = omega (arith, count, most);
        appended = h.appended;
        front = record {
          items = a.items;
          others = items_of (line ++ piece);
          split = a.read piece;
          whole = h.told;
          new = y;
          responses = a.responses;
          more = [];
          front = append-nil h.told;
        };
        too_long = (λ is. subst (λ (k : ℕ). 2 ^ 30 < k) (sym count) (there is), λ long. back (subst (λ (k : ℕ). 2 ^ 30 < k) count long));
        at_fault = at_fault;
        at_length = at_length;
        kept_up = kept_up;
      }

  -- a stop before a piece
  pub stopped_before : (x y : R) (line : List ℕ) (stop : Stop) (l l1 l2 t t1 : Option (List ℕ)) (n : ℕ)
      (h : HasRead responds x y line l l1 t t1 n) → IsOneLine line → Keeps l1 l2 → n ≤ 2 ^ 30 → (stop ≡ TooLong → ⊥) →
      HasStopped responds x stop l l2 t t1
  stopped_before x y line stop l l1 l2 t t1 n h one kept short isnt =
      let none : Consumes l1 l2 [] = consumes_keeps l1 l1 l2 [] (consumes_nothing l1) kept in
      stopped_dry x y line stop l l1 l2 t t1 n [] h none (omega (arith, short)) (λ is. absurd (isnt is)) (λ long. absurd (omega (arith, long, short)))
      (λ is. held x y line l l1 l2 t t1 n 0 [] h one none (omega arith)) (λ is. absurd (isnt is))
      (kept_held x 0 l l2 t t1 (held x y line l l1 l2 t t1 n 0 [] h one none (omega arith)) (omega arith))

  -- a stop after a piece, of which nothing was written
  pub stopped_after : (x y : R) (line : List ℕ) (stop : Stop) (l l1 l2 t t1 : Option (List ℕ)) (n k : ℕ) (piece : List ℕ)
      (h : HasRead responds x y line l l1 t t1 n) → IsOneLine line → Consumes l1 l2 piece → length piece ≡ k → n ≤ 2 ^ 30 →
      k ≤ 4096
      → (stop ≡ ReadFault → ⊥) → (stop ≡ TooLong → 2 ^ 30 < n + k) → (2 ^ 30 < n + k → stop ≡ TooLong) → HasStopped responds x stop l l2 t t1
  stopped_after x y line stop l l1 l2 t t1 n k piece h one consumed len before most unread there back =
      stopped_dry x y line stop l l1 l2 t t1 n piece h consumed (omega (arith, len, before, most))
      (λ is. subst (λ (k : ℕ). 2 ^ 30 < n + k) (sym len) (there is))
      (λ long. back (subst (λ (k : ℕ). 2 ^ 30 < n + k) len long))
      (λ is. absurd (unread is))
      (λ is. held x y line l l1 l2 t t1 n 4096 piece h one consumed (omega (arith, len, most)))
      (kept_held x 4096 l l2 t t1 (held x y line l l1 l2 t t1 n 4096 piece h one consumed (omega (arith, len, most))) (omega arith))

  module _ (on : (x y z : R) (a b : List (Option Call)) (t u : List ℕ) → responds x a t y → responds y b u z → responds x (a ++ b) (t ++ u) z) where
    -- one piece more
    pub read_more : (x : R) (old fed : Session R) (l l1 l2 t t1 t2 : Option (List ℕ)) (n : ℕ) (piece : List ℕ)
        (h : HasRead responds x old.responder old.line l l1 t t1 n) → string_bytes old.output ≡ [] → Consumes l1 l2 piece →
        Advanced responds old fed piece
        → Appends t1 t2 (string_bytes fed.output) → HasRead responds x fed.responder fed.line l l2 t t2 (n + length piece)
    read_more x old fed l l1 l2 t t1 t2 n piece h empty consumed a appended =
        let output : string_bytes fed.output ≡ a.told = a.output ∙ ap (λ (o : List ℕ). o ++ a.told) empty in
        record {
          bytes = h.bytes ++ piece;
          told = h.told ++ a.told;
          consumed = consumes_more l l1 l2 h.bytes piece h.consumed consumed;
          counted = length-append h.bytes piece ∙ ap (λ (k : ℕ). k + length piece) h.counted;
          appended = appends_more t t1 t2 h.told a.told h.appended (subst (Appends t1 t2) output appended);
          responded = responded_more responds on x old.responder fed.responder [] old.line fed.line h.bytes piece h.told a.told h.responded a.responded;
        }

    -- a stop while the response to a piece went out, of which a front did
    pub stopped_writing : (x : R) (old fed : Session R) (stop : Stop) (l l1 l2 t t1 t2 : Option (List ℕ)) (n k : ℕ)
        (piece : List ℕ) (h : HasRead responds x old.responder old.line l l1 t t1 n) → string_bytes old.output ≡ [] →
        Consumes l1 l2 piece → Advanced responds old fed piece
        → Appends t1 t2 (take k (string_bytes fed.output)) → n + length piece ≤ 2 ^ 30 → (stop ≡ TooLong → ⊥) →
        (stop ≡ ReadFault → ⊥) → IsOneLine old.line → length piece ≤ 4096 → HasStopped responds x stop l l2 t t2
    stopped_writing x old fed stop l l1 l2 t t1 t2 n k piece h empty consumed a appended most isnt unread one few =
        let output : string_bytes fed.output ≡ a.told = a.output ∙ ap (λ (o : List ℕ). o ++ a.told) empty in
        let count : length (h.bytes ++ piece) ≡ n + length piece = length-append h.bytes piece ∙ ap (λ (k : ℕ). k + length piece) h.counted in
        let part = take k (string_bytes fed.output) in
        let both = responded_more responds on x old.responder fed.responder [] old.line fed.line h.bytes piece h.told a.told h.responded a.responded in
        record {
          bytes = h.bytes ++ piece;
          told = h.told ++ part;
          consumed = consumes_more l l1 l2 h.bytes piece h.consumed consumed;
          short = omega (arith, count, most);
          appended = appends_more t t1 t2 h.told part h.appended appended;
          front = front_of_part x fed.responder [] (h.bytes ++ piece) (h.told ++ a.told) fed.line (h.told ++ part) (drop k (string_bytes fed.output)) both
              (append_assoc h.told part (drop k (string_bytes fed.output)) ∙ ap (λ (l : List ℕ). h.told ++ l)
              (take-append-drop k (string_bytes fed.output) ∙ output));
          too_long = (λ is. absurd (isnt is), λ long. absurd (omega (arith, long, count, most)));
          at_fault = λ is. absurd (unread is);
          at_length = λ is. absurd (isnt is);
          kept_up = record {
            input = h.bytes;
            piece = piece;
            read = consumes_more l l1 l2 h.bytes piece h.consumed consumed;
            short = few;
            text = h.told;
            more = part;
            written = appends_more t t1 t2 h.told part h.appended appended;
            caught_up = caught_up x old.responder old.line l l1 t t1 n h one;
          };
        }

-- nothing went out
pub front_none : (first : Machine) (s : State) (bytes : List ℕ) → IsFront first s bytes []
front_none first s bytes = record {
  items = [];
  others = items_of bytes;
  split = refl;
  answers = [];
  state = s;
  run = runs_none s;
  last = first;
  steps = refl;
  more = ending_of (items_of bytes) s;
  front = refl;
}

-- a front of the texts and the end text
pub front_end : (s : State) (bytes whole : List ℕ) (old machine : Machine) (front more : List ℕ) →
    IsEnd s old bytes whole machine → front ++ more ≡ whole → IsFront old s bytes front
front_end s bytes whole old machine front more k split = record {
  items = items_of bytes;
  others = [];
  split = sym (append-nil (items_of bytes));
  answers = k.answers;
  state = k.state;
  run = k.run;
  last = machine;
  steps = k.steps;
  more = more;
  front = split ∙ k.text;
}

-- a front of the answers of a machine
pub front_of_answers : (s : State) (machine : Machine) (bytes text : List ℕ) → IsAt machine s →
    IsResponseFront IsAnswering machine bytes text → IsFront machine s bytes text
front_of_answers s machine bytes text at k =
    let a = k.responses s at in
    let ending = ending_of k.others a.state in
    record {
      items = k.items;
      others = k.others;
      split = k.split;
      answers = a.answers;
      state = a.state;
      run = a.run;
      last = k.new;
      steps = a.steps;
      more = k.more ++ ending;
      front = sym (append_assoc text k.more ending) ∙ ap (λ (l : List ℕ). l ++ ending) (k.front ∙ a.text);
    }

-- all lines that ended are answered
answers_caught_up : (s : State) (machine : Machine) (bytes text : List ℕ) → IsAt machine s → HasCaughtUp IsAnswering machine bytes text → IsCaughtUp machine s bytes text
answers_caught_up s machine bytes text at k =
    let a = k.responses s at in
    record { items = k.items; item = k.item; ended = k.ended; answers = a.answers; state = a.state; run = a.run; last = k.new; steps = a.steps; told = a.text }

-- a machine that stopped at a read
pub interrupted : (s : State) (machine : Machine) (most : ℕ) (l l1 t t1 : Option (List ℕ)) → IsAt machine s →
    HasHeld IsAnswering machine most l l1 t t1 → IsInterrupted machine s most l l1 t t1
interrupted s machine most l l1 t t1 at h =
    let k = h.caught_up in
    record {
      input = h.input;
      piece = h.piece;
      read = h.read;
      short = h.short;
      text = h.text;
      written = h.written;
      caught_up = answers_caught_up s machine h.input h.text at k;
    }

-- a machine that stopped anywhere
pub seen_kept_up : (s : State) (machine : Machine) (l l1 t t1 : Option (List ℕ)) → IsAt machine s →
    HasKeptUp IsAnswering machine l l1 t t1 → IsKeptUp machine s l l1 t t1
seen_kept_up s machine l l1 t t1 at h = record {
  input = h.input;
  piece = h.piece;
  read = h.read;
  short = h.short;
  text = h.text;
  more = h.more;
  written = h.written;
  caught_up = answers_caught_up s machine h.input h.text at h.caught_up;
}

-- what was written after the end of the input
pub kept_last : (s : State) (machine last : Machine) (line part : List ℕ) (l l1 t t1 t2 : Option (List ℕ)) (n : ℕ) →
    IsAt machine s → (h : HasRead IsAnswering machine last line l l1 t t1 n) → IsOneLine line → Appends t1 t2 part → IsKeptUp machine s l l1 t t2
kept_last s machine last line part l l1 t t1 t2 n at h one appended = record {
  input = h.bytes;
  piece = [];
  read = subst (Consumes l l1) (sym (append-nil h.bytes)) h.consumed;
  short = omega arith;
  text = h.told;
  more = part;
  written = appends_more t t1 t2 h.told part h.appended appended;
  caught_up = answers_caught_up s machine h.bytes h.told at (caught_up IsAnswering machine last line l l1 t t1 n h one);
}

texts_more : (xs ys : List (Option Answer)) (t u last : List ℕ) → t ≡ texts_of xs → u ≡ texts_of ys ++ last → t ++ u ≡ texts_of (xs ++ ys) ++ last
texts_more xs ys t u last p q =
    (λ i. p i ++ q i)
    ∙ sym (append_assoc (texts_of xs) (texts_of ys) last)
    ∙ ap (λ (l : List ℕ). l ++ last) (sym (flat_map-append line_text xs ys))

-- some bytes are answered, and then a front of the rest
front_last : (s : State) (machine last : Machine) (bytes told line part : List ℕ) (at : IsAt machine s)
    (a : Responded IsAnswering machine [] bytes told line last) → IsFront last (a.responses s at).state line part →
    IsFront machine s bytes (told ++ part)
front_last s machine last bytes told line part at a k =
    let b = a.responses s at in
    record {
      items = a.items ++ k.items;
      others = k.others;
      split = ap items_of (sym (append-nil bytes)) ∙ a.read [] ∙ ap (λ (l : List ℕ). a.items ++ items_of l) (append-nil line)
          ∙ ap (λ (l : List (Option Call)). a.items ++ l) k.split ∙ sym (append_assoc a.items k.items k.others);
      answers = b.answers ++ k.answers;
      state = k.state;
      run = run_on s b.state k.state a.items k.items b.answers k.answers b.run k.run;
      last = k.last;
      steps = steps_on machine last k.last a.items k.items b.answers k.answers b.steps k.steps;
      more = k.more;
      front = append_assoc told part k.more ∙ texts_more b.answers k.answers told (part ++ k.more) (ending_of k.others k.state) b.text k.front;
    }

-- some bytes are answered, and then the rest
end_after : (s : State) (machine last end : Machine) (bytes told line text : List ℕ) (at : IsAt machine s)
    (a : Responded IsAnswering machine [] bytes told line last) → IsEnd (a.responses s at).state last line text end →
    IsEnd s machine bytes (told ++ text) end
end_after s machine last end bytes told line text at a k =
    let b = a.responses s at in
    let items : items_of bytes ≡ a.items ++ items_of line =
    ap items_of (sym (append-nil bytes)) ∙ a.read [] ∙ ap (λ (l : List ℕ). a.items ++ items_of l) (append-nil line) in
    record {
      answers = b.answers ++ k.answers;
      state = k.state;
      run = subst (λ (l : List (Option Call)). RunsTo s l (b.answers ++ k.answers) k.state) (sym items)
          (run_on s b.state k.state a.items (items_of line) b.answers k.answers b.run k.run);
      steps = subst (λ (l : List (Option Call)). StepsTo machine l (b.answers ++ k.answers) end) (sym items)
          (steps_on machine last end a.items (items_of line) b.answers k.answers b.steps k.steps);
      at = k.at;
      text = texts_more b.answers k.answers told text (end_text_of k.state) b.text k.text;
    }

-- a front of the last texts went out
pub part_written : (s : State) (line whole out : List ℕ) (old machine : Machine) (t t1 : Option (List ℕ)) (n : ℕ) →
    out ≡ whole → IsEnd s old line whole machine → Appends t t1 (take n out) → HasPart s old line t t1
part_written s line whole out old machine t t1 n same end appended = record {
  told = take n out;
  appended = appended;
  front = front_end s line whole old machine (take n out) (drop n out) end (take-append-drop n out ∙ same);
}

-- all of them did
pub closed : (s : State) (line whole out : List ℕ) (old machine : Machine) (t t1 : Option (List ℕ)) → out ≡ whole →
    IsEnd s old line whole machine → Appends t t1 out → HasClosed s old machine line t t1
closed s line whole out old machine t t1 same end appended = record { told = whole; appended = subst (Appends t t1) same appended; end = end }

-- a stop that is not for a long input
pub of_sink : (stop : Stop) → (stop ≡ Memory) ⊎ (stop ≡ WriteFault) → stop ≡ TooLong → ⊥
of_sink stop (inl is) long = cc
of_sink stop (inr is) long = cc

pub sink_isnt : (stop : Stop) → (stop ≡ Memory) ⊎ (stop ≡ WriteFault) → stop ≡ ReadFault → ⊥
sink_isnt stop (inl is) read = cc
sink_isnt stop (inr is) read = cc

pub read_isnt : (stop : Stop) → stop ≡ ReadFault → stop ≡ TooLong → ⊥
read_isnt stop is long = cc

-- all that the source had came, and none of it is left
pub read_whole : (l l1 : Option (List ℕ)) (bytes : List ℕ) → Consumes l l1 bytes → IsAtEnd l1 → IsReadWhole l l1 bytes
read_whole None l1 bytes consumed end = tt
read_whole (Some xs) None bytes consumed end = absurd consumed
read_whole (Some xs) (Some ys) bytes consumed end =
    (sym (consumed ∙ ap (λ (l : List ℕ). bytes ++ l) end ∙ append-nil bytes), ap (λ (l : List ℕ). Some l) end)

-- the last line and the end text close the run
pub answered : (s : State) (machine last end : Machine) (line : List ℕ) (l l1 t t1 t2 : Option (List ℕ))
    (flushed : Option ℕ) (n : ℕ) (at : IsAt machine s) (h : HasRead IsAnswering machine last line l l1 t t1 n) →
    length s.blocks ≡ 0 → n ≤ 2 ^ 30 → IsAtEnd l1
    → HasClosed (h.responded.responses s at).state last end line t1 t2 → IsAllFlushed t2 flushed → IsAnsweredBy machine s l l1 t t2 flushed end
answered s machine last end line l l1 t t1 t2 flushed n at h first short done k all =
    let e = end_after s machine last end h.bytes h.told line k.told at h.responded k.end in
    record {
      run = record {
        input = h.bytes;
        read = read_whole l l1 h.bytes h.consumed done;
        answers = e.answers;
        state = e.state;
        run = e.run;
        fit = run_fits s (items_of h.bytes) e.answers (let items = length-items h.bytes in omega (arith, items, first, h.counted, short)) e.run.run;
        written = subst (Appends t t2) e.text (appends_more t t1 t2 h.told k.told h.appended k.appended);
        flushed_all = all;
        good = e.at.good;
        stands = e.at.stands;
      };
      steps = e.steps;
    }

-- what is seen of a stop
pub seen_stopped : (s : State) (machine : Machine) (stop : Stop) (l l1 t t1 : Option (List ℕ)) → IsAt machine s →
    HasStopped IsAnswering machine stop l l1 t t1 → IsStopped machine s l l1 t t1
seen_stopped s machine stop l l1 t t1 at h =
    record {
      input = h.bytes;
      read = h.consumed;
      short = h.short;
      text = h.told;
      written = h.appended;
      front =
          front_of_answers s machine h.bytes h.told at h.front;
    }

-- and of one after the end of the input
pub seen_last : (s : State) (machine last : Machine) (line : List ℕ) (l l1 t t1 t2 : Option (List ℕ)) (n : ℕ)
    (at : IsAt machine s) (h : HasRead IsAnswering machine last line l l1 t t1 n) → n ≤ 2 ^ 30 →
    HasPart (h.responded.responses s at).state last line t1 t2 → IsStopped machine s l l1 t t2
seen_last s machine last line l l1 t t1 t2 n at h short k = record {
  input = h.bytes;
  read = h.consumed;
  short = omega (arith, h.counted, short);
  text = h.told ++ k.told;
  written = appends_more t t1 t2 h.told k.told h.appended k.appended;
  front = front_last s machine last h.bytes h.told line k.told at h.responded k.front;
}

-- the length of what came, by what was left
abbrev IsLong : Option (List ℕ) → Option (List ℕ) → Type 0 → Type 0
IsLong l l1 P = IfSome l (λ input. P ↔ (2 ^ 30 + length (unwrap_or l1 []) < length input))

where_long : (l l1 : Option (List ℕ)) (bytes : List ℕ) (P : Type 0) → Consumes l l1 bytes → P ↔ (2 ^ 30 < length bytes) → IsLong l l1 P
where_long None l1 bytes P consumed k = tt
where_long (Some xs) None bytes P consumed k = absurd consumed
where_long (Some xs) (Some ys) bytes P consumed k =
    let len : length xs ≡ length bytes + length ys = ap length consumed ∙ length-append bytes ys in
    (λ p. let long = k.0 p in omega (arith, long, len), λ more. k.1 (omega (arith, more, len)))

-- of a result
pub err_long : (l l1 : Option (List ℕ)) (bytes : List ℕ) (stop : Stop) → Consumes l l1 bytes →
    stop ≡ TooLong ↔ (2 ^ 30 < length bytes) → IsLong l l1 (IsErrOf {T = Machine} (Err stop) TooLong)
err_long l l1 bytes stop consumed k = where_long l l1 bytes (IsErrOf {T = Machine} (Err stop) TooLong) consumed
    (λ is. k.0 (inside is), λ long. ap (λ (e : Stop). Err e) (k.1 long))
  where
    inside : IsErrOf {T = Machine} (Err stop) TooLong → stop ≡ TooLong
    inside is = cc

-- of a stop after the last piece
pub late_long : (l l1 : Option (List ℕ)) (bytes : List ℕ) (n : ℕ) → Consumes l l1 bytes → length bytes ≡ n → n ≤ 2 ^ 30 →
    (stop : Stop) → (stop ≡ Memory) ⊎ (stop ≡ WriteFault) → IsLong l l1 (IsErrOf {T = Machine} (Err stop) TooLong)
late_long l l1 bytes n consumed counted short stop which =
    err_long l l1 bytes stop consumed (λ is. absurd (of_sink stop which is), λ long. absurd (omega (arith, long, counted, short)))

-- of a run that ended
pub ok_long : (last : Machine) (l l1 : Option (List ℕ)) (bytes : List ℕ) (n : ℕ) → Consumes l l1 bytes → length bytes ≡ n →
    n ≤ 2 ^ 30 → IsLong l l1 (IsErrOf {E = Stop} (Ok last) TooLong)
ok_long last l l1 bytes n consumed counted short =
    where_long l l1 bytes (IsErrOf {E = Stop} (Ok last) TooLong) consumed (λ is. cc, λ long. absurd (omega (arith, long, counted, short)))

-- which stop a result is
pub stop_is : (r : Result Machine Stop) (stop other : Stop) → IsErrAnd r (λ e. e ≡ stop) → IsErrOf r other → stop ≡ other
stop_is (Ok machine) stop other made is = absurd made
stop_is (Err e) stop other made is = cc

-- and the result that it came from is this stop too
pub passed_on : {T : Type 0} (r : Result Machine Stop) (stop other : Stop) → IsErrAnd r (λ e. e ≡ stop) →
    IsErrOf r other → IsErrOf {T = T} (Err stop) other
passed_on r stop other made is = ap (λ (e : Stop). Err e) (stop_is r stop other made is)

-- of a result that is this stop
pub stop_long : (l l1 : Option (List ℕ)) (r : Result Machine Stop) (stop : Stop) → IsErrAnd r (λ e. e ≡ stop) →
    IsLong l l1 (IsErrOf {T = Machine} (Err stop) TooLong) → IsLong l l1 (IsErrOf r TooLong)
stop_long l l1 (Ok machine) stop made long = absurd made
stop_long l l1 (Err e) stop made long = subst (λ (x : Stop). IsLong l l1 (IsErrOf {T = Machine} (Err x) TooLong)) (sym made) long
