-- Responses to the items of an input.
use Rattle.std.specs.Prelude.{◌≡◌, ◌≤◌, ℕ, List, [], ◌∷◌, ◌++◌, length, Option}
use Rattle.std.specs.Io.KnownBytes.{Appends, Consumes}
use Rattle.machine_model.specs.declared.call.Call.{Call}
use Rattle.heap_program.specs.Lines.{items_of}

-- It responded to these items at the end of the output.
pub record HasResponded {R : Type 0} (responds : R → List (Option Call) → List ℕ → R → Type 0) (old : R) (items : List (Option Call)) (before after : List ℕ) (new : R) : Type 0 where
  pub told : List ℕ
  pub output : after ≡ before ++ told
  pub responses : responds old items told new

-- Where the line `before` had begun, it responded to the lines that end in these bytes by the text `told`. That leaves the line
-- `after` that has begun.
pub record Responded {R : Type 0} (responds : R → List (Option Call) → List ℕ → R → Type 0) (old : R) (before bytes told after : List ℕ) (new : R) : Type 0 where
  pub items : List (Option Call)
  pub read : (rest : List ℕ) → items_of (before ++ (bytes ++ rest)) ≡ items ++ items_of (after ++ rest)
  pub responses : responds old items told new

-- The text is a front of a response to the first lines of the bytes.
pub record IsResponseFront {R : Type 0} (responds : R → List (Option Call) → List ℕ → R → Type 0) (old : R) (bytes text : List ℕ) : Type 0 where
  pub items : List (Option Call)
  pub others : List (Option Call)
  pub split : items_of bytes ≡ items ++ others
  pub whole : List ℕ
  pub new : R
  pub responses : responds old items whole new
  pub more : List ℕ
  pub front : text ++ more ≡ whole

-- It responded to all lines that ended in these bytes by the text. A line feed more would end one line more.
pub record HasCaughtUp {R : Type 0} (responds : R → List (Option Call) → List ℕ → R → Type 0) (old : R) (bytes text : List ℕ) : Type 0 where
  pub items : List (Option Call)
  pub item : Option Call
  pub ended : items_of (bytes ++ 10 ∷ []) ≡ items ++ item ∷ []
  pub new : R
  pub responses : responds old items text new

-- It stopped at a read, and had responded to all lines that ended before the last piece, which has at most `most` bytes.
pub record HasHeld {R : Type 0} (responds : R → List (Option Call) → List ℕ → R → Type 0) (old : R) (most : ℕ) (had left before after : Option (List ℕ)) : Type 0 where
  pub input : List ℕ
  pub piece : List ℕ
  pub read : Consumes had left (input ++ piece)
  pub short : length piece ≤ most
  pub text : List ℕ
  pub written : Appends before after text
  pub caught_up : HasCaughtUp responds old input text

-- It stopped, and had responded to all lines that ended before the last piece, which has at most 4096 bytes. More of the response may be
-- written.
pub record HasKeptUp {R : Type 0} (responds : R → List (Option Call) → List ℕ → R → Type 0) (old : R) (had left before after : Option (List ℕ)) : Type 0 where
  pub input : List ℕ
  pub piece : List ℕ
  pub read : Consumes had left (input ++ piece)
  pub short : length piece ≤ 4096
  pub text : List ℕ
  pub more : List ℕ
  pub written : Appends before after (text ++ more)
  pub caught_up : HasCaughtUp responds old input text
