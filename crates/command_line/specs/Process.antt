-- What programs over lines print of themselves.
use Rattle.std.specs.Prelude.{◌≡◌, ◌≢◌, ◌⊎◌, ℕ, List, ◌++◌, take, codes, Option}
use Rattle.std.specs.Io.KnownBytes.{Appends}
use Rattle.heap_program.specs.Faults.{HasRisen}
use Rattle.heap_program.specs.Flushed.{IsAllFlushed}
use Rattle.heap_program.specs.Status.{status_text_of}

-- A text was to be written: at status 0 it is, and flushed; at 7 the sink failed; and at 5 it had too little memory. Then a front of
-- the text is written.
pub record IsShown (text : List ℕ) (before after : Option (List ℕ)) (flushed : Option ℕ) (faults faults' status : ℕ) : Type 0 where
  pub which : (status ≡ 0) ⊎ (status ≡ 5) ⊎ (status ≡ 7)
  pub shown : status ≡ 0 → Appends before after text
  pub flushed_all : status ≡ 0 → IsAllFlushed after flushed
  pub front : status ≢ 0 → (n : ℕ) × Appends before after (take n text)
  pub fault : status ≡ 7 → HasRisen faults faults'

-- the line that tells what a status means
abbrev pub status_line : ℕ → List ℕ
status_line status = status_text_of status ++ codes "\n"

-- What a status means was told: its line is written, and flushed.
pub record IsStatusTold (before after : Option (List ℕ)) (flushed : Option ℕ) (status : ℕ) : Type 0 where
  pub line : Appends before after (status_line status)
  pub flushed_all : IsAllFlushed after flushed
