-- What a program does with its words, and the status at which it ends.
use Rattle.std.specs.Prelude.{◌≡◌, ◌≢◌, ◌≤◌, ℕ, List, Some, None, String}
use Rattle.std.specs.IoError.{error_kind}
use Rattle.std.specs.declared.alloc.Global.{Global}
use Rattle.std.specs.declared.io.Error.{Error}
use Rattle.std.specs.declared.io.ErrorKind.TheVariants.{OutOfMemory}
use Rattle.command_line.specs.declared.pages.Pages.{Pages}
use Rattle.command_line.specs.Pages.{asked_page}
use Rattle.command_line.specs.Process.{IsShown}
use Rattle.heap_program.specs.Streams.{Streams}

-- The words were served over a source and a sink, each as it was and as it then is. `comes` says what comes of words that ask for no
-- page, and `needs_memory` whether a call of the sink may want memory.
pub record AreWordsServed {S K : Type 0} (comes : (S K : Type 0) → Streams S K → List (String Global) → S → S → K → K → ℕ → Type 0) (streams : Streams S K) (needs_memory : K → Type 0) (pages : Pages) (words : List (String Global)) (source source' : S) (sink sink' : K) (status : ℕ) : Type 0 where
  pub few : status ≤ 8
  -- a page that they ask for is shown, which wants no memory but for the sink, and no input is read
  pub page : (text : List ℕ) → asked_page pages words ≡ Some text → IsShown text (streams.taken sink) (streams.taken sink') (streams.flushed sink') (streams.writes sink) (streams.writes sink') status
  pub page_memory : (text : List ℕ) → asked_page pages words ≡ Some text → ((k : K) → needs_memory k → ⊥) → status ≢ 5
  pub page_unread : (text : List ℕ) → asked_page pages words ≡ Some text → source' ≡ source
  -- else they are the command's
  pub command : asked_page pages words ≡ None → comes S K streams words source source' sink sink' status
  -- at statuses 1 to 4 nothing is read or written
  pub untouched : 1 ≤ status → status ≤ 4 → (source' ≡ source) × (sink' ≡ sink)

-- The words could not be read: for want of memory, or since they are no UTF-8. Nothing is read or written.
pub record IsUnread {S K : Type 0} (error : Error) (source source' : S) (sink sink' : K) (status : ℕ) : Type 0 where
  pub memory : error_kind error ≡ OutOfMemory → status ≡ 5
  pub others : error_kind error ≢ OutOfMemory → status ≡ 1
  pub input : source' ≡ source
  pub output : sink' ≡ sink
