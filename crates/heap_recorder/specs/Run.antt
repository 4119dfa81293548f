-- The history of a run, from its calls and their answers.
use Rattle.std.specs.Prelude.{◌≡◌, ℕ, ◌-◌, ◌*◌, ◌%◌, ◌^◌, Bool, true, false, List, [], ◌∷◌, ◌++◌, length, map, take, sum, Option, Some, None}
use Rattle.heap_history.specs.declared.history.History.{History}
use Rattle.heap_history.specs.declared.history.LargePage.{LargePage}
use Rattle.heap_history.specs.declared.history.Mapping.{Mapping}
use Rattle.heap_history.specs.declared.history.Moment.{Moment}
use Rattle.heap_history.specs.declared.history.RefusedCall.{RefusedCall}
use Rattle.machine_model.specs.declared.answer.Answer.{Answer}
use Rattle.machine_model.specs.declared.answer.Reply.{Reply}
use Rattle.machine_model.specs.declared.answer.Reply.TheVariants.{Done, Refused}
use Rattle.machine_model.specs.declared.call.Call.{Call}
use Rattle.machine_model.specs.declared.call.Call.TheVariants.{Map, Unmap}
use Rattle.machine_model.specs.declared.region.Region.{Region}
use Rattle.machine_model.specs.Answer.{slots_of}
use Rattle.machine_model.specs.Room.{user_region}
use Rattle.machine_model.specs.State.{total_pages}
use Rattle.heap_recorder.specs.Sizes.{sizes_after}
use Rattle.heap_recorder.specs.Lines.{lines_after, kept_call_lines}
use Rattle.heap_recorder.specs.Mappings.{with_mapping, with_mapping_ended, mappings_at_end}
use Rattle.heap_recorder.specs.Regions.{RegionNotes, regions_noted, regions_at_end}
use Rattle.heap_recorder.specs.Stays.{StayNotes, stays_after, stays_at_end}

-- what is noted of the calls so far
pub record Notes : Type 0 where
  pub stays : StayNotes
  pub regions : RegionNotes
  pub mappings : List Mapping
  pub large : List LargePage
  -- the sizes of the blocks by number, 0 for one that has ended
  pub sizes : List ℕ
  -- the bytes of the heap's regions
  pub bytes : ℕ
  -- one for each call
  pub moments : List Moment
  pub refused : List RefusedCall
  -- those of the calls, until there are more than 64
  pub lines : List (List ℕ)

-- no call was made
abbrev pub nothing : Notes
nothing = record {
  stays = record { begun = 0; stays = [] };
  regions = record { now = []; gone = [] };
  mappings = [];
  large = [];
  sizes = [];
  bytes = 0;
  moments = [];
  refused = [];
  lines = [];
}

-- the regions of the heap, if the answer lists them
abbrev pub heap_noted : ℕ → Option (List Region) → RegionNotes → RegionNotes
heap_noted call None notes = notes
heap_noted call (Some list) notes = regions_noted call list notes

-- the regions of the user, after the answer to a call
abbrev pub mappings_after : ℕ → Call → Reply → List ℕ → List Mapping → List Mapping
mappings_after call (Map start pages rights) Done slots mappings = with_mapping call (user_region start pages rights) (length slots) mappings
mappings_after call (Unmap start pages) Done slots mappings = with_mapping_ended call start pages mappings
mappings_after call made reply slots mappings = mappings

-- whether a call maps pages of the user
abbrev pub is_map : Call → Bool
is_map (Map start pages rights) = true
is_map call = false

-- a slot that a call mapped by one entry
abbrev pub large_page : ℕ → ℕ → LargePage
large_page call slot = record { slot = slot; born = call }

-- the first 200 large pages of the heap: those that other calls than maps made
abbrev pub larges_after : ℕ → Bool → List ℕ → List LargePage → List LargePage
larges_after call true slots large = large
larges_after call false slots large = large ++ map (large_page call) (take (200 - length large) slots)

-- the bytes of the heap's regions, modulo 2 ^ 128, which is more than any heap has
abbrev pub bytes_after : Option (List Region) → ℕ → ℕ
bytes_after None bytes = bytes
bytes_after (Some list) bytes = 4096 * total_pages list % 2 ^ 128

abbrev pub refused_after : ℕ → Reply → List RefusedCall → List RefusedCall
refused_after call (Refused cause) refused = refused ++ record { call = call; cause = cause } ∷ []
refused_after call reply refused = refused

-- how many bytes are live, of blocks with these sizes, and how many the heap has
abbrev pub moment : List ℕ → ℕ → Moment
moment sizes bytes = record { live = sum sizes; heap = bytes }

-- What is noted after one more call and its answer. The call's number is how many came before.
abbrev pub noted : Notes → Call → Answer → Notes
noted notes call answer = record {
  stays = stays_after (length notes.moments) call answer.reply notes.stays;
  regions = heap_noted (length notes.moments) answer.regions notes.regions;
  mappings = mappings_after (length notes.moments) call answer.reply (slots_of answer.large) notes.mappings;
  large = larges_after (length notes.moments) (is_map call) (slots_of answer.large) notes.large;
  sizes = sizes_after notes.sizes call answer.reply;
  bytes = bytes_after answer.regions notes.bytes;
  moments = notes.moments ++ moment (sizes_after notes.sizes call answer.reply) (bytes_after answer.regions notes.bytes) ∷ [];
  refused = refused_after (length notes.moments) answer.reply notes.refused;
  lines = lines_after (length notes.moments) call notes.lines;
}

-- the notes after calls and their answers
abbrev pub notes_from : Notes → List Call → List Answer → Notes
notes_from notes [] answers = notes
notes_from notes (call ∷ calls) [] = notes
notes_from notes (call ∷ calls) (answer ∷ answers) = notes_from (noted notes call answer) calls answers

abbrev pub notes_of : List Call → List Answer → Notes
notes_of calls answers = notes_from nothing calls answers

-- the history that the notes come to
abbrev pub history_in : Notes → History
history_in notes = record {
  stays = stays_at_end (length notes.moments) notes.stays;
  heap = regions_at_end (length notes.moments) notes.regions;
  users = mappings_at_end (length notes.moments) notes.mappings;
  large = notes.large;
  moments = notes.moments;
  refused = notes.refused;
  lines = notes.lines;
}

-- The history of a run with these calls and answers.
abbrev pub history_of : List Call → List Answer → History
history_of calls answers = history_in (notes_of calls answers)

-- The lines of a history are those of the calls.
abbrev pub LinesAreTheCalls : Type 0
LinesAreTheCalls = (calls : List Call) (answers : List Answer) → length calls ≡ length answers → (history_of calls answers).lines ≡ kept_call_lines calls

-- The notes are those of a run with these calls, an answer to each.
pub record IsRecordOf (notes : Notes) (calls : List Call) (answers : List Answer) : Type 0 where
  pub one_each : length calls ≡ length answers
  pub is : notes ≡ notes_of calls answers
