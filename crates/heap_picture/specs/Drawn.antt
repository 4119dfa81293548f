-- What comes of words that ask for a picture.
use Rattle.std.specs.Prelude.{◌≡◌, ℕ, List, [], ◌∷◌, map, codes, String, string_bytes, if◌then◌else◌}
use Rattle.std.specs.Str.{bytes_eq}
use Rattle.std.specs.declared.alloc.Global.{Global}
use Rattle.heap_program.specs.Streams.{Streams}
use Rattle.heap_report.specs.declared.reported.Reported.{Reported}
use Rattle.heap_report.specs.Reported.{EndText}
use Rattle.heap_report.specs.Telling.{Tells}
use Rattle.heap_picture.specs.Picture.{picture_of}
use Rattle.heap_picture.specs.Tables.{tables_drawing}
use Rattle.heap_picture.specs.Timing.{run_of}

-- the words of the run: those after `map`, `tables` or `time`, if one of them is the first word
abbrev pub run_words : List (List ℕ) → List (List ℕ)
run_words [] = []
run_words (word ∷ words) =
    if bytes_eq word (codes "map") then words else if bytes_eq word (codes "tables") then words else if bytes_eq word (codes "time") then words else word ∷ words

-- the drawing for which the words ask: the page tables if the first is `tables`, the heap over the run if it is `time`, and else
-- the map of the heap
abbrev pub drawing_for : List ℕ → List (List ℕ) → EndText
drawing_for style [] = picture_of style
drawing_for style (word ∷ words) =
    if bytes_eq word (codes "map") then picture_of style else if bytes_eq word (codes "tables") then tables_drawing style else if bytes_eq word (codes "time") then run_of style else picture_of style

-- The run that the words name was told of, over a source and a sink, each as it was and as it then is. So ended the command.
abbrev pub HasDrawn : {S K : Type 0} → (List (List ℕ) → EndText) → Streams S K → List (String Global) → S → S → K → K → ℕ → Type 0
HasDrawn text streams words source source' sink sink' status =
    (reported : Reported)
    × (status ≡ reported.status)
    × Tells (text (map string_bytes words)) (run_words (map string_bytes words)) (streams.left source) (streams.left source') (streams.taken sink) (streams.taken sink') (streams.flushed sink') (streams.reads source) (streams.reads source') (streams.writes sink) (streams.writes sink') reported
