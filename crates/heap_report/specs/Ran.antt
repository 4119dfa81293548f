-- What comes of words that are the command of a program that tells of a run.
use Rattle.std.specs.Prelude.{◌≡◌, ℕ, List, map, String, string_bytes}
use Rattle.std.specs.declared.alloc.Global.{Global}
use Rattle.heap_program.specs.Streams.{Streams}
use Rattle.heap_report.specs.declared.reported.Reported.{Reported}
use Rattle.heap_report.specs.Reported.{EndText}
use Rattle.heap_report.specs.Telling.{Tells}

-- A run was told of, over a source and a sink, each as it was and as it then is. So ended the command.
abbrev pub HasReported : {S K : Type 0} → EndText → Streams S K → List (String Global) → S → S → K → K → ℕ → Type 0
HasReported text streams words source source' sink sink' status =
    (reported : Reported)
    × (status ≡ reported.status)
    × Tells text (map string_bytes words) (streams.left source) (streams.left source') (streams.taken sink) (streams.taken sink') (streams.flushed sink') (streams.reads source) (streams.reads source') (streams.writes sink) (streams.writes sink') reported
