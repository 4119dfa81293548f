-- What the words that are the program's command lead to.
use Rattle.std.specs.Prelude.{◌≡◌, ℕ, List, map, String, string_bytes}
use Rattle.std.specs.declared.alloc.Global.{Global}
use Rattle.heap_program.specs.Streams.{Streams}
use Rattle.memory_image.specs.declared.imaged.Imaged.{Imaged}
use Rattle.memory_image.specs.Imaged.{Images}

-- They were served over a source and a sink, each as it was and as it then is. The command ended like this.
abbrev pub IsImageDone : {S K : Type 0} → Streams S K → List (String Global) → S → S → K → K → ℕ → Type 0
IsImageDone streams words source source' sink sink' status =
    (imaged : Imaged)
    × (status ≡ imaged.status)
    × Images (map string_bytes words) (streams.left source) (streams.left source') (streams.taken sink) (streams.taken sink') (streams.flushed sink') (streams.reads source) (streams.reads source') (streams.writes sink) (streams.writes sink') imaged
