-- What the words of the program ask for.
use Rattle.std.specs.Prelude.{◌≤◌, ⊤, ℕ, ◌^◌, List, [], ◌∷◌, map, codes, Option, Some, None, String, string_bytes, if◌then◌else◌, nat_lt, nat_le}
use Rattle.std.specs.Option.{option_and_then, option_map}
use Rattle.std.specs.Str.{bytes_eq}
use Rattle.std.specs.declared.alloc.Global.{Global}
use Rattle.machine_model.specs.declared.config.Config.{Config}
use Rattle.heap_program.specs.declared.arguments.Command.{Command}
use Rattle.heap_program.specs.declared.arguments.Command.TheVariants.{Run, Generate}
use Rattle.call_lines.specs.Number.{number_of}

-- the configuration of a command that names none
abbrev pub default_config : Config
default_config = record { base = 0x400000; pages = 1024; granularity = 65536; frames = 1024; rate = 4095 }

-- a number of frames: there are fewer than 2 ^ 32
abbrev pub frames_argument : List ℕ → Option ℕ
frames_argument word = option_and_then (λ frames. if nat_lt frames (2 ^ 32) then Some frames else None) (number_of word)

-- a configuration of these numbers, if each word is one
abbrev pub config_from : Option ℕ → Option ℕ → Option ℕ → Option ℕ → Option ℕ → Option Config
config_from (Some base) (Some pages) (Some granularity) (Some frames) (Some rate) = Some (record { base = base; pages = pages; granularity = granularity; frames = frames; rate = rate })
config_from base pages granularity frames rate = None

-- `BASE PAGES GRANULARITY FRAMES RATE`, or no word
abbrev pub config_of : List (List ℕ) → Option Config
config_of [] = Some default_config
config_of (base ∷ pages ∷ granularity ∷ frames ∷ rate ∷ []) = config_from (number_of base) (number_of pages) (number_of granularity) (frames_argument frames) (number_of rate)
config_of words = None

-- a drawing of these numbers, if each word is one; there are at most 1000000 calls
abbrev pub generate_from : Option ℕ → Option ℕ → Option Config → Option Command
generate_from (Some seed) (Some count) (Some config) = if nat_le count 1000000 then Some (Generate seed count config) else None
generate_from seed count config = None

-- `SEED COUNT`, and a configuration
abbrev pub generate_of : List (List ℕ) → Option Command
generate_of (seed ∷ count ∷ words) = generate_from (number_of seed) (number_of count) (config_of words)
generate_of words = None

-- `run` and a configuration, or `gen` and what is drawn
abbrev pub named_command : List (List ℕ) → Option Command
named_command [] = None
named_command (name ∷ arguments) =
    if bytes_eq name (codes "run") then option_map Run (config_of arguments) else
    if bytes_eq name (codes "gen") then generate_of arguments else None

-- the command that these words are; None is no command
abbrev pub command_of : List (String Global) → Option Command
command_of words = named_command (map string_bytes words)

-- the configuration of a command's machine
abbrev pub machine_config : Command → Config
machine_config (Run config) = config
machine_config (Generate seed count config) = config

-- at most 1000000 calls are drawn
abbrev pub HasFewCalls : Command → Type 0
HasFewCalls (Run config) = ⊤
HasFewCalls (Generate seed count config) = count ≤ 1000000
