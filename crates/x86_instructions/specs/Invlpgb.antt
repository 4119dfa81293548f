-- The instruction INVLPGB (AMD64 manual, volume 3, INVLPGB).
use Rattle.std.specs.Prelude.{ℕ, ◌+◌, ◌*◌, ◌/◌, ◌^◌, Bool, true, false, ◌==◌, List, [], ◌∷◌, map, Option, Some, None}
use Rattle.std.specs.Option.{is_some}
use Rattle.paging_core.specs.Steps.{position}
use Rattle.x86_registers.specs.declared.cpu.Cpu.{Cpu}
use Rattle.x86_instructions.specs.Turns.{Turn, turns}
use Rattle.x86_instructions.specs.declared.tlb.FlushCommand.{FlushCommand}
use Rattle.x86_instructions.specs.declared.tlb.FlushCommand.TheVariants.{Invlpgb}

-- what a processor takes: the greatest count of pages, nested translations, and how many address space
-- identifiers there are
pub record Limits : Type 0 where
  pub count_max : ℕ
  pub nested : Bool
  pub nasid : ℕ

-- what a processor tells of INVLPGB: pages a command, and what its guests may flush
abbrev pub limits_of : Cpu → Limits
limits_of cpu = record { count_max = cpu.invlpgb_count_max; nested = cpu.tlb_flush_nested; nasid = cpu.nasid }

-- what is to be flushed. Pages are given by the numbers of the first one and of the one after the last
pub record Flush : Type 0 where
  pub limits : Limits
  pub pages : Option (ℕ × ℕ)
  pub pcid : Option ℕ
  pub asid : Option ℕ
  pub global : Bool
  pub final_only : Bool
  pub nested : Bool

-- at first all is to be flushed but what a call includes
abbrev pub whole : Limits → Flush
whole limits = record { limits = limits; pages = None; pcid = None; asid = None; global = false; final_only = false; nested = false }

-- the bit at a place, if the condition holds
abbrev pub bit_if : Bool → ℕ → ℕ
bit_if true place = 2 ^ place
bit_if false place = 0

-- a number that may be given, and 0 if it is not
abbrev pub or_zero : Option ℕ → ℕ
or_zero (Some number) = number
or_zero None = 0

-- bits 1 to 5 of RAX: what else is given, and what else is flushed
abbrev pub options_of : Flush → ℕ
options_of flush =
    bit_if (is_some flush.pcid) 1 + bit_if (is_some flush.asid) 2 + bit_if flush.global 3 + bit_if flush.final_only 4 + bit_if flush.nested 5

-- EDX: the address space identifier from bit 0 on, the process-context identifier from bit 16 on
abbrev pub identifiers_of : Flush → ℕ
identifiers_of flush = or_zero flush.pcid * 2 ^ 16 + or_zero flush.asid

-- the command without pages
abbrev pub command : Flush → FlushCommand
command flush = Invlpgb (options_of flush) 0 (identifiers_of flush)

-- the command of a turn: in RAX bit 0 and the address's bits 12 to 63 too, in ECX the count, and bit 31
-- for pages of 2 MiB
abbrev pub turn_command : ℕ → Flush → Turn → FlushCommand
turn_command size flush turn = Invlpgb
    (turn.page * size / 4096 * 4096 + (1 + options_of flush))
    (bit_if (size == 2 ^ 21) 31 + turn.count)
    (identifiers_of flush)

-- the commands of the pages from one place up to another
abbrev pub turn_commands : ℕ → Flush → ℕ → ℕ → List FlushCommand
turn_commands size flush from to = map (turn_command size flush) (turns size flush.limits.count_max from to)

-- the commands of a flush: one if no pages are given
abbrev pub commands : ℕ → Flush → Option (ℕ × ℕ) → List FlushCommand
commands size flush None = command flush ∷ []
commands size flush (Some (first, end)) = turn_commands size flush (position size first) (position size end)

-- the INVLPGB commands of a flush
abbrev pub commands_of : ℕ → Flush → List FlushCommand
commands_of size flush = commands size flush flush.pages
