-- The live blocks of a numbered heap, by number, and their bytes.
use Rattle.std.specs.Prelude.{◌≡◌, ℕ, ◌+◌, ◌≤◌, List, slice_index_or, Option, Some, None, nat_lt, if◌then◌else◌}
use Rattle.machine_model.specs.declared.live.Live.{Live}
use Rattle.machine_model.specs.declared.answer.Refusal.{Refusal}
use Rattle.machine_model.specs.declared.answer.Refusal.TheVariants.{UnknownBlock, OutOfBlock}

-- the live block of a number
abbrev pub live_at : List (Option Live) → ℕ → Option Live
live_at blocks number = slice_index_or blocks number None

-- why bytes of a live block are out of reach, if they are
abbrev pub refuse_live : Option Live → ℕ → ℕ → Option Refusal
refuse_live None offset count = Some UnknownBlock
refuse_live (Some live) offset count = if nat_lt live.size (offset + count) then Some OutOfBlock else None

-- bytes of a live block, and the address of the first
pub record HasBytes (blocks : List (Option Live)) (number offset count address : ℕ) : Type 0 where
  pub live : Live
  pub is : live_at blocks number ≡ Some live
  pub within : offset + count ≤ live.size
  pub place : address ≡ live.address + offset
