-- Frames of a memory that come into being when they are first written.
use Rattle.std.specs.Prelude.{◌≡◌, ℕ, ◌+◌, ◌-◌, ◌*◌, ◌/◌, ◌%◌, ◌≤◌, ◌++◌, Vec, replicate}
use Rattle.std.specs.declared.alloc.Global.{Global}
use Rattle.std.specs.Vec.{vec_len, vec_capacity}

-- The words are those of whole frames, and room is reserved up to the frame with the word at `place`.
pub record HasRoomTo (words : Vec ℕ Global) (place : ℕ) : Type 0 where
  pub whole : vec_len words % 512 ≡ 0
  pub room : 512 * (place / 512) + 512 ≤ vec_capacity words

-- The frames up to the one with the word at `place` are there, if need be new ones, each word 0.
pub record HasFramesTo (old new : Vec ℕ Global) (place : ℕ) : Type 0 where
  pub words : new.items ≡ old.items ++ replicate (512 * (place / 512) + 512 - vec_len old) 0
  pub room : vec_capacity old ≤ vec_capacity new
