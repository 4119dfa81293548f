-- What a program's source and its sink tell of themselves.
use Rattle.std.specs.Prelude.{ℕ, List, Option}

-- Of a source the bytes that are left, and how often a read has failed; of a sink the bytes that it has taken, how many of them are
-- flushed, and how often a call has failed. What is not told is None.
pub record Streams (S K : Type 0) : Type 0 where
  pub left : S → Option (List ℕ)
  pub reads : S → ℕ
  pub taken : K → Option (List ℕ)
  pub flushed : K → Option ℕ
  pub writes : K → ℕ

-- a source and a sink, by what they have left and have taken
abbrev pub streams : {S K : Type 0} → (S → Option (List ℕ)) → (S → ℕ) → (K → Option (List ℕ)) → (K → Option ℕ) → (K → ℕ) → Streams S K
streams left reads taken flushed writes = record { left = left; reads = reads; taken = taken; flushed = flushed; writes = writes }
