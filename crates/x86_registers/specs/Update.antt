-- Changing a register by a closure from the value read to the value written.

-- the closure may be called on each value that the read may give
abbrev pub CanUpdate : {V : Type 0} → (V → Type 0) → (V → Type 0) → Type 0
CanUpdate {V = V} Read Pre = (before : V) → Read before → Pre before

-- a value was read, the closure made another of it, and that was written
pub record Updates {V : Type 0} (Read : V → Type 0) (Post : V → V → Type 0) (Written : V → Type 0) : Type 0 where
  pub before : V
  pub after : V
  pub read : Read before
  pub called : Post before after
  pub written : Written after
