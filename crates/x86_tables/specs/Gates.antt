-- Gates side by side, and what a loan of them leaves (own).
use Rattle.std.specs.Prelude.{ℕ, ◌-◌, ◌++◌, List, take, drop, slice_set}
use Rattle.std.specs.Borrow.{Lends, MutBor, Fml, Array, RattleType}
use Rattle.x86_tables.specs.contracts.idt.gates.Gates.{the_row}

-- the list with other elements from one place up to another: as many of these as there is room for
abbrev pub with_part : {X : Type 0} → List X → ℕ → ℕ → List X → List X
with_part gates from to part = take from gates ++ (take (to - from) part ++ drop to gates)

module _ (T N : RattleType) (gates : MutBor (the_row T N).Denot) where
  -- the gates end with the last one behind the reference at its place
  abbrev pub lends_gate : ℕ → MutBor T.Denot → Fml
  lends_gate place gate = Lends (the_row T N) T gates gate (λ last. record { gates = slice_set gates.now.gates place last })

  -- the gates end with the last ones behind the reference in their places
  abbrev pub lends_part : ℕ → ℕ → MutBor (List T.Denot) → Fml
  lends_part from to part =
      Lends (the_row T N) (Array T 0) gates part (λ last. record { gates = with_part gates.now.gates from to last })
