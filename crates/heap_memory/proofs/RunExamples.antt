-- Runs that are given back, worked out.
use Rattle.std.proofs.Common.{◌≡◌, ℕ, List, [], ◌∷◌, true, false, refl, inl, inr, arith}
use Rattle.std.proofs.lemmas.Bool.Decides.{nat_tests}
use Rattle.heap_memory.specs.declared.grant.Grant.{Grant}
use Rattle.heap_memory.specs.Runs.{IsRun, without_run, is_in_units}

abbrev granted : ℕ → ℕ → ℕ → Grant
granted base size flags = record { base = base; size = size; flags = flags }

abbrev three : List Grant
three = granted 0x1000 0x1000 0 ∷ granted 0x2000 0x2000 2 ∷ granted 0x8000 0x1000 0 ∷ []

-- the first two are a run
first_two : IsRun three 0x1000 0x4000
first_two = record {
  some = omega arith;
  granted = λ at low high. grind (arith, nat_tests);
  whole = (inr (omega arith, omega arith), (inr (omega arith, omega arith), (inl (inr (omega arith)), tt)));
}

-- given back whole
none_left : without_run 0x1000 0x4000 three ≡ granted 0x8000 0x1000 0 ∷ []
none_left = refl

-- but for 0x2800 bytes: the second is cut, and keeps its flags
half_left : without_run 0x3800 0x4000 three ≡ granted 0x1000 0x1000 0 ∷ granted 0x2000 0x1800 2 ∷ granted 0x8000 0x1000 0 ∷ []
half_left = refl

-- but for 16 bytes: the second leaves, and the first is cut
least_left : without_run 0x1010 0x4000 three ≡ granted 0x1000 0x10 0 ∷ granted 0x8000 0x1000 0 ∷ []
least_left = refl

-- but for the first: what ends where the cut begins is as it was
first_left : without_run 0x2000 0x4000 three ≡ granted 0x1000 0x1000 0 ∷ granted 0x8000 0x1000 0 ∷ []
first_left = refl

-- of no byte: nothing is cut
all_left : without_run 0x4000 0x4000 three ≡ three
all_left = refl

-- parts of whole pages alone, of any size, and of none
in_pages : is_in_units 4096 0x1000 ≡ true
in_pages = refl

off_a_page : is_in_units 4096 0x1800 ≡ false
off_a_page = refl

in_bytes : is_in_units 1 0x10 ≡ true
in_bytes = refl

in_nothing : is_in_units 0 0x1000 ≡ false
in_nothing = refl
