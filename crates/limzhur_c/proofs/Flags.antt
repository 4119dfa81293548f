-- The bits of a word of flags.
use Rattle.std.proofs.Common.{◌≡◌, ℕ, ◌+◌, ◌*◌, ◌%◌, ◌≤◌, Bool, true, false, ap, arith}
use Rattle.std.specs.Prelude.{◌==◌}
use mir.Val.{bool_byte}

-- a flag counts 1 at most
pub flag_small : (flag : Bool) (n : ℕ) → n ≡ bool_byte flag → n ≤ 1
flag_small true n is = omega (arith, is)
flag_small false n is = omega (arith, is)

-- the lowest bit of a word is that of its flag
pub flag_found : (flag : Bool) (n rest word : ℕ) → n ≡ bool_byte flag → word ≡ n + 2 * rest → (word % 2 == 1) ≡ flag
flag_found true n rest word one is = let odd : word % 2 ≡ 1 = omega (arith, one, is) in ap (λ m. m == 1) odd
flag_found false n rest word none is = let even : word % 2 ≡ 0 = omega (arith, none, is) in ap (λ m. m == 1) even
