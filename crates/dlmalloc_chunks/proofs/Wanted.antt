-- The chunk of the enlarged request is the one that is wanted at its alignment.
use Rattle.std.proofs.Common.{◌≡◌, ℕ, ◌+◌, ◌/◌, ◌%◌, ◌<◌, ◌≤◌, Bool, true, false, nat_le, nat_lt, if◌then◌else◌, refl, ◌∙◌, arith}
use Rattle.std.proofs.lemmas.Bool.Decides.{nat_tests}
use Rattle.std.specs.Int.{IsPowerOfTwo}
use Rattle.dlmalloc_chunks.specs.Request.{round_up, padded, enlarged, wanted}
use Rattle.dlmalloc_chunks.proofs.PowersOfTwo.{power_whole}

padded_whole : (n : ℕ) → (padded n % 16 ≡ 0) × (32 ≤ padded n)
unfolding padded
padded_whole n = go (nat_lt n 23) refl
  where
    go : (small : Bool) → nat_lt n 23 ≡ small → ((if small then 32 else round_up (n + 8) 16) % 16 ≡ 0) × (32 ≤ (if small then 32 else round_up (n + 8) 16))
    go true is = (refl, omega arith)
    go false is = (let more : 23 ≤ n = grind (arith, nat_tests) in (omega arith, omega arith))

-- a size with room for its head that is made of whole units takes no more
padded_unit : (n : ℕ) → 23 ≤ n → (n + 8) % 16 ≡ 0 → padded n ≡ n + 8
unfolding padded
padded_unit n more whole = let large : nat_lt n 23 ≡ false = grind (arith, nat_tests) in rw large (omega arith)

pub wanted_few : (size align : ℕ) → align ≤ 16 → wanted size align ≡ padded size
unfolding wanted
wanted_few size align few = let is : nat_le align 16 ≡ true = grind (arith, nat_tests) in rw is refl

pub wanted_many : (size align : ℕ) → IsPowerOfTwo align → 16 < align → padded (enlarged size align) ≡ wanted size align
unfolding wanted enlarged
wanted_many size align power many =
    let whole = power_whole align power (omega arith) in
    let p = padded_whole size in
    let is : nat_le align 16 ≡ false = grind (arith, nat_tests) in
    rw is (padded_unit (padded size + align + 24) (omega (arith, p.1)) (omega (arith, p.0, whole)) ∙ omega arith)
