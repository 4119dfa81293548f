-- What a head says that was made of a size and its bits, and what stays when bit 0 changes.
use Rattle.std.specs.Prelude.{◌≡◌, ℕ, ◌+◌, ◌*◌, ◌/◌, ◌%◌, Bool, true, false}
use Rattle.std.proofs.Common.{refl, arith}
use Rattle.std.proofs.lemmas.Bool.Decides.{nat_tests}
use Rattle.dlmalloc_chunks.specs.Head.{size_of, pinuse_of, cinuse_of, head_of, with_pinuse, without_pinuse}

pub size_of-head_of : (size : ℕ) (pinuse cinuse : Bool) → size % 8 ≡ 0 → size_of (head_of size pinuse cinuse) ≡ size
size_of-head_of size true true whole = omega arith
size_of-head_of size true false whole = omega arith
size_of-head_of size false true whole = omega arith
size_of-head_of size false false whole = omega arith

pub pinuse_of-head_of : (size : ℕ) (pinuse cinuse : Bool) → size % 8 ≡ 0 → pinuse_of (head_of size pinuse cinuse) ≡ pinuse
pinuse_of-head_of size true true whole = grind (arith, nat_tests)
pinuse_of-head_of size true false whole = grind (arith, nat_tests)
pinuse_of-head_of size false true whole = grind (arith, nat_tests)
pinuse_of-head_of size false false whole = grind (arith, nat_tests)

pub cinuse_of-head_of : (size : ℕ) (pinuse cinuse : Bool) → size % 8 ≡ 0 → cinuse_of (head_of size pinuse cinuse) ≡ cinuse
cinuse_of-head_of size true true whole = grind (arith, nat_tests)
cinuse_of-head_of size true false whole = grind (arith, nat_tests)
cinuse_of-head_of size false true whole = grind (arith, nat_tests)
cinuse_of-head_of size false false whole = grind (arith, nat_tests)

pub with_pinuse-head_of : (size : ℕ) (pinuse cinuse : Bool) → size % 8 ≡ 0 → with_pinuse (head_of size pinuse cinuse) ≡ head_of size true cinuse
with_pinuse-head_of size true true whole = omega arith
with_pinuse-head_of size true false whole = omega arith
with_pinuse-head_of size false true whole = omega arith
with_pinuse-head_of size false false whole = omega arith

pub without_pinuse-head_of : (size : ℕ) (pinuse cinuse : Bool) → size % 8 ≡ 0 → without_pinuse (head_of size pinuse cinuse) ≡ head_of size false cinuse
without_pinuse-head_of size true true whole = omega arith
without_pinuse-head_of size true false whole = omega arith
without_pinuse-head_of size false true whole = omega arith
without_pinuse-head_of size false false whole = omega arith

pub size_of-with_pinuse : (head : ℕ) → size_of (with_pinuse head) ≡ size_of head
size_of-with_pinuse head = omega arith

pub size_of-without_pinuse : (head : ℕ) → size_of (without_pinuse head) ≡ size_of head
size_of-without_pinuse head = omega arith

pub pinuse_of-with_pinuse : (head : ℕ) → pinuse_of (with_pinuse head) ≡ true
pinuse_of-with_pinuse head = grind (arith, nat_tests)

pub pinuse_of-without_pinuse : (head : ℕ) → pinuse_of (without_pinuse head) ≡ false
pinuse_of-without_pinuse head = grind (arith, nat_tests)

pub cinuse_of-with_pinuse : (head : ℕ) → cinuse_of (with_pinuse head) ≡ cinuse_of head
cinuse_of-with_pinuse head = let same : (head / 2 * 2 + 1) / 2 ≡ head / 2 = omega arith in rw same refl

pub cinuse_of-without_pinuse : (head : ℕ) → cinuse_of (without_pinuse head) ≡ cinuse_of head
cinuse_of-without_pinuse head = let same : head / 2 * 2 / 2 ≡ head / 2 = omega arith in rw same refl

-- a size is a multiple of 8, and no greater than its head
pub size_of-aligned : (head : ℕ) → size_of head % 8 ≡ 0
size_of-aligned head = omega arith

pub size_of-le : (head : ℕ) → size_of head + head % 8 ≡ head
size_of-le head = omega arith
