-- Powers of two, and the bins of sizes.
use Rattle.std.proofs.Common.{◌≡◌, ℕ, ◌+◌, ◌*◌, ◌/◌, ◌%◌, ◌^◌, ◌<◌, ◌≤◌, ◌⊎◌, ◌∙◌, ap, refl, inl, inr, arith}
use Rattle.std.proofs.lemmas.Bool.{cases_lt}
use Rattle.std.proofs.lemmas.Nat.{pow-add, pow_pos, div-add-mod'}
use Rattle.std.proofs.Math.Pow.{pow_mono}
use Rattle.std.proofs.Math.Nat.{mod-lt, mul-le-mul_right}
use Rattle.std.specs.Int.{IsPowerOfTwo}
use Rattle.dlmalloc_chunks.specs.Bins.{least_size, IsTreeIndex}

-- one below 2 ^ 64 is at most 2 ^ 63
pub power_small : (n : ℕ) → IsPowerOfTwo n → n < 2 ^ 64 → n ≤ 2 ^ 63
power_small n power less = elim (cases_lt 63 power.0) [
  | inl more ↦ (let k : 64 ≤ power.0 = omega arith in let h : 2 ^ 64 ≤ 2 ^ power.0 = pow_mono k in let e = power.1 in absurd (omega arith))
  | inr few ↦ (let h : 2 ^ power.0 ≤ 2 ^ 63 = pow_mono few in let e = power.1 in omega arith)
]

-- the least size of the bin of a power of two, and of the bin of its half more
least_is : (place half : ℕ) → half < 2 → least_size (2 * place + half) ≡ (2 + half) * 2 ^ (place + 7)
least_is place half small =
    let odd : (2 * place + half) % 2 ≡ half = omega arith in
    let even : (2 * place + half) / 2 ≡ place = omega arith in
    rw (odd, even) refl

least_next : (place : ℕ) → least_size (2 * place + 1 + 1) ≡ 4 * 2 ^ (place + 7)
least_next place =
    let is : 2 * place + 1 + 1 ≡ 2 * (place + 1) + 0 = omega arith in
    let double : 2 ^ (place + 1 + 7) ≡ 2 ^ (place + 7) * 2 ^ 1 = ap (λ n. 2 ^ n) (omega arith) ∙ pow-add 2 (place + 7) 1 in
    ap least_size is ∙ (least_is (place + 1) 0 (omega arith) ∙ omega (arith, double))

-- the place of the highest bit of the size in units of 256
pub few_places : (place units : ℕ) → 2 ^ place ≤ units → units < 65536 → place < 16
few_places place units reached small = elim (cases_lt place 16) [
  | inl less ↦ less
  | inr more ↦ (let h : 2 ^ 16 ≤ 2 ^ place = pow_mono more in absurd (omega arith))
]

-- what a size is divided by the size of half a bin is 2 or 3
halves : (size half : ℕ) → 0 < half → 2 * half ≤ size → size < 4 * half → (size / half ≡ 2) ⊎ (size / half ≡ 3)
halves size half some low high =
    let parts : size / half * half + size % half ≡ size = div-add-mod' size half in
    let rest : size % half < half = mod-lt size some in
    elim (cases_lt (size / half) 2) [
      | inl few ↦ (let h : size / half * half ≤ 1 * half = mul-le-mul_right half (omega arith) in absurd (omega arith))
      | inr two ↦ elim (cases_lt (size / half) 4) [
        | inr many ↦ (let h : 4 * half ≤ size / half * half = mul-le-mul_right half many in absurd (omega arith))
        | inl less ↦ elim (cases_lt (size / half) 3) [ inl is ↦ inl (omega arith) | inr is ↦ inr (omega arith) ]
      ]
    ]

even_index : (size place : ℕ) → place < 16 → 2 * 2 ^ (place + 7) ≤ size → size < 3 * 2 ^ (place + 7) → IsTreeIndex size (2 * place + 0)
even_index size place few low high =
    let next : least_size (2 * place + 0 + 1) ≡ 3 * 2 ^ (place + 7) = ap least_size (omega arith) ∙ least_is place 1 (omega arith) in
    let least : least_size (2 * place + 0) ≡ 2 * 2 ^ (place + 7) = least_is place 0 (omega arith) in
    record { within = omega arith; reached = omega (arith, least); last = λ less. omega (arith, next) }

odd_index : (size place : ℕ) → place < 16 → 3 * 2 ^ (place + 7) ≤ size → size < 4 * 2 ^ (place + 7) → IsTreeIndex size (2 * place + 1)
odd_index size place few low high =
    let next : least_size (2 * place + 1 + 1) ≡ 4 * 2 ^ (place + 7) = least_next place in
    let least : least_size (2 * place + 1) ≡ 3 * 2 ^ (place + 7) = least_is place 1 (omega arith) in
    record { within = omega arith; reached = omega (arith, least); last = λ less. omega (arith, next) }

pub tree_index : (size place : ℕ) → size / 256 < 65536 → 2 ^ place ≤ size / 256 → size / 256 < 2 * 2 ^ place →
    IsTreeIndex size (2 * place + size / 2 ^ (place + 7) % 2)
tree_index size place small low high =
    let power : 2 ^ (place + 7) ≡ 2 ^ place * 2 ^ 7 = pow-add 2 place 7 in
    let few : place < 16 = few_places place (size / 256) low small in
    let some : 0 < 2 ^ place = pow_pos place in
    let parts : size / 2 ^ (place + 7) * 2 ^ (place + 7) + size % 2 ^ (place + 7) ≡ size = div-add-mod' size (2 ^ (place + 7)) in
    let rest : size % 2 ^ (place + 7) < 2 ^ (place + 7) = mod-lt size (omega arith) in
    elim (halves size (2 ^ (place + 7)) (omega arith) (omega arith) (omega arith)) [
      | inl two ↦ (let times : size / 2 ^ (place + 7) * 2 ^ (place + 7) ≡ 2 * 2 ^ (place + 7) = ap (λ n. n * 2 ^ (place + 7)) two in
          rw two (even_index size place few (omega arith) (omega arith)))
      | inr three ↦ (let times : size / 2 ^ (place + 7) * 2 ^ (place + 7) ≡ 3 * 2 ^ (place + 7) = ap (λ n. n * 2 ^ (place + 7)) three in
          rw three (odd_index size place few (omega arith) (omega arith)))
    ]
