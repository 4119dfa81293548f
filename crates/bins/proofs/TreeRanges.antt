-- The bin of a size, and the range of a bin.
use Rattle.std.proofs.Common.{◌≡◌, ◌≢◌, ℕ, zero, suc, ◌+◌, ◌-◌, ◌*◌, ◌/◌, ◌%◌, ◌^◌, ◌<◌, ◌≤◌, inl, inr, ◌==◌, Bool, true, false, List, [], sym, ap, subst, ◌∙◌, arith}
use Rattle.std.specs.Prelude.{nat_lt, if◌then◌else◌}
use Rattle.std.proofs.lemmas.Bool.{cases_lt}
use Rattle.std.proofs.lemmas.Bool.Decides.{nat_tests}
use Rattle.std.proofs.lemmas.Nat.{pow-add}
use Rattle.dlmalloc_chunks.specs.Bins.{least_size, IsTreeIndex}
use Rattle.bins.specs.Index.{from}
use Rattle.bins.specs.Tries.{width}
use Rattle.bins.specs.Linked.{low_of, levels_of}
use Rattle.bins.proofs.Widths.{width_is}
use Rattle.bins.proofs.Ranges.{range_is}
use Rattle.bins.proofs.Chunks.{same_or_not}

pub low_normal : (b : ℕ) → b ≢ 31 → low_of b ≡ least_size b
low_normal b not = let t : (b == 31) ≡ false = grind (arith, nat_tests) in ap (λ (c : Bool). if c then 0 else least_size b) t

pub low_last : {b : ℕ} → b ≡ 31 → low_of b ≡ 0
low_last {b = b} is = let t : (b == 31) ≡ true = grind (arith, nat_tests) in ap (λ (c : Bool). if c then 0 else least_size b) t

pub levels_normal : (b : ℕ) → b ≢ 31 → levels_of b ≡ b / 2 + 4
levels_normal b not = let t : (b == 31) ≡ false = grind (arith, nat_tests) in ap (λ (c : Bool). if c then 61 else b / 2 + 4) t

pub levels_last : {b : ℕ} → b ≡ 31 → levels_of b ≡ 61
levels_last {b = b} is = let t : (b == 31) ≡ true = grind (arith, nat_tests) in ap (λ (c : Bool). if c then 61 else b / 2 + 4) t

pub levels_few : (b : ℕ) → b < 32 → levels_of b ≤ 61
levels_few b within = elim (same_or_not b 31) [
  | inl is ↦ (let l = levels_last is in omega arith)
  | inr not ↦ (let l = levels_normal b not in omega arith)
]

pub end_normal : (b : ℕ) → b ≢ 31 → low_of b + width (levels_of b) ≡ least_size (b + 1)
end_normal b not = ap (λ l. l + width (levels_of b)) (low_normal b not) ∙ (ap (λ n. least_size b + width n) (levels_normal b not) ∙ range_is b)

pub end_last : {b : ℕ} → b ≡ 31 → low_of b + width (levels_of b) ≡ 2 ^ 64
end_last {b = b} is = let l = low_last is in let w = ap width (levels_last is) ∙ width_is 61 in omega (arith, l, w)

pub less_next : (b : ℕ) → least_size b ≤ least_size (b + 1)
less_next b = let r = range_is b in omega arith

mono_by : (b d : ℕ) → least_size b ≤ least_size (b + d)
mono_by b zero = let e : b ≡ b + 0 = omega arith in subst (λ n. least_size b ≤ least_size n) e (omega arith)
mono_by b (suc d) =
    let h = mono_by b d in
    let n = less_next (b + d) in
    let e : b + d + 1 ≡ b + suc d = omega arith in
    subst (λ m. least_size b ≤ least_size m) e (omega (arith, h, n))

pub mono : (b c : ℕ) → b ≤ c → least_size b ≤ least_size c
mono b c less = let e : b + (c - b) ≡ c = omega arith in subst (λ m. least_size b ≤ least_size m) e (mono_by b (c - b))

pub bin_only : {n b c : ℕ} → IsTreeIndex n b → IsTreeIndex n c → b ≡ c
bin_only {b = b} {c = c} one two = elim (cases_lt b c) [
  | inl less ↦ absurd (let m = mono (b + 1) c (omega arith) in let l = one.last (let w = two.within in omega arith) in let r = two.reached in omega arith)
  | inr not ↦ elim (cases_lt c b) [
    | inl less ↦ absurd (let m = mono (c + 1) b (omega arith) in let l = two.last (let w = one.within in omega arith) in let r = one.reached in omega arith)
    | inr same ↦ omega arith
  ]
]

pub in_range : (n b : ℕ) → b < 32 → least_size b ≤ n → n < low_of b + width (levels_of b) → IsTreeIndex n b
in_range n b within above below = record {
  within = within;
  reached = above;
  last = λ less. let e = end_normal b (λ is. omega arith) in omega (arith, below, e);
}

pub bin_low : {n b : ℕ} → IsTreeIndex n b → low_of b ≤ n
bin_low {n = n} {b = b} t = elim (same_or_not b 31) [
  | inl is ↦ (let l = low_last is in omega arith)
  | inr not ↦ subst (λ l. l ≤ n) (sym (low_normal b not)) t.reached
]

pub bin_end : {n b : ℕ} → n < 2 ^ 64 → IsTreeIndex n b → n < low_of b + width (levels_of b)
bin_end {n = n} {b = b} small t = elim (same_or_not b 31) [
  | inl is ↦ subst (λ l. n < l) (sym (end_last is)) small
  | inr not ↦ subst (λ l. n < l) (sym (end_normal b not)) (t.last (let w = t.within in omega arith))
]

pub least_small : (b : ℕ) → b < 32 → least_size b ≤ 3 * 2 ^ 22
least_small b within = let m = mono b 31 (omega arith) in omega (arith, m)

pub end_fits : (b : ℕ) → b < 32 → low_of b + width (levels_of b) ≤ 2 ^ 64
end_fits b within = elim (same_or_not b 31) [
  | inl is ↦ (let l = end_last is in omega (arith, l))
  | inr not ↦ (let l = end_normal b not in let s = least_small (b + 1) (omega arith) in omega (arith, l, s))
]

least_whole : (b : ℕ) → least_size b % 16 ≡ 0
least_whole b =
    let e : b / 2 + 7 ≡ b / 2 + 3 + 4 = omega arith in
    let p : 2 ^ (b / 2 + 7) ≡ 2 ^ (b / 2 + 3) * 2 ^ 4 = ap (λ n. 2 ^ n) e ∙ pow-add 2 (b / 2 + 3) 4 in
    elim (same_or_not (b % 2) 0) [
      | inl even ↦ rw even (omega (arith, p))
      | inr not ↦ (let one : b % 2 ≡ 1 = omega arith in rw one (omega (arith, p)))
    ]

pub low_whole : (b : ℕ) → low_of b % 16 ≡ 0
low_whole b = elim (same_or_not b 31) [
  | inl is ↦ ap (λ n. n % 16) (low_last is)
  | inr not ↦ ap (λ n. n % 16) (low_normal b not) ∙ least_whole b
]

pub from_same : (least : ℕ) (index : ℕ → List ℕ) (n : ℕ) → least ≤ n → from least index n ≡ index n
from_same least index n above = let t : nat_lt n least ≡ false = grind (arith, nat_tests) in ap (λ (c : Bool). if c then [] else index n) t

pub from_less : (least : ℕ) (index : ℕ → List ℕ) (n : ℕ) → n < least → from least index n ≡ []
from_less least index n below = let t : nat_lt n least ≡ true = grind (arith, nat_tests) in ap (λ (c : Bool). if c then [] else index n) t

pub from_alike : (least : ℕ) (index index' : ℕ → List ℕ) (n : ℕ) → (least ≤ n → index' n ≡ index n) →
    from least index' n ≡ from least index n
from_alike least index index' n same = elim (cases_lt n least) [
  | inl less ↦ from_less least index' n less ∙ sym (from_less least index n less)
  | inr more ↦ from_same least index' n more ∙ (same more ∙ sym (from_same least index n more))
]

pub low_least : (b : ℕ) → low_of b ≤ least_size b
low_least b = elim (same_or_not b 31) [
  | inl is ↦ (let l = low_last is in omega arith)
  | inr not ↦ (let l = low_normal b not in omega arith)
]

-- where a bin begins, scaled: a multiple of 2 ^ 64
pub low_scaled : (b : ℕ) → b < 32 → low_of b * 2 ^ (61 - levels_of b) % 2 ^ 64 ≡ 0
low_scaled b within = elim (same_or_not b 31) [
  | inl is ↦ ap (λ n. n * 2 ^ (61 - levels_of b) % 2 ^ 64) (low_last is) ∙ omega arith
  | inr not ↦
      let p = pow-add 2 (b / 2 + 7) (57 - b / 2) in
      let sum : b / 2 + 7 + (57 - b / 2) ≡ 64 = omega arith in
      let q : 2 ^ (b / 2 + 7 + (57 - b / 2)) ≡ 2 ^ 64 = ap (λ n. 2 ^ n) sum in
      let all : (2 + b % 2) * 2 ^ (b / 2 + 7) * 2 ^ (57 - b / 2) ≡ (2 + b % 2) * 2 ^ 64 = grind arith in
      let rest : 61 - levels_of b ≡ 57 - b / 2 = let l = levels_normal b not in omega (arith, l) in
      ap (λ n. n * 2 ^ (61 - levels_of b) % 2 ^ 64) (low_normal b not) ∙ (ap (λ n. (2 + b % 2) * 2 ^ (b / 2 + 7) * 2 ^ n % 2 ^ 64) rest
      ∙ omega (arith, all))
]
