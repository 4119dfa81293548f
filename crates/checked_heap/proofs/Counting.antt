-- How many addresses pass a test, as one more passes.
use Rattle.std.specs.Prelude.{◌≡◌, ◌≢◌, ℕ, zero, suc, ◌+◌, ◌<◌, ◌≤◌, ◌⊎◌, Bool, true, false, if◌then◌else◌}
use Rattle.std.proofs.Common.{◌∙◌, ap, sym, refl, inl, inr, arith}
use Rattle.std.proofs.lemmas.Bool.{cases_eq}
use Rattle.checked_heap.specs.Counted.{count_below}

counted_suc : (test : ℕ → Bool) (n : ℕ) → count_below test (suc n) ≡ count_below test n + (if test n then 1 else 0)
unfolding count_below
counted_suc test n = refl

counted_zero : (test : ℕ → Bool) → count_below test 0 ≡ 0
unfolding count_below
counted_zero test = refl

pub counted_same : (one other : ℕ → Bool) (n : ℕ) → ((k : ℕ) → k < n → other k ≡ one k) →
    count_below other n ≡ count_below one n
counted_same one other zero same = counted_zero other ∙ sym (counted_zero one)
counted_same one other (suc n) same =
    let rest = counted_same one other n (λ k less. same k (omega arith)) in
    let bit = ap {B = ℕ} (λ (b : Bool). if b then 1 else 0) (same n (omega arith)) in
    omega (arith, counted_suc one n, counted_suc other n, rest, bit)

pub counted_none : (test : ℕ → Bool) (n : ℕ) → ((k : ℕ) → test k ≡ false) → count_below test n ≡ 0
counted_none test zero none = counted_zero test
counted_none test (suc n) none =
    let rest = counted_none test n none in
    let bit = ap {B = ℕ} (λ (b : Bool). if b then 1 else 0) (none n) in
    omega (arith, counted_suc test n, rest, bit)

pub counted_more : (less more : ℕ → Bool) (n at : ℕ) → at < n → less at ≡ false → more at ≡ true →
    ((k : ℕ) → k ≢ at → more k ≡ less k) → count_below more n ≡ count_below less n + 1
counted_more less more zero at below not_yet now same = absurd (omega (arith, below))
counted_more less more (suc n) at below not_yet now same = go (cases_eq at n) (λ before. counted_more less more n at before not_yet now same)
  where
    go : (at ≡ n) ⊎ (at ≡ n → ⊥) → (at < n → count_below more n ≡ count_below less n + 1) → count_below more (suc n) ≡ count_below less (suc n) + 1
    go (inl last) earlier =
        let rest = counted_same less more n (λ k before. same k (λ is. omega (arith, is, before, last))) in
        let zero_bit = ap {B = ℕ} (λ (b : Bool). if b then 1 else 0) (ap less (sym last) ∙ not_yet) in
        let one_bit = ap {B = ℕ} (λ (b : Bool). if b then 1 else 0) (ap more (sym last) ∙ now) in
        omega (arith, counted_suc less n, counted_suc more n, rest, zero_bit, one_bit)
    go (inr before) earlier =
        let rest = earlier (omega (arith, below, before)) in
        let bit = ap {B = ℕ} (λ (b : Bool). if b then 1 else 0) (same n (λ is. before (sym is))) in
        omega (arith, counted_suc less n, counted_suc more n, rest, bit)

at_most_one : (b : Bool) → (if b then 1 else 0) ≤ 1
at_most_one true = omega arith
at_most_one false = omega arith

at_most : (test : ℕ → Bool) (n : ℕ) → count_below test n ≤ n
at_most test zero = omega (arith, counted_zero test)
at_most test (suc n) = omega (arith, counted_suc test n, at_most test n, at_most_one (test n))

-- where one does not pass, not all do
pub counted_below : (test : ℕ → Bool) (n at : ℕ) → at < n → test at ≡ false → count_below test n < n
counted_below test zero at below not_so = absurd (omega (arith, below))
counted_below test (suc n) at below not_so = go (cases_eq at n) (λ before. counted_below test n at before not_so)
  where
    go : (at ≡ n) ⊎ (at ≡ n → ⊥) → (at < n → count_below test n < n) → count_below test (suc n) < suc n
    go (inl last) earlier =
        let bit = ap {B = ℕ} (λ (b : Bool). if b then 1 else 0) (ap test (sym last) ∙ not_so) in
        omega (arith, counted_suc test n, at_most test n, bit)
    go (inr before) earlier = omega (arith, counted_suc test n, earlier (omega (arith, below, before)), at_most_one (test n))

-- two tests that tell the same addresses count the same
pub counted_alike : (Is : ℕ → Type 0) (one other : ℕ → Bool) (n : ℕ) → ((a : ℕ) → one a ≡ true → Is a) → ((a : ℕ) → Is a → one a ≡ true) →
    ((a : ℕ) → other a ≡ true → Is a) → ((a : ℕ) → Is a → other a ≡ true) → count_below other n ≡ count_below one n
counted_alike Is one other n to from to_other from_other = counted_same one other n (λ k less. go k (one k) (other k) refl refl)
  where
    go : (k : ℕ) (b c : Bool) → one k ≡ b → other k ≡ c → other k ≡ one k
    go k true true t o = o ∙ sym t
    go k false false t o = o ∙ sym t
    go k true false t o = absurd (let yes : other k ≡ true = from_other k (to k t) in cc)
    go k false true t o = absurd (let yes : one k ≡ true = from k (to_other k o) in cc)
