-- What a range of pages meets: runs of pages that are alike, and the lowest number for which a test holds.
use Rattle.std.proofs.Common.{◌≡◌, ℕ, zero, suc, ◌+◌, ◌-◌, ◌*◌, ◌/◌, ◌%◌, ◌^◌, ◌<◌, ◌≤◌, Bool, true, false, List, Option, Some, None, refl, sym, ap, ◌∙◌, ◌⊎◌, inl, inr, arith}
use Rattle.std.proofs.lemmas.Bool.{cases_lt}
use Rattle.std.specs.Prelude.{IsSome, IfSome, is_none}
use Rattle.std.specs.Option.{option_map, is_some}
use Rattle.paging_core.specs.Large.{slot_of}
use Rattle.paging_core.specs.Missing.{missing_of}
use Rattle.paging_core.specs.Prefix.{prefix_of}
use Rattle.paging_core.specs.Tables.{missing_at}
use Rattle.paging_core.specs.Walk.{Place, mapped_place, page_in, reach, large_of, walk_of}
use Rattle.paging_core.specs.declared.page_walk.Mapped.{Mapped}
use Rattle.paging_core.proofs.Counts.{missing_one}
use Rattle.paging_core.proofs.LastEntry.{some_or_none}
use Rattle.paging_core.proofs.Prefixes.{walk_reach, walk_stops, none_more, small_page}
use Rattle.paging_core.proofs.Reach.{reach_none, reach_in}
use Rattle.kernel_tables.specs.Ranges.{lowest}

-- what holds of the numbers below one and from there on up to an end
pub up_to : (P : ℕ → Type 0) (mid end : ℕ) → ((k : ℕ) → k < mid → P k) → ((k : ℕ) → mid ≤ k → k < end → P k) → (k : ℕ) → k < end → P k
up_to P mid end low high k lt = go (cases_lt k mid)
  where
    go : (k < mid) ⊎ (mid ≤ k) → P k
    go (inl x) = low k x
    go (inr x) = high k x lt

pub lowest_none : (test : ℕ → Bool) (from count : ℕ) → ((k : ℕ) → k < count → test (from + k) ≡ false) → lowest test from count ≡ None
unfolding lowest
lowest_none test from zero h = refl
lowest_none test from (suc count) h =
    let z : from + 0 ≡ from = omega arith in
    let e : test from ≡ false = ap test (sym z) ∙ h 0 (omega arith) in
    rw e (lowest_none test (from + 1) count (λ k lt. let s : from + 1 + k ≡ from + (k + 1) = omega arith in ap test s ∙ h (k + 1) (omega arith)))

pub lowest_at : (test : ℕ → Bool) (from count k : ℕ) → k < count → ((j : ℕ) → j < k → test (from + j) ≡ false) → test (from + k) ≡ true →
    lowest test from count ≡ Some (from + k)
unfolding lowest
lowest_at test from zero k lt h is = absurd (omega arith)
lowest_at test from (suc count) zero lt h is =
    let z : from + 0 ≡ from = omega arith in
    let e : test from ≡ true = ap test (sym z) ∙ is in
    rw e (ap (λ n. Some n) (sym z))
lowest_at test from (suc count) (suc k) lt h is =
    let z : from + 0 ≡ from = omega arith in
    let e : test from ≡ false = ap test (sym z) ∙ h 0 (omega arith) in
    let s : from + 1 + k ≡ from + suc k = omega arith in
    rw e
    (lowest_at test (from + 1) count k (omega arith) (λ j lj. let t : from + 1 + j ≡ from + suc j = omega arith in ap test t
    ∙ h (suc j) (omega arith)) (ap test s ∙ is)
    ∙ ap (λ n. Some n) s)

-- what a walk finds is a place exactly if there is one
pub found_some : (o : Option Mapped) (p : Option Place) → option_map mapped_place o ≡ p → is_some o ≡ true →
    is_some p ≡ true
found_some None p e t = absurd (cc)
found_some (Some x) p e t = rw (← e) refl

pub found_none : (o : Option Mapped) (p : Option Place) → option_map mapped_place o ≡ p → is_some o ≡ false → p ≡ None
found_none None p e t = sym e
found_none (Some x) p e t = absurd (cc)

pub found_there : (o : Option Mapped) (p : Option Place) → option_map mapped_place o ≡ p → is_some o ≡ true → IsSome p
found_there None p e t = absurd (cc)
found_there (Some x) p e t = rw (← e) (let h : IsSome (Some (mapped_place x)) = refl in h)

pub is_there : {A : Type 0} (o : Option A) → is_some o ≡ true → IsSome o
is_there None e = absurd (cc)
is_there (Some x) e = refl

pub is_nothing : {A : Type 0} (o : Option A) → is_some o ≡ false → o ≡ None
is_nothing None e = refl
is_nothing (Some x) e = absurd (cc)

pub if_there : {A : Type 0} (o : Option A) (P : A → Type 0) → is_some o ≡ true → IfSome o P → (x : A) × P x
if_there None P e p = absurd (cc)
if_there (Some x) P e p = (x, p)

pub there_is : (o : Option Place) → IsSome o → is_some o ≡ true
there_is None h = absurd (cc)
there_is (Some x) h = refl

pub none_is : (o : Option Place) → o ≡ None → is_none o ≡ true
none_is o e = rw e refl

pub some_is : (o : Option Place) → IsSome o → is_none o ≡ false
some_is None h = absurd (cc)
some_is (Some x) h = refl

-- each page of a large page is mapped
pub in_large_page : (words : List ℕ) (root page : ℕ) → IsSome (large_of words root (slot_of (page / 512))) → IsSome (walk_of words root page)
in_large_page words root page some = go (some_or_none (large_of words root (slot_of (page / 512))))
  where
    nothing : (o : Option Place) → o ≡ None → IsSome o → ⊥
    nothing None e h = cc
    nothing (Some x) e h = cc

    go : ((x : Place) × (large_of words root (slot_of (page / 512)) ≡ Some x)) ⊎ (large_of words root
        (slot_of (page / 512)) ≡ None) → IsSome (walk_of words root page)
    go (inl x) =
        let up : prefix_of page 4 / 512 ≡ slot_of (page / 512) = omega arith in
        let e : walk_of words root page ≡ Some (page_in (prefix_of page 4 % 512) x.0) =
        walk_reach words root page ∙ reach_in words root (prefix_of page 4) x.0 (ap (large_of words root) up ∙ x.1) in
        rw e (let h : IsSome (Some (page_in (prefix_of page 4 % 512) x.0)) = refl in h)
    go (inr none) = absurd (nothing (large_of words root (slot_of (page / 512))) none some)

missing_here : (words : List ℕ) (root page level : ℕ) → reach words root level (prefix_of page level) ≡ None → missing_at words root page level ≡ 1
missing_here words root page level e = rw e refl

present_here : (words : List ℕ) (root page level : ℕ) (met : Place) →
    reach words root level (prefix_of page level) ≡ Some met → missing_at words root page level ≡ 0
present_here words root page level met e = rw e refl

-- a page misses at most three tables
one_at_most : (words : List ℕ) (root page level : ℕ) → missing_at words root page level ≤ 1
one_at_most words root page level = go (some_or_none (reach words root level (prefix_of page level)))
  where
    go : ((x : Place) × (reach words root level (prefix_of page level) ≡ Some x)) ⊎ (reach words root level
        (prefix_of page level) ≡ None) → missing_at words root page level ≤ 1
    go (inl x) = let e = present_here words root page level x.0 x.1 in omega (arith, e)
    go (inr none) = let e = missing_here words root page level none in omega (arith, e)

pub few_missing : (words : List ℕ) (root page missing : ℕ) → missing ≡ missing_of words root page 1 → missing ≤ 3
few_missing words root page missing is =
    let c = missing_one words root page in
    let one = one_at_most words root page 1 in
    let two = one_at_most words root page 2 in
    let three = one_at_most words root page 3 in
    omega arith

-- Two pages below the same missing table: what the walks of both meet.
abbrev Alike : List ℕ → ℕ → ℕ → ℕ → Type 0
Alike words root page other =
    (walk_of words root page ≡ None → walk_of words root other ≡ None)
    × (reach words root 3 (prefix_of page 3) ≡ None → reach words root 3 (prefix_of other 3) ≡ None)

-- the pages from one on up to the end of what its lowest missing table would map are alike
pub alike : (words : List ℕ) (root page other missing block : ℕ) → missing_of words root page 1 ≡ missing → block ≡ 2 ^ (9 * missing) →
    page ≤ other → other < page - page % block + block →
    (walk_of words root page ≡ None → walk_of words root other ≡ None)
    × (reach words root 3 (prefix_of page 3) ≡ None → reach words root 3 (prefix_of other 3) ≡ None)
alike words root page other missing block m b lo hi =
    go (some_or_none (reach words root 1 (prefix_of page 1))) (some_or_none (reach words root 2 (prefix_of page 2)))
    (some_or_none (reach words root 3 (prefix_of page 3)))
  where
    stops : reach words root 2 (prefix_of other 2) ≡ None → Alike words root page other
    stops none = (λ _. walk_stops words root other none, λ _. none_more words root other 2 (omega arith) none)

    go : ((x : Place) × (reach words root 1 (prefix_of page 1) ≡ Some x)) ⊎ (reach words root 1 (prefix_of page 1) ≡ None) →
        ((x : Place) × (reach words root 2 (prefix_of page 2) ≡ Some x)) ⊎ (reach words root 2 (prefix_of page 2) ≡ None) →
        ((x : Place) × (reach words root 3 (prefix_of page 3) ≡ Some x)) ⊎ (reach words root 3 (prefix_of page 3) ≡ None) → Alike words root page other
    go (inr one) _ _ =
        let two = none_more words root page 1 (omega arith) one in
        let three = none_more words root page 2 (omega arith) two in
        let c = missing_one words root page in
        let x = missing_here words root page 1 one in
        let y = missing_here words root page 2 two in
        let z = missing_here words root page 3 three in
        let n : missing ≡ 3 = omega arith in
        let size : block ≡ 2 ^ 27 = b ∙ ap (λ k. 2 ^ (9 * k)) n in
        let near : other < page - page % 2 ^ 27 + 2 ^ 27 = rw size at hi in
        let same : prefix_of other 1 ≡ prefix_of page 1 = omega (arith, lo, near) in
        stops (none_more words root other 1 (omega arith) (ap (reach words root 1) same ∙ one))
    go (inl one) (inr two) _ =
        let three = none_more words root page 2 (omega arith) two in
        let c = missing_one words root page in
        let x = present_here words root page 1 one.0 one.1 in
        let y = missing_here words root page 2 two in
        let z = missing_here words root page 3 three in
        let n : missing ≡ 2 = omega arith in
        let size : block ≡ 2 ^ 18 = b ∙ ap (λ k. 2 ^ (9 * k)) n in
        let near : other < page - page % 2 ^ 18 + 2 ^ 18 = rw size at hi in
        let same : prefix_of other 2 ≡ prefix_of page 2 = omega (arith, lo, near) in
        stops (ap (reach words root 2) same ∙ two)
    go (inl one) (inl two) (inr three) =
        let c = missing_one words root page in
        let x = present_here words root page 1 one.0 one.1 in
        let y = present_here words root page 2 two.0 two.1 in
        let z = missing_here words root page 3 three in
        let n : missing ≡ 1 = omega arith in
        let size : block ≡ 2 ^ 9 = b ∙ ap (λ k. 2 ^ (9 * k)) n in
        let near : other < page - page % 2 ^ 9 + 2 ^ 9 = rw size at hi in
        let same : prefix_of other 3 ≡ prefix_of page 3 = omega (arith, lo, near) in
        let up : prefix_of other 4 / 512 ≡ prefix_of page 3 = omega (arith, lo, near) in (
          λ none.
              let small = small_page words root page (sym (walk_reach words root page) ∙ none) in
              walk_reach words root other ∙ reach_none words root (prefix_of other 4) (rw up three) (rw up small),
          λ none. ap (reach words root 3) same ∙ none,
        )
    go (inl one) (inl two) (inl three) =
        let c = missing_one words root page in
        let x = present_here words root page 1 one.0 one.1 in
        let y = present_here words root page 2 two.0 two.1 in
        let z = present_here words root page 3 three.0 three.1 in
        let n : missing ≡ 0 = omega arith in
        let size : block ≡ 1 = b ∙ ap (λ k. 2 ^ (9 * k)) n in
        let near : other < page - page % 1 + 1 = rw size at hi in
        let same : other ≡ page = omega (arith, lo, near) in
        (λ none. ap (walk_of words root) same ∙ none, λ none. ap (λ n. reach words root 3 (prefix_of n 3)) same ∙ none)

-- if the last table is missing, the run ends with a slot
pub alike_end : (words : List ℕ) (root page missing block : ℕ) → missing_of words root page 1 ≡ missing → block ≡ 2 ^ (9 * missing) →
    reach words root 3 (prefix_of page 3) ≡ None → (page - page % block + block) % 512 ≡ 0
alike_end words root page missing block m b three =
    go (some_or_none (reach words root 1 (prefix_of page 1))) (some_or_none (reach words root 2 (prefix_of page 2)))
  where
    go : ((x : Place) × (reach words root 1 (prefix_of page 1) ≡ Some x)) ⊎ (reach words root 1 (prefix_of page 1) ≡ None) →
        ((x : Place) × (reach words root 2 (prefix_of page 2) ≡ Some x)) ⊎ (reach words root 2 (prefix_of page 2) ≡ None) →
        (page - page % block + block) % 512 ≡ 0
    go (inr one) _ =
        let two = none_more words root page 1 (omega arith) one in
        let c = missing_one words root page in
        let x = missing_here words root page 1 one in
        let y = missing_here words root page 2 two in
        let z = missing_here words root page 3 three in
        let n : missing ≡ 3 = omega arith in
        let size : block ≡ 2 ^ 27 = b ∙ ap (λ k. 2 ^ (9 * k)) n in
        rw size (let h : (page - page % 2 ^ 27 + 2 ^ 27) % 512 ≡ 0 = omega arith in h)
    go (inl one) (inr two) =
        let c = missing_one words root page in
        let x = present_here words root page 1 one.0 one.1 in
        let y = missing_here words root page 2 two in
        let z = missing_here words root page 3 three in
        let n : missing ≡ 2 = omega arith in
        let size : block ≡ 2 ^ 18 = b ∙ ap (λ k. 2 ^ (9 * k)) n in
        rw size (let h : (page - page % 2 ^ 18 + 2 ^ 18) % 512 ≡ 0 = omega arith in h)
    go (inl one) (inl two) =
        let c = missing_one words root page in
        let x = present_here words root page 1 one.0 one.1 in
        let y = present_here words root page 2 two.0 two.1 in
        let z = missing_here words root page 3 three in
        let n : missing ≡ 1 = omega arith in
        let size : block ≡ 2 ^ 9 = b ∙ ap (λ k. 2 ^ (9 * k)) n in
        rw size (let h : (page - page % 2 ^ 9 + 2 ^ 9) % 512 ≡ 0 = omega arith in h)
