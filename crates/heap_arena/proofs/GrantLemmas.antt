-- Grants of a table, as it changes.
use Rattle.std.specs.Prelude.{◌≡◌, ◌≢◌, ℕ, zero, suc, ◌+◌, ◌-◌, ◌<◌, ◌≤◌, ◌⊎◌, Bool, true, false, ◌==◌, ◌&&◌, not, nat_le, nat_lt, if◌then◌else◌, List, [], ◌∷◌, ◌++◌, IsTrue, map, cond}
use Rattle.std.specs.List.{AllByRecursion, filter, list_all}
use Rattle.std.proofs.Common.{◌∙◌, ap, sym, subst, refl, inl, inr, arith}
use Rattle.std.proofs.lemmas.Bool.Decides.{nat_tests}
use Rattle.std.proofs.lemmas.List.Folds.{list_all-append}
use Rattle.heap_memory.specs.declared.grant.Grant.{Grant}
use Rattle.heap_memory.specs.Regions.{is_granted, is_whole, are_whole, are_ordered, with_grant, IsApart}
use Rattle.heap_memory.specs.Runs.{begins_in, up_to, without_run, IsRun}
use Rattle.heap_memory.specs.RegionLaws.{ordered_with, whole_with}
use Rattle.heap_arena.specs.Arena.{top_without}
use Rattle.heap_arena.specs.Grants.{grant_at, grants, are_between, lies_before}

-- grants that stand at the same places are the same
pub grants_same : (old new : List ℕ) (count : ℕ) → ((k : ℕ) → k < count → grant_at new k ≡ grant_at old k) → grants new count ≡ grants old count
unfolding grants
grants_same old new zero same = refl
grants_same old new (suc count) same =
    ap (λ (rs : List Grant). rs ++ grant_at new count ∷ []) (grants_same old new count (λ k less. same k (omega arith)))
    ∙ ap (λ (g : Grant). grants old count ++ g ∷ []) (same count (omega arith))

-- a further one stands after them
grants_suc : (words : List ℕ) (count : ℕ) → grants words (suc count) ≡ grants words count ++ grant_at words count ∷ []
unfolding grants
grants_suc words count = refl

pub grants_more : (words : List ℕ) (count : ℕ) → grants words (count + 1) ≡ grants words count ++ grant_at words count ∷ []
grants_more words count = let next : count + 1 ≡ suc count = omega arith in ap (grants words) next ∙ grants_suc words count

pub grants_none : (words : List ℕ) → grants words 0 ≡ []
unfolding grants
grants_none words = refl

-- what is given back of grants and a further one
pub without_more : (low high : ℕ) (regions : List Grant) (last : Grant) →
    without_run low high (regions ++ last ∷ []) ≡ (if begins_in low high last then without_run low high regions
    else without_run low high regions ++ up_to low last ∷ [])
without_more low high [] last = go (begins_in low high last)
  where
    go : (b : Bool) → map (λ region. up_to low region) (cond (not b) (last ∷ []) []) ≡ (if b then [] else up_to low last ∷ [])
    go true = refl
    go false = refl
without_more low high (region ∷ regions) last = go (begins_in low high region) (begins_in low high last) (without_more low high regions last)
  where
    go : (b c : Bool) → map (λ r. up_to low r) (filter (λ r. not (begins_in low high r)) (regions ++ last ∷ [])) ≡ (if c
        then without_run low high regions else without_run low high regions ++ up_to low last ∷ []) →
        map (λ r. up_to low r) (cond (not b) (region ∷ filter (λ r. not (begins_in low high r)) (regions ++ last ∷ []))
        (filter (λ r. not (begins_in low high r)) (regions ++ last ∷ [])))
        ≡ (if c then map (λ r. up_to low r) (cond (not b) (region ∷ filter (λ r. not (begins_in low high r)) regions)
        (filter (λ r. not (begins_in low high r)) regions))
        else map (λ r. up_to low r) (cond (not b) (region ∷ filter (λ r. not (begins_in low high r)) regions)
        (filter (λ r. not (begins_in low high r)) regions)) ++ up_to low last ∷ [])
    go true true rest = rest
    go true false rest = rest
    go false true rest = ap (λ (rs : List Grant). up_to low region ∷ rs) rest
    go false false rest = ap (λ (rs : List Grant). up_to low region ∷ rs) rest

-- a grant more of a table was looked at, and it stays, or is given back
pub kept_more : (low high : ℕ) (initial old new : List ℕ) (i kept : ℕ) → grants old kept ≡ without_run low high (grants initial i) →
    ((k : ℕ) → k ≢ kept → grant_at new k ≡ grant_at old k) → grant_at new kept ≡ up_to low (grant_at initial i) →
    begins_in low high (grant_at initial i) ≡ false →
    grants new (kept + 1) ≡ without_run low high (grants initial (i + 1))
kept_more low high initial old new i kept before others here stays =
    let front : grants new kept ≡ without_run low high (grants initial i) =
    grants_same old new kept (λ k less. others k (λ same. omega (arith, less, same))) ∙ before in
    let last : without_run low high (grants initial (i + 1)) ≡ without_run low high (grants initial i) ++ up_to low (grant_at initial i) ∷ [] =
    ap (without_run low high) (grants_more initial i) ∙ (without_more low high (grants initial i) (grant_at initial i)
    ∙ ap (λ (b : Bool). if b then without_run low high (grants initial i) else without_run low high
    (grants initial i) ++ up_to low (grant_at initial i) ∷ []) stays) in
    grants_more new kept ∙ (ap (λ (rs : List Grant). rs ++ grant_at new kept ∷ []) front
    ∙ (ap (λ (g : Grant). without_run low high (grants initial i) ++ g ∷ []) here ∙ sym last))

pub left_more : (low high : ℕ) (initial : List ℕ) (i : ℕ) → begins_in low high (grant_at initial i) ≡ true →
    without_run low high (grants initial (i + 1)) ≡ without_run low high (grants initial i)
left_more low high initial i leaves =
    ap (without_run low high) (grants_more initial i) ∙ (without_more low high (grants initial i) (grant_at initial i)
    ∙ ap (λ (b : Bool). if b then without_run low high (grants initial i) else without_run low high
    (grants initial i) ++ up_to low (grant_at initial i) ∷ []) leaves)

-- ---- grants before a place

-- a grant that begins before the bytes that are given back stays, and whole if it ends before them
begins_before : (low high : ℕ) (grant : Grant) → grant.base < low → begins_in low high grant ≡ false
begins_before low high grant less = grind (arith, nat_tests)

ends_before : (low : ℕ) (grant : Grant) → grant.base + grant.size ≤ low → up_to low grant ≡ grant
ends_before low grant le =
    let test : (nat_lt grant.base low && nat_lt low (grant.base + grant.size)) ≡ false = grind (arith, nat_tests) in
    ap (λ (b : Bool). if b then record grant { size = low - grant.base } else grant) test

-- grants that all end before a place stay as they are
stay_before : (low high bound : ℕ) (regions : List Grant) → bound < low →
    IsTrue (list_all (λ region. nat_le (region.base + region.size) bound) regions) → without_run low high regions ≡ regions
stay_before low high bound [] less all = refl
stay_before low high bound (region ∷ regions) less all =
    let here : region.base + region.size ≤ bound = grind (arith, nat_tests) in
    let rest : IsTrue (list_all (λ region. nat_le (region.base + region.size) bound) regions) = grind (arith, nat_tests) in
    ap (λ (b : Bool). map (λ r. up_to low r) (cond (not b) (region ∷ filter (λ r. not (begins_in low high r)) regions)
    (filter (λ r. not (begins_in low high r)) regions))) (begins_before low high region (omega arith))
    ∙ (ap (λ (g : Grant). g ∷ without_run low high regions) (ends_before low region (omega arith))
    ∙ ap (λ (rs : List Grant). region ∷ rs) (stay_before low high bound regions less rest))

-- of grants in order, all but the last end before it begins
ordered_last : (regions : List Grant) (last : Grant) → IsTrue (are_ordered (regions ++ last ∷ [])) →
    IsTrue (list_all (λ region. nat_le (region.base + region.size) last.base) regions) × IsTrue (are_ordered regions)
ordered_last [] last ordered = (refl, refl)
ordered_last (region ∷ regions) last ordered =
    let later : IsTrue (list_all (λ later. nat_le (region.base + region.size) later.base) (regions ++ last ∷ [])) = grind (arith, nat_tests) in
    let rest : IsTrue (are_ordered (regions ++ last ∷ [])) = grind (arith, nat_tests) in
    let both : IsTrue (list_all (λ later. nat_le (region.base + region.size) later.base) regions
    && (nat_le (region.base + region.size) last.base && true)) =
    sym (list_all-append (λ later. nat_le (region.base + region.size) later.base) regions (last ∷ [])) ∙ later in
    let inner = ordered_last regions last rest in
    let first = inner.0 in
    let second = inner.1 in
    (grind (arith, nat_tests), grind (arith, nat_tests))

-- the first of them are in order
front_ordered : (words : List ℕ) (count few : ℕ) → few ≤ count → IsTrue (are_ordered (grants words count)) → IsTrue (are_ordered (grants words few))
front_ordered words zero few le ordered =
    let none : few ≡ zero = omega arith in
    subst (λ n. IsTrue (are_ordered (grants words n))) (sym none) ordered
front_ordered words (suc count) few le ordered =
    go (nat_le few count) refl (λ less. front_ordered words count few less
    (ordered_last (grants words count) (grant_at words count) (subst (λ rs. IsTrue (are_ordered rs)) (grants_suc words count) ordered)).1)
  where
    go : (b : Bool) → nat_le few count ≡ b → (few ≤ count → IsTrue (are_ordered (grants words few))) → IsTrue (are_ordered (grants words few))
    go true is fewer = fewer (grind (arith, nat_tests))
    go false is fewer =
        let all : few ≡ suc count = grind (arith, nat_tests) in
        subst (λ n. IsTrue (are_ordered (grants words n))) (sym all) ordered

-- the first grants stay as they are, if the last of them lies before the place
pub kept_front : (low high : ℕ) (words : List ℕ) (count first : ℕ) → first ≤ count → IsTrue (are_ordered (grants words count)) →
    (0 < first → lies_before low (grant_at words (first - 1)) ≡ true) → without_run low high (grants words first) ≡ grants words first
kept_front low high words count zero le ordered ends = ap (without_run low high) (grants_none words) ∙ sym (grants_none words)
kept_front low high words count (suc first) le ordered ends =
    let at : suc first - 1 ≡ first = omega arith in
    let before : lies_before low (grant_at words first) ≡ true =
    subst (λ n. lies_before low (grant_at words n) ≡ true) at (ends (omega arith)) in
    let begins : (grant_at words first).base < low = grind (arith, nat_tests) in
    let ends_at : (grant_at words first).base + (grant_at words first).size ≤ low = grind (arith, nat_tests) in
    let o = ordered_last (grants words first) (grant_at words first)
    (subst (λ rs. IsTrue (are_ordered rs)) (grants_suc words first) (front_ordered words count (suc first) le ordered)) in
    ap (without_run low high) (grants_suc words first)
    ∙ (without_more low high (grants words first) (grant_at words first)
    ∙ (ap (λ (b : Bool). if b then without_run low high (grants words first) else without_run low high (grants words first)
    ++ up_to low (grant_at words first) ∷ []) (begins_before low high (grant_at words first) begins)
    ∙ (ap (λ (rs : List Grant). rs ++ up_to low (grant_at words first) ∷ [])
    (stay_before low high (grant_at words first).base (grants words first) begins o.0)
    ∙ (ap (λ (g : Grant). grants words first ++ g ∷ []) (ends_before low (grant_at words first) ends_at) ∙ sym (grants_suc words first)))))

-- ---- grants between two addresses

-- a granted byte is between the addresses between which the grants are
pub granted_between : (low high : ℕ) (regions : List Grant) (at : ℕ) → IsTrue (are_between low high regions) →
    IsTrue (is_granted regions at) → (low ≤ at) × (at < high)
granted_between low high [] at between granted = cc
granted_between low high (region ∷ regions) at between granted = grind (arith, nat_tests, granted_between low high regions at)

-- a grant after all others is the last
pub with_last : (low top : ℕ) (grant : Grant) (regions : List Grant) → top ≤ grant.base →
    IsTrue (are_between low top regions) → with_grant grant regions ≡ regions ++ grant ∷ []
with_last low top grant [] behind between = refl
with_last low top grant (region ∷ regions) behind between = grind (arith, nat_tests, with_last low top grant regions)

-- it is apart from them
pub apart_between : (low top from to : ℕ) (regions : List Grant) → top ≤ from → IsTrue (are_between low top regions) → AllByRecursion (IsApart from to) regions
apart_between low top from to [] behind between = tt
apart_between low top from to (region ∷ regions) behind between = (
  inl (grind (arith, nat_tests)),
  apart_between low top from to regions behind (grind (arith, nat_tests)),
)

pub between_more : (low top end : ℕ) (regions : List Grant) (grant : Grant) → IsTrue (are_between low top regions) →
    low ≤ grant.base → top ≤ end → grant.base + grant.size ≤ end → IsTrue (are_between low end (regions ++ grant ∷ []))
between_more low top end [] grant between begins more ends = grind (arith, nat_tests)
between_more low top end (region ∷ regions) grant between begins more ends = grind (arith, nat_tests, between_more low top end regions grant)

pub ordered_more : (low top : ℕ) (grant : Grant) (regions : List Grant) → top ≤ grant.base → 0 < grant.size →
    IsTrue (are_between low top regions) → IsTrue (are_ordered regions) → IsTrue (are_ordered (regions ++ grant ∷ []))
ordered_more low top grant regions behind some between ordered =
    subst (λ (rs : List Grant). IsTrue (are_ordered rs)) (with_last low top grant regions behind between)
    (ordered_with grant regions some (apart_between low top grant.base (grant.base + grant.size) regions behind between) ordered)

pub whole_more : (low top : ℕ) (grant : Grant) (regions : List Grant) → top ≤ grant.base →
    IsTrue (are_between low top regions) → IsTrue (is_whole grant) → IsTrue (are_whole regions) →
    IsTrue (are_whole (regions ++ grant ∷ []))
whole_more low top grant regions behind between here whole =
    subst (λ (rs : List Grant). IsTrue (are_whole rs)) (with_last low top grant regions behind between) (whole_with grant regions here whole)

-- a run begins at the grants' first address at least
pub run_within : (base top low high : ℕ) (regions : List Grant) → IsTrue (are_between base top regions) → IsRun regions low high → base ≤ low
run_within base top low high regions between run = (granted_between base top regions low between (run.granted low (omega arith) run.some)).0

-- what is given back up to the end leaves grants up to where it begins, and else up to the same address
pub between_without : (base top low high end : ℕ) (regions : List Grant) → IsTrue (are_whole regions) →
    IsTrue (are_between base top regions) → ((low ≤ end) × (top ≤ high)) ⊎ (end ≡ top) →
    IsTrue (are_between base end (without_run low high regions))
between_without base top low high end [] whole between how = refl
between_without base top low high end (region ∷ regions) whole between (inl reaches) = grind (arith, nat_tests, between_without base top low high end regions)
between_without base top low high end (region ∷ regions) whole between (inr same) = grind (arith, nat_tests, between_without base top low high end regions)

-- what is given back of a run, which ends below the top or there
pub top_of_run : (base top low high : ℕ) → base ≤ low → low ≤ high → high ≤ top → top_without base low high top ≡ (if high == top then low else top)
top_of_run base top low high within some ends = grind (arith, nat_tests)

pub run_below : (base top low high : ℕ) (regions : List Grant) → IsTrue (are_between base top regions) → IsRun regions low high → high ≤ top
run_below base top low high regions between run = let last = (granted_between base top regions (high - 1) between
    (run.granted (high - 1) (let some = run.some in omega (arith, some)) (let some = run.some in omega (arith, some)))).1 in
    omega (arith, last)

-- there is a grant if there are some
pub grants_some : (words : List ℕ) (count : ℕ) → 0 < count → grants words count ≢ []
grants_some words zero some = absurd (omega (arith, some))
grants_some words (suc count) some = λ none. no (grants words count) (grant_at words count) (sym (grants_suc words count) ∙ none)
  where
    no : (gs : List Grant) (g : Grant) → gs ++ g ∷ [] ≡ [] → ⊥
    no [] g is = cc
    no (x ∷ gs) g is = cc
