-- Steps of a script, the bytes that they give, and grants apart from them.
use Rattle.std.proofs.Common.{◌≡◌, ℕ, suc, ◌+◌, ◌<◌, ◌≤◌, Bool, true, false, not, List, [], ◌∷◌, ◌++◌, IsTrue, length, take, drop, refl, ap, subst, sym, ◌∙◌, inl, inr, arith}
use Rattle.std.proofs.lemmas.Bool.{cases_lt}
use Rattle.std.proofs.lemmas.Bool.Decides.{nat_tests}
use Rattle.std.proofs.lemmas.List.{drop_more, take_more, drop-drop}
use Rattle.std.proofs.lemmas.List.Folds.{list_any-append}
use Rattle.std.proofs.lemmas.List.Sums.{prefix_len-le-length}
use Rattle.std.specs.Prelude.{nat_lt, if◌then◌else◌, position, unwrap_or, Option, Ok, Err}
use Rattle.std.specs.List.{AllByRecursion, list_any, list_all, insert, position_or_len}
use Rattle.heap_memory.specs.declared.grant.Grant.{Grant}
use Rattle.heap_memory.specs.declared.grant.GrantFault.TheVariants.{NoSpace}
use Rattle.heap_memory.specs.declared.flat_script.FlatStep.{FlatStep}
use Rattle.heap_memory.specs.declared.flat_script.FlatStep.TheVariants.{Give, Refuse}
use Rattle.heap_memory.specs.Regions.{is_granted, with_grant, IsApart, is_whole}
use Rattle.heap_memory.specs.RegionLaws.{granted_split}
use Rattle.heap_memory.specs.Runs.{without_run}
use Rattle.heap_memory.specs.FlatScript.{gives, overlaps, is_given, next_answer, is_promised}

-- a byte of a grant that no step overlaps is given by none
pub not_given : (grant : Grant) (steps : List FlatStep) (at : ℕ) → list_any (λ step. overlaps grant step) steps ≡ false →
    grant.base ≤ at → at < grant.base + grant.size → list_any (λ step. gives at step) steps ≡ false
not_given grant [] at clear low high = refl
not_given grant (Give base size flags ∷ steps) at clear low high = grind (arith, nat_tests, not_given grant steps at)
not_given grant (Refuse fault ∷ steps) at clear low high = not_given grant steps at clear low high

-- a region whose bytes are given is apart from a grant that no step overlaps
region_apart : (grant region : Grant) (steps : List FlatStep) → 0 < grant.size → 0 < region.size → list_any (λ step. overlaps grant step) steps ≡ false →
    ((at : ℕ) → region.base ≤ at → at < region.base + region.size → IsTrue (list_any (λ step. gives at step) steps)) →
    IsApart grant.base (grant.base + grant.size) region
region_apart grant region steps some some' clear given = elim (cases_lt grant.base (region.base + region.size)) [
  | inr below ↦ inl below
  | inl more ↦ elim (cases_lt region.base (grant.base + grant.size)) [
    | inr above ↦ inr above
    | inl less ↦ elim (cases_lt region.base grant.base) [
      | inr low ↦ (let no = not_given grant steps region.base clear low less in let yes = given region.base (omega arith) (omega arith) in cc)
      | inl high ↦ (let no = not_given grant steps grant.base clear (omega arith) (omega arith) in let yes = given grant.base (omega arith) more in cc)
    ]
  ]
]

pub regions_apart : (grant : Grant) (regions : List Grant) (steps : List FlatStep) → 0 < grant.size → IsTrue (list_all (λ region. nat_lt 0 region.size) regions) →
    list_any (λ step. overlaps grant step) steps ≡ false →
    ((at : ℕ) → IsTrue (is_granted regions at) → IsTrue (list_any (λ step. gives at step) steps)) →
    AllByRecursion (IsApart grant.base (grant.base + grant.size)) regions
regions_apart grant [] steps some all clear given = tt
regions_apart grant (region ∷ regions) steps some all clear given = (
  region_apart grant region steps some (grind (arith, nat_tests)) clear (λ at low high. given at (grind (arith, nat_tests))),
  regions_apart grant regions steps some (grind (arith, nat_tests)) clear (λ at granted. given at (grind (arith, nat_tests))),
)

pub some_with : (grant : Grant) (regions : List Grant) → 0 < grant.size → IsTrue (list_all (λ region. nat_lt 0 region.size) regions) →
    IsTrue (list_all (λ region. nat_lt 0 region.size) (with_grant grant regions))
some_with grant [] some all = grind (arith, nat_tests)
some_with grant (region ∷ regions) some all = grind (arith, nat_tests, some_with grant regions some)

pub some_without : (low high : ℕ) (regions : List Grant) → IsTrue (list_all (λ region. nat_lt 0 region.size) regions) →
    IsTrue (list_all (λ region. nat_lt 0 region.size) (without_run low high regions))
some_without low high [] all = refl
some_without low high (region ∷ regions) all = grind (arith, nat_tests, some_without low high regions)

-- a further grant stands before the first region with a greater base
inserted : (grant : Grant) (regions : List Grant) → insert regions (position_or_len (λ region. nat_lt grant.base region.base) regions) grant ≡ with_grant grant regions
inserted grant [] = refl
inserted grant (region ∷ regions) =
    let place = position_or_len (λ (r : Grant). nat_lt grant.base r.base) regions in
    let next : 1 + place ≡ suc place = omega arith in
    elim (nat_lt grant.base region.base) as (λ b. insert (region ∷ regions) (if not b then 1 + place else 0) grant ≡ (if b then grant ∷ region ∷ regions else region ∷ with_grant grant regions)) [
      | true ↦ refl
      | false ↦ ap (λ m. insert (region ∷ regions) m grant) next ∙ ap (λ (rs : List Grant). region ∷ rs) (inserted grant regions)
    ]

pub inserted_at : (grant : Grant) (regions : List Grant) →
    insert regions (unwrap_or (position (λ region. nat_lt grant.base region.base) regions) (length regions)) grant ≡ with_grant grant regions
inserted_at grant regions =
    let place = position_or_len (λ (region : Grant). nat_lt grant.base region.base) regions in
    let least : place ≤ length regions = prefix_len-le-length (λ (region : Grant). not (nat_lt grant.base region.base)) regions in
    let is : unwrap_or (position (λ region. nat_lt grant.base region.base) regions) (length regions) ≡ place = grind (arith, nat_tests) in
    ap (λ n. insert regions n grant) is ∙ inserted grant regions

pub inserted_by : (grant : Grant) (regions : List Grant) (found : Option ℕ) (len place : ℕ) → found ≡ position (λ region. nat_lt grant.base region.base) regions →
    len ≡ length regions → place ≡ unwrap_or found len → insert regions place grant ≡ with_grant grant regions
inserted_by grant regions found len place found_is len_is place_is =
    let is : place ≡ unwrap_or (position (λ region. nat_lt grant.base region.base) regions) (length regions) = rw (← found_is, ← len_is) place_is in
    ap (λ n. insert regions n grant) is ∙ inserted_at grant regions

-- the next step of a script
pub taken_more : (steps : List FlatStep) (count : ℕ) (d : FlatStep) → count < length steps → take (count + 1) steps ≡ take count steps ++ take 1 (drop count steps)
taken_more steps count d less =
    take_more steps count d less ∙ ap (λ (rest : List FlatStep). take count steps ++ take 1 rest) (sym (drop_more steps count d less))

pub left_more : (steps : List FlatStep) (count : ℕ) → drop (count + 1) steps ≡ drop 1 (drop count steps)
left_more steps count = sym (drop-drop 1 count steps)

-- one step on, nothing more is promised, and nothing less was given
promised_before : (before left : List FlatStep) (at : ℕ) → IsTrue (is_promised (before ++ take 1 left) (drop 1 left) at) → IsTrue (is_promised before left at)
promised_before before [] at promised = cc
promised_before before (step ∷ left) at promised = grind (arith, nat_tests)

pub promised_next : (before left taken rest : List FlatStep) (at : ℕ) → taken ≡ before ++ take 1 left → rest ≡ drop 1 left →
    IsTrue (is_promised taken rest at) → IsTrue (is_promised before left at)
promised_next before left taken rest at taken_is rest_is promised =
    let here : IsTrue (is_promised (before ++ take 1 left) (drop 1 left) at) = rw (← taken_is, ← rest_is) promised in
    promised_before before left at here

pub given_next : (before left taken : List FlatStep) (at : ℕ) → taken ≡ before ++ take 1 left → IsTrue (list_any (λ step. gives at step) before) →
    IsTrue (list_any (λ step. gives at step) taken)
given_next before left taken at is given = rw is (grind (arith, nat_tests, list_any-append (λ step. gives at step) before (take 1 left)))

pub not_given_next : (before left taken : List FlatStep) (at : ℕ) → taken ≡ before ++ take 1 left → list_any (λ step. gives at step) taken ≡ false →
    list_any (λ step. gives at step) before ≡ false
not_given_next before left taken at is none =
    let here : list_any (λ step. gives at step) (before ++ take 1 left) ≡ false = rw (← is) none in
    grind (arith, nat_tests, list_any-append (λ step. gives at step) before (take 1 left))

-- what an answer that grants says
pub record IsServed (before : List FlatStep) (left : List FlatStep) (asked : ℕ) (grant : Grant) : Type 0 where
  pub long : asked ≤ grant.size
  pub clear : list_any (λ step. overlaps grant step) before ≡ false
  pub whole : 0 < asked → IsTrue (is_whole grant)
  pub promised : (at : ℕ) → grant.base ≤ at → at < grant.base + grant.size → IsTrue (is_promised before left at)
  pub gives : (at : ℕ) → grant.base ≤ at → at < grant.base + grant.size → IsTrue (list_any (λ step. gives at step) (before ++ take 1 left))
  pub step : length left ≡ length (drop 1 left) + 1

granted_only : (b : Bool) (give grant : Grant) → (if b then Ok give else Err NoSpace) ≡ Ok grant → (b ≡ true) × (give ≡ grant)
granted_only true give grant is = (refl, cc)
granted_only false give grant is = absurd cc

pub served : (before left : List FlatStep) (asked : ℕ) (grant : Grant) →
    next_answer before left asked ≡ Ok grant → IsServed before left asked grant
served before [] asked grant is = cc
served before (Refuse fault ∷ left) asked grant is = cc
served before (Give base size flags ∷ left) asked grant is =
    let give : Grant = record { base = base; size = size; flags = flags } in
    let both = granted_only (is_given before asked give) give grant is in
    let yes = both.0 in
    subst (λ (g : Grant). IsServed before (Give base size flags ∷ left) asked g) both.1 (record {
      long = grind (arith, nat_tests);
      clear = grind (arith, nat_tests);
      whole = λ some. grind (arith, nat_tests);
      promised = λ at low high. grind (arith, nat_tests);
      gives = λ at low high. grind (arith, nat_tests, list_any-append (λ step. gives at step) before (Give base size flags ∷ []));
      step = omega arith;
    })

-- what holds of the granted bytes and of those of a grant holds with it
pub granted_all : (test : ℕ → Bool) (grant : Grant) (regions : List Grant) →
    ((at : ℕ) → IsTrue (is_granted regions at) → IsTrue (test at)) → ((at : ℕ) → grant.base ≤ at → at < grant.base + grant.size → IsTrue (test at)) →
    (at : ℕ) → IsTrue (is_granted (with_grant grant regions) at) → IsTrue (test at)
granted_all test grant regions old fresh at granted = elim (granted_split grant regions at granted) [ inl (low, high) ↦ fresh at low high | inr was ↦ old at was ]
