-- The function finds the place for pages, and nothing if they have none.
use Rattle.std.proofs.Common.{◌≡◌, ℕ, zero, suc, ◌+◌, ◌-◌, ◌*◌, ◌/◌, ◌%◌, ◌<◌, ◌≤◌, List, Bool, true, false, Some, None, IsTrue, IsFalse, if◌then◌else◌, refl, sym, subst, arith}
use Rattle.machine_model.specs.declared.region.Region.{Region}
use Rattle.machine_model.specs.Place.{meets_any, IsFit, IsPlace, HasNoPlace, first_fit, place}

-- what is found is one of the pages that are tried, and from each page before it the pages meet a region
record IsFirst (regions : List Region) (pages from tries found : ℕ) : Type 0 where
  pub step : ℕ
  pub tried : step < tries
  pub is : found ≡ from + 4096 * step
  pub clear : IsFalse (meets_any found pages regions)
  pub met : (k : ℕ) → k < step → IsTrue (meets_any (from + 4096 * k) pages regions)

first_is : (regions : List Region) (pages from tries found : ℕ) → first_fit regions pages from tries ≡ Some found → IsFirst regions pages from tries found
first_is regions pages from zero found is = absurd (cc)
first_is regions pages from (suc tries) found is = go (meets_any from pages regions) refl is (first_is regions pages (from + 4096) tries found)
  where
    go : (b : Bool) → meets_any from pages regions ≡ b → (if b then first_fit regions pages (from + 4096) tries else Some from) ≡ Some found →
        (first_fit regions pages (from + 4096) tries ≡ Some found → IsFirst regions pages (from + 4096) tries found) →
        IsFirst regions pages from (suc tries) found
    go false none is later =
        let here : from ≡ found = cc in
        record {
          step = 0;
          tried = omega arith;
          is = omega arith;
          clear =
              subst (λ (a : ℕ). IsFalse (meets_any a pages regions)) here none;
          met = λ k less. absurd (omega arith);
        }
    go true hit is later =
        let l = later is in
        let step = l.tried in
        let place = l.is in
        record {
          step = suc l.step;
          tried = omega arith;
          is = omega arith;
          clear = l.clear;
          met = λ k less. elim k as (λ (n : ℕ). n < suc l.step → IsTrue (meets_any (from + 4096 * n) pages regions)) [
            | zero ↦ λ less. (let e : from ≡ from + 4096 * 0 = omega arith in subst (λ (a : ℕ). IsTrue (meets_any a pages regions)) e hit)
            | suc n ↦ λ less. (let e : from + 4096 + 4096 * n ≡ from + 4096 * suc n = omega arith in
                subst (λ (a : ℕ). IsTrue (meets_any a pages regions)) e (l.met n (omega arith)))
          ] less;
        }

none_is : (regions : List Region) (pages from tries : ℕ) → first_fit regions pages from tries ≡ None → (k : ℕ) → k < tries →
    IsTrue (meets_any (from + 4096 * k) pages regions)
none_is regions pages from zero is k less = absurd (omega arith)
none_is regions pages from (suc tries) is k less = go (meets_any from pages regions) refl is (none_is regions pages (from + 4096) tries)
  where
    go : (b : Bool) → meets_any from pages regions ≡ b → (if b then first_fit regions pages (from + 4096) tries else Some from) ≡ None →
        (first_fit regions pages (from + 4096) tries ≡ None → (k : ℕ) → k < tries →
        IsTrue (meets_any (from + 4096 + 4096 * k) pages regions)) → IsTrue (meets_any (from + 4096 * k) pages regions)
    go false none is later = absurd (cc)
    go true hit is later = elim k as (λ (n : ℕ). n < suc tries → IsTrue (meets_any (from + 4096 * n) pages regions)) [
      | zero ↦ λ less. (let e : from ≡ from + 4096 * 0 = omega arith in subst (λ (a : ℕ). IsTrue (meets_any a pages regions)) e hit)
      | suc n ↦ λ less. (let e : from + 4096 + 4096 * n ≡ from + 4096 * suc n = omega arith in
          subst (λ (a : ℕ). IsTrue (meets_any a pages regions)) e (later is n (omega arith)))
    ] less

module _ (base window : ℕ) (regions : List Region) (pages : ℕ) (whole : base % 4096 ≡ 0) where
  -- a page from which they fit is one of those that are tried
  step_of : (address : ℕ) → IsFit base window regions pages address → address ≡ base + 4096 * ((address - base) / 4096)
  step_of address fit = let aligned = fit.aligned in let from = fit.from in omega arith

  pub place_is : (address : ℕ) → place base window regions pages ≡ Some address → IsPlace base window regions pages address
  unfolding place
  place_is address is =
      let first = first_is regions pages base (window + 1 - pages) address is in
      let at = first.is in
      let tried = first.tried in
      record {
        fit = record { aligned = omega arith; from = omega arith; within = omega arith; clear = first.clear };
        least = λ other less fit.
            let same = step_of other fit in
            let hit : IsTrue (meets_any other pages regions) = subst (λ (a : ℕ). IsTrue (meets_any a pages regions))
            (sym same) (first.met ((other - base) / 4096) (omega arith)) in
            let clear : meets_any other pages regions ≡ false = fit.clear in
            cc;
      }

  pub place_none : place base window regions pages ≡ None → HasNoPlace base window regions pages
  unfolding place
  place_none is address fit =
      let same = step_of address fit in
      let within : address + 4096 * pages ≤ base + 4096 * window = fit.within in
      let from : base ≤ address = fit.from in
      let hit : IsTrue (meets_any address pages regions) = subst (λ (a : ℕ). IsTrue (meets_any a pages regions)) (sym same)
      (none_is regions pages base (window + 1 - pages) is ((address - base) / 4096) (omega arith)) in
      let clear : meets_any address pages regions ≡ false = fit.clear in
      cc
