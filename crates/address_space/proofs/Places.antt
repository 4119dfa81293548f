-- Pages that were passed in the search for a place.
use Rattle.std.proofs.Common.{◌≡◌, ◌∙◌, sym, ℕ, ◌+◌, ◌<◌, ◌≤◌, Some, None, List, arith, ◌⊎◌, inl, inr}
use Rattle.std.proofs.lemmas.Bool.{cases_lt}
use Rattle.meminterval.specs.declared.interval.Interval.{Interval}
use Rattle.paging_core.specs.declared.page_table.Rights.{Rights}
use Rattle.address_space.specs.Runs.{rights_in}
use Rattle.address_space.specs.PageMap.{IsPagePlace, HasNoPagePlace}
use Rattle.address_space.proofs.Splits.{IsLast}
use Rattle.address_space.proofs.Clear.{AreClear, last_holds}

-- no page from `base` on and below `at` begins `pages` clear pages
pub record Passed (es : List (Interval ℕ × Rights)) (base pages at : ℕ) : Type 0 where
  pub from : base ≤ at
  pub met : (page : ℕ) → base ≤ page → page < at → AreClear es page (page + pages) → ⊥

pub none_passed : (es : List (Interval ℕ × Rights)) (base pages : ℕ) → Passed es base pages base
none_passed es base pages = record { from = omega arith; met = λ page h k clear. absurd (omega (arith, h, k)) }

-- on to the end of the last run that begins before the end of the pages
pub passed_on : (es : List (Interval ℕ × Rights)) (base pages at to : ℕ) (e : Interval ℕ × Rights) → 0 < pages →
    Passed es base pages at → IsLast (at + pages) 0 es to e → at < e.0.end → Passed es base pages e.0.end
passed_on es base pages at to e some p i over = record {
  from = (let f = p.from in omega (arith, f, over));
  met = λ page h k clear. by_page page h k clear (cases_lt page at) (cases_lt page e.0.start);
} where
  no_page : (page any : ℕ) → AreClear es page (page + pages) → page ≤ any → any < page + pages → e.0.start ≤ any → any < e.0.end → ⊥
  no_page page any clear a b c d = let no : None ≡ Some e.1 = sym (clear any a b) ∙ last_holds (at + pages) es to e any i c d in absurd (cc)

  by_page : (page : ℕ) → base ≤ page → page < e.0.end → AreClear es page (page + pages) → (page < at) ⊎ (at ≤ page) →
      (page < e.0.start) ⊎ (e.0.start ≤ page) → ⊥
  by_page page h k clear (inl before) side = p.met page h before clear
  by_page page h k clear (inr behind) (inl first) = (let s = i.starts in let t = i.some in
      no_page page e.0.start clear (omega (arith, first)) (omega (arith, s, behind)) (omega arith) t)
  by_page page h k clear (inr behind) (inr inside) = (let s = i.starts in no_page page page clear (omega arith) (omega (arith, s, behind, inside)) inside k)

pub is_place : (es : List (Interval ℕ × Rights)) (base end pages at : ℕ) → Passed es base pages at → at + pages ≤ end →
    AreClear es at (at + pages) → IsPagePlace (rights_in es) base end pages at
is_place es base end pages at p within clear = record {
  fit = record { from = p.from; within = within; clear = clear };
  least = λ other lower fit. p.met other fit.from lower fit.clear;
}

pub no_place : (es : List (Interval ℕ × Rights)) (base end pages at : ℕ) → Passed es base pages at → end < at + pages →
    HasNoPagePlace (rights_in es) base end pages
no_place es base end pages at p over page fit = by_page (cases_lt page at) where
  by_page : (page < at) ⊎ (at ≤ page) → ⊥
  by_page (inl before) = p.met page fit.from before fit.clear
  by_page (inr behind) = (let w = fit.within in omega (arith, over, behind, w))
