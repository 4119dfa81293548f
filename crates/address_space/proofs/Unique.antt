-- Runs that are as long as they can be are determined by the rights of the pages.
use Rattle.std.proofs.Common.{◌≡◌, ◌∙◌, ap, sym, refl, ℕ, ◌+◌, ◌-◌, ◌<◌, ◌≤◌, ◌==◌, ◌&&◌, Bool, true, false, Option, Some, None, List, [], ◌∷◌, ◌++◌, arith, subst, ◌⊎◌, inl, inr}
use Rattle.std.proofs.lemmas.Bool.{cases_lt}
use Rattle.std.proofs.lemmas.Bool.Decides.{nat_tests}
use Rattle.std.specs.Prelude.{nat_lt}
use Rattle.meminterval.specs.declared.interval.Interval.{Interval}
use Rattle.paging_core.specs.declared.page_table.Rights.{Rights}
use Rattle.address_space.specs.Runs.{RunsFollow, AreLongest, rights_in, has_run_at, crosses, holds}
use Rattle.address_space.proofs.Changes.{none_below, begins_mapped, holds_inside}
use Rattle.address_space.proofs.OneRun.{run_of, ends_are}

clash : {A : Type 0} (o : Option A) (a : A) → o ≡ None → o ≡ Some a → ⊥
clash {A} o a h k = let no : None ≡ Some a = sym h ∙ k in absurd (cc)

missed : (page : ℕ) (e : Interval ℕ × Rights) → e.0.end ≤ page → holds page e ≡ false
missed page e h = grind (arith, nat_tests)

-- a page that a run no longer holds is in the runs after it
behind : (page : ℕ) (e : Interval ℕ × Rights) (es : List (Interval ℕ × Rights)) → e.0.end ≤ page → rights_in (e ∷ es) page ≡ rights_in es page
behind page e es h = let t = missed page e h in rw t refl

held : (page : ℕ) (e : Interval ℕ × Rights) (es : List (Interval ℕ × Rights)) → e.0.start ≤ page → page < e.0.end → rights_in (e ∷ es) page ≡ Some e.1
held page e es h k = let t = holds_inside page e h k in rw t refl

begins_later : (page : ℕ) (e : Interval ℕ × Rights) (es : List (Interval ℕ × Rights)) → has_run_at es page ≡ true → has_run_at (e ∷ es) page ≡ true
begins_later page e es h = go (e.0.start == page) refl where
  go : (t : Bool) → (e.0.start == page) ≡ t → has_run_at (e ∷ es) page ≡ true
  go true is = rw is refl
  go false is = rw is h

-- if runs begin at a page or after it, and that page is in one, one begins there
pub mapped_begins : (at : ℕ) (es : List (Interval ℕ × Rights)) (to : ℕ) (r : Rights) → RunsFollow at es to → rights_in es at ≡ Some r → has_run_at es at ≡ true
mapped_begins at [] to r f h = absurd (cc)
mapped_begins at (e ∷ es) to r f h = go (cases_lt at e.0.start) where
  go : (at < e.0.start) ⊎ (e.0.start ≤ at) → has_run_at (e ∷ es) at ≡ true
  go (inl k) = absurd (clash (rights_in (e ∷ es) at) r (none_below e.0.start (e ∷ es) to at (omega arith, f.1, f.2) k) h)
  go (inr k) = let t : (e.0.start == at) ≡ true = grind (arith, nat_tests, k, f.0) in rw t refl

-- ---- two lists with the same pages

longest_tail : (from : ℕ) (e : Interval ℕ × Rights) (es : List (Interval ℕ × Rights)) (to : ℕ) →
    RunsFollow from (e ∷ es) to → AreLongest (e ∷ es) → AreLongest es
longest_tail from e es to f longest page b same = go (cases_lt page e.0.end) where
  go : (page < e.0.end) ⊎ (e.0.end ≤ page) → ⊥
  go (inl k) = begins_mapped e.0.end es to (page + 1) f.2 b (sym same ∙ none_below e.0.end es to page f.2 k)
  go (inr k) = longest page (begins_later (page + 1) e es b) (behind page e es k ∙ (same ∙ sym (behind (page + 1) e es (omega (arith, k)))))

head_below : (from : ℕ) (f : Interval ℕ × Rights) (fs : List (Interval ℕ × Rights)) (to page : ℕ) (r : Rights) →
    RunsFollow from (f ∷ fs) to → rights_in (f ∷ fs) page ≡ Some r → f.0.start ≤ page
head_below from f fs to page r g h = go (cases_lt page f.0.start) where
  go : (page < f.0.start) ⊎ (f.0.start ≤ page) → f.0.start ≤ page
  go (inl k) = absurd (clash (rights_in (f ∷ fs) page) r (none_below f.0.start (f ∷ fs) to page (omega arith, g.1, g.2) k) h)
  go (inr k) = k

-- a run ends no earlier than one with its start and its rights
no_longer : (from : ℕ) (e f : Interval ℕ × Rights) (es fs : List (Interval ℕ × Rights)) (to : ℕ) →
    RunsFollow from (e ∷ es) to →
    AreLongest (e ∷ es) → f.0.start ≤ e.0.start → e.1 ≡ f.1 →
    ((page : ℕ) → rights_in (e ∷ es) page ≡ rights_in (f ∷ fs) page) → f.0.end ≤ e.0.end
no_longer from e f es fs to g longest start rights same = go (cases_lt e.0.end f.0.end) where
  go : (e.0.end < f.0.end) ⊎ (f.0.end ≤ e.0.end) → f.0.end ≤ e.0.end
  go (inr k) = k
  go (inl k) =
      let some = g.1 in
      let last : e.0.end - 1 + 1 ≡ e.0.end = omega (arith, some) in
      let next : rights_in (e ∷ es) e.0.end ≡ Some e.1 = same e.0.end ∙ (held e.0.end f fs (omega (arith, start, some)) k
      ∙ ap (λ (r : Rights). Some r) (sym rights)) in
      let begins : has_run_at es e.0.end ≡ true = mapped_begins e.0.end es to e.1 g.2 (sym (behind e.0.end e es (omega arith)) ∙ next) in
      let here : rights_in (e ∷ es) (e.0.end - 1) ≡ Some e.1 = held (e.0.end - 1) e es (omega (arith, some)) (omega (arith, some)) in
      absurd (longest (e.0.end - 1) (subst (λ (p : ℕ). has_run_at (e ∷ es) p ≡ true) (sym last) (begins_later e.0.end e es begins))
      (here ∙ subst (λ (p : ℕ). Some e.1 ≡ rights_in (e ∷ es) p) (sym last) (sym next)))

pub runs_same : (from : ℕ) (es fs : List (Interval ℕ × Rights)) (to : ℕ) → RunsFollow from es to → AreLongest es →
    RunsFollow from fs to → AreLongest fs → ((page : ℕ) → rights_in es page ≡ rights_in fs page) → es ≡ fs
runs_same from [] [] to g l h m same = refl
runs_same from [] (f ∷ fs) to g l h m same = absurd (clash (rights_in (f ∷ fs) f.0.start) f.1 (sym (same f.0.start)) (held f.0.start f fs (omega arith) h.1))
runs_same from (e ∷ es) [] to g l h m same = absurd (clash (rights_in (e ∷ es) e.0.start) e.1 (same e.0.start) (held e.0.start e es (omega arith) g.1))
runs_same from (e ∷ es) (f ∷ fs) to g l h m same =
    let in_es = held e.0.start e es (omega arith) g.1 in
    let in_fs = held f.0.start f fs (omega arith) h.1 in
    let one = head_below from f fs to e.0.start e.1 h (sym (same e.0.start) ∙ in_es) in
    let two = head_below from e es to f.0.start f.1 g (same f.0.start ∙ in_fs) in
    let start : e.0.start ≡ f.0.start = omega (arith, one, two) in
    let both : Some e.1 ≡ Some f.1 = sym in_es ∙ (same e.0.start ∙ (ap (rights_in (f ∷ fs)) start ∙ in_fs)) in
    let rights : e.1 ≡ f.1 = cc in
    let three = no_longer from e f es fs to g l one rights same in
    let four = no_longer from f e fs es to h m two (sym rights) (λ page. sym (same page)) in
    let end : e.0.end ≡ f.0.end = omega (arith, three, four) in
    let heads : e ≡ f = ap (λ (i : Interval ℕ). (i, e.1)) (ends_are e.0 f.0.start f.0.end start end) ∙ ap (λ (r : Rights). (f.0, r)) rights in
    let tails : es ≡ fs = runs_same e.0.end es fs to g.2 (longest_tail from e es to g l)
    (subst (λ (p : ℕ). RunsFollow p fs to) (sym end) h.2) (longest_tail from f fs to h m) (tail end) in
    ap (λ (x : Interval ℕ × Rights). x ∷ es) heads ∙ ap (λ (xs : List (Interval ℕ × Rights)). f ∷ xs) tails where
      tail : e.0.end ≡ f.0.end → (page : ℕ) → rights_in es page ≡ rights_in fs page
      tail end page = go (cases_lt page e.0.end) where
        go : (page < e.0.end) ⊎ (e.0.end ≤ page) → rights_in es page ≡ rights_in fs page
        go (inl k) = none_below e.0.end es to page g.2 k ∙ sym (none_below f.0.end fs to page h.2 (omega (arith, k, end)))
        go (inr k) = sym (behind page e es k) ∙ (same page ∙ behind page f fs (omega (arith, k, end)))

-- ---- a run that the pages determine

pub record IsRunFrom (from : ℕ) (es : List (Interval ℕ × Rights)) (to start end : ℕ) (rights : Rights) : Type 0 where
  pub front : List (Interval ℕ × Rights)
  pub back : List (Interval ℕ × Rights)
  pub whole : es ≡ front ++ run_of start end rights ∷ back
  pub before : RunsFollow from front start
  pub behind : RunsFollow end back to

pub run_from : (from : ℕ) (es : List (Interval ℕ × Rights)) (to start end : ℕ) (rights : Rights) → RunsFollow from es to →
    start < end → crosses es start ≡ false → crosses es end ≡ false →
    ((page : ℕ) → start ≤ page → page < end → rights_in es page ≡ Some rights) →
    ((page : ℕ) → start < page → page < end → has_run_at es page ≡ true → ⊥) → IsRunFrom from es to start end rights
run_from from [] to start end rights f some first last pages inside = absurd (clash (rights_in [] start) rights refl (pages start (omega arith) some))
run_from from (x ∷ es) to start end rights f some first last pages inside = go (cases_lt start x.0.end) (run_from x.0.end es to start end rights f.2 some) where
  past : (page : ℕ) → start ≤ page → x.0.end ≤ start → crosses (x ∷ es) page ≡ false → crosses es page ≡ false
  past page h k c = let t : (nat_lt x.0.start page && nat_lt page x.0.end) ≡ false = grind (arith, nat_tests, h, k) in rw t at c

  begin : x.0.start ≤ start → start < x.0.end → x.0.start ≡ start
  begin h k = at (cases_lt x.0.start start) where
    at : (x.0.start < start) ⊎ (start ≤ x.0.start) → x.0.start ≡ start
    at (inr l) = omega (arith, h, l)
    at (inl l) = let t : (nat_lt x.0.start start && nat_lt start x.0.end) ≡ true = grind (arith, nat_tests, l, k) in
        let no : true ≡ false = rw t at first in absurd (cc)

  no_less : start < x.0.end → end ≤ x.0.end
  no_less k = at (cases_lt x.0.end end) where
    at : (x.0.end < end) ⊎ (end ≤ x.0.end) → end ≤ x.0.end
    at (inr l) = l
    at (inl l) =
        let here : rights_in es x.0.end ≡ Some rights = sym (behind x.0.end x es (omega arith)) ∙ pages x.0.end (omega (arith, k)) l in
        absurd (inside x.0.end k l (begins_later x.0.end x es (mapped_begins x.0.end es to rights f.2 here)))

  no_more : x.0.start ≤ start → x.0.end ≤ end
  no_more h = at (cases_lt end x.0.end) where
    at : (end < x.0.end) ⊎ (x.0.end ≤ end) → x.0.end ≤ end
    at (inr l) = l
    at (inl l) = let t : (nat_lt x.0.start end && nat_lt end x.0.end) ≡ true = grind (arith, nat_tests, h, some, l) in
        let no : true ≡ false = rw t at last in absurd (cc)

  go : (start < x.0.end) ⊎ (x.0.end ≤ start) →
      (crosses es start ≡ false → crosses es end ≡ false → ((page : ℕ) → start ≤ page → page < end →
      rights_in es page ≡ Some rights) → ((page : ℕ) → start < page → page < end → has_run_at es page ≡ true → ⊥) →
      IsRunFrom x.0.end es to start end rights) →
      IsRunFrom from (x ∷ es) to start end rights
  go (inl k) rest =
      let low = head_below from x es to start rights f (pages start (omega arith) some) in
      let one = no_less k in
      let two = no_more low in
      let both : Some x.1 ≡ Some rights = sym (held start x es low k) ∙ pages start (omega arith) some in
      let same : x.1 ≡ rights = cc in
      let end_is : x.0.end ≡ end = omega (arith, one, two) in
      let is : x ≡ run_of start end rights = ap (λ (i : Interval ℕ). (i, x.1)) (ends_are x.0 start end (begin low k) end_is)
      ∙ ap (λ (r : Rights). (record { start = start; end = end }, r)) same in
      record {
        front = [];
        back = es;
        whole = ap (λ (y : Interval ℕ × Rights). y ∷ es) is;
        before =
            (let a = f.0 in let b = begin low k in omega (arith, a, b));
        behind =
            subst (λ (p : ℕ). RunsFollow p es to) end_is f.2;
      }
  go (inr k) rest =
      let i = rest (past start (omega arith) k first) (past end (omega (arith, some)) k last)
      (λ page h l. sym (behind page x es (omega (arith, h, k))) ∙ pages page h l)
      (λ page h l b. inside page h l (begins_later page x es b)) in
      record { front = x ∷ i.front; back = i.back; whole = ap (λ ys. x ∷ ys) i.whole; before = (f.0, f.1, i.before); behind = i.behind }
