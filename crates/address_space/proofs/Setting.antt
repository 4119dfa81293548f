-- Runs whose pages got other rights.
use Rattle.std.proofs.Common.{◌≡◌, ◌∙◌, ap, sym, refl, ℕ, ◌+◌, ◌^◌, ◌<◌, ◌≤◌, ◌==◌, ◌&&◌, ◌||◌, Bool, true, false, cond, Some, None, List, ◌∷◌, map, arith, subst, ◌⊎◌, inl, inr}
use Rattle.std.proofs.lemmas.Bool.{cases_lt}
use Rattle.std.proofs.lemmas.Bool.Decides.{nat_tests}
use Rattle.std.specs.Prelude.{nat_lt, nat_le}
use Rattle.std.specs.Ordering.{nat_cmp}
use Rattle.meminterval.specs.declared.interval.Interval.{Interval}
use Rattle.meminterval.specs.Interval.{with_end}
use Rattle.paging_core.specs.declared.page_table.Rights.{Rights}
use Rattle.address_space.specs.Runs.{RunsFollow, AreLongest, HasRun, rights_in, has_run_at, crosses}
use Rattle.address_space.specs.Joining.{AreRunsJoined, IsRunAdded}
use Rattle.address_space.specs.RunChanges.{IsCut, IsOwnRun, IsParted}
use Rattle.address_space.proofs.Changes.{rights_append, begins_append, none_above, none_begins_above, none_begins_below}
use Rattle.address_space.proofs.OneRun.{run_of, run_rights, among, shortened, crosses_free, or_right}
use Rattle.address_space.proofs.Cutting.{test_above, side_of, then_in, else_out, one_set, follow_up}
use Rattle.address_space.proofs.Unique.{IsRunFrom, run_from, runs_same}

none_of : (a b c : Bool) → a ≡ false → b ≡ false → c ≡ false → (a || cond b true c) ≡ false
none_of a b c h k l = rw h (rw k l)

-- no run begins inside another
pub run_inside : (es : List (Interval ℕ × Rights)) (start end : ℕ) (rights : Rights) (page : ℕ) →
    HasRun es start end rights → start < page → page < end → has_run_at es page ≡ true → ⊥
run_inside es start end rights page h above below b =
    let t : (start == page) ≡ false = grind (arith, nat_tests, above) in
    let none = none_of (has_run_at h.front page) (start == page) (has_run_at h.back page)
    (none_begins_above 0 h.front start page h.before (omega (arith, above))) t
    (none_begins_below end h.back (2 ^ 52) page h.behind below) in
    let no : true ≡ false = sym b ∙ (ap (λ (xs : List (Interval ℕ × Rights)). has_run_at xs page) h.whole
    ∙ (begins_append h.front (run_of start end rights ∷ h.back) page ∙ none)) in absurd (cc)

-- a run before pages that left is still there
pub run_kept : (old new : List (Interval ℕ × Rights)) (start end to : ℕ) (rights : Rights) → HasRun old start end rights →
    end ≤ to → crosses old start ≡ false → crosses old to ≡ false → IsCut old new end to → HasRun new start end rights
run_kept old new start end to rights h order first last c =
    by_run (run_from 0 new (2 ^ 52) start end rights c.follow h.some (c.apart start first) (at_end (cases_lt end to))
    (λ page k l. c.pages page ∙ (else_out end to page None (rights_in old page) (inl l) ∙ run_rights old start end rights page h k l))
    (λ page k l b. run_inside old start end rights page h k l (c.begins page b))) where
      at_end : (end < to) ⊎ (to ≤ end) → crosses new end ≡ false
      at_end (inl k) = crosses_free new end (c.pages end ∙ then_in end to end None (rights_in old end) (omega arith) k)
      at_end (inr k) = let same : to ≡ end = omega (arith, k, order) in subst (λ (p : ℕ). crosses new p ≡ false) same (c.apart to last)

      by_run : IsRunFrom 0 new (2 ^ 52) start end rights → HasRun new start end rights
      by_run r = record { front = r.front; back = r.back; whole = r.whole; before = r.before; some = h.some; behind = r.behind }

-- after a run, the pages are those of the runs after it
back_rights : (es : List (Interval ℕ × Rights)) (start end : ℕ) (rights : Rights) (page : ℕ)
    (h : HasRun es start end rights) → end ≤ page → rights_in es page ≡ rights_in h.back page
back_rights es start end rights page h k =
    let skip : rights_in (run_of start end rights ∷ h.back) page ≡ rights_in h.back page = (let t = test_above start end page k in rw t refl) in
    ap (λ (xs : List (Interval ℕ × Rights)). rights_in xs page) h.whole
    ∙ (rights_append h.front (run_of start end rights ∷ h.back) page ∙ (or_right (rights_in h.front page)
    (rights_in (run_of start end rights ∷ h.back) page) (none_above 0 h.front start page h.before
    (let m = h.some in omega (arith, m, k))) ∙ skip))

pub spread_set : (old one new : List (Interval ℕ × Rights)) (start end to : ℕ) (rights : Rights) (i : Interval ℕ) →
    HasRun old start end rights → (h : HasRun one start end rights) → end ≤ to → to ≤ 2 ^ 52 → IsCut old one end to →
    i.start ≡ start → i.end ≡ end → new ≡ map (with_end nat_cmp i to) one → IsOwnRun old new start to rights
spread_set old one new start end to rights i was h order within c s e is = record {
  run = set.run;
  pages = λ any. by_side any (side_of start to any);
  begins = λ any b. begin any (set.begins any b);
} where
  free : (page : ℕ) → end ≤ page → page < to → rights_in h.back page ≡ None
  free page k l = sym (back_rights one start end rights page h k) ∙ (c.pages page ∙ then_in end to page None (rights_in old page) k l)

  set : IsOwnRun one new start to rights
  set = one_set one new start end to rights rights h order (follow_up end to h.back (2 ^ 52) h.behind within free)
      (shortened one new start end end to rights i (among one start end rights h) s e is)

  by_side : (any : ℕ) → ((start ≤ any) × (any < to)) ⊎ ((any < start) ⊎ (to ≤ any)) →
      rights_in new any ≡ cond (nat_le start any && nat_lt any to) (Some rights) (rights_in old any)
  by_side any (inl k) = set.pages any ∙ (then_in start to any (Some rights) (rights_in one any) k.0 k.1
      ∙ sym (then_in start to any (Some rights) (rights_in old any) k.0 k.1))
  by_side any (inr k) =
      set.pages any ∙ (else_out start to any (Some rights) (rights_in one any) k
      ∙ (c.pages any ∙ (else_out end to any None (rights_in old any) (out k) ∙ sym (else_out start to any (Some rights) (rights_in old any) k)))) where
        out : (any < start) ⊎ (to ≤ any) → (any < end) ⊎ (to ≤ any)
        out (inl l) = (let m = h.some in inl (omega (arith, l, m)))
        out (inr l) = inr l

  begin : (any : ℕ) → (any ≡ start) ⊎ (has_run_at one any ≡ true) → (any ≡ start) ⊎ (has_run_at old any ≡ true)
  begin any (inl k) = inl k
  begin any (inr k) = inr (c.begins any k)

-- ---- the whole change

pub set_added : (old one two three four new : List (Interval ℕ × Rights)) (first stop end : ℕ) (rights : Rights) →
    AreLongest old → first < end → stop ≤ end → IsParted old one end → IsOwnRun one two first stop rights →
    IsOwnRun two three first end rights → AreRunsJoined three four end → AreRunsJoined four new first → IsRunAdded old new first end rights
set_added old one two three four new first stop end rights longest some order p s t j k = record {
  follow = k.follow;
  longest = λ before b same. at_first before b same (cases_eq (before + 1) first);
  pages = λ any. k.rights any ∙ (j.rights any ∙ by_side any (side_of first end any));
} where
  by_side : (any : ℕ) → ((first ≤ any) × (any < end)) ⊎ ((any < first) ⊎ (end ≤ any)) →
      rights_in three any ≡ cond (nat_le first any && nat_lt any end) (Some rights) (rights_in old any)
  by_side any (inl l) = t.pages any ∙ (then_in first end any (Some rights) (rights_in two any) l.0 l.1
      ∙ sym (then_in first end any (Some rights) (rights_in old any) l.0 l.1))
  by_side any (inr l) =
      t.pages any ∙ (else_out first end any (Some rights) (rights_in two any) l
      ∙ (s.pages any ∙ (else_out first stop any (Some rights) (rights_in one any) (out l)
      ∙ (p.pages any ∙ sym (else_out first end any (Some rights) (rights_in old any) l))))) where
        out : (any < first) ⊎ (end ≤ any) → (any < first) ⊎ (stop ≤ any)
        out (inl m) = inl m
        out (inr m) = inr (omega (arith, m, order))

  cases_eq : (a b : ℕ) → (a ≡ b) ⊎ (a ≡ b → ⊥)
  cases_eq a b = go (a == b) refl where
    go : (t : Bool) → (a == b) ≡ t → (a ≡ b) ⊎ (a ≡ b → ⊥)
    go true is = inl (grind (arith, nat_tests, is))
    go false is = inr (λ h. grind (arith, nat_tests, is, h))

  -- the runs before are as long as they can be, and here the rights are theirs
  was : (before : ℕ) → has_run_at old (before + 1) ≡ true → rights_in three before ≡ rights_in three (before + 1) →
      (before < first) ⊎ (end ≤ before) → (before + 1 < first) ⊎ (end ≤ before + 1) → ⊥
  was before b same l m =
      longest before b (sym (else_out first end before (Some rights) (rights_in old before) l)
      ∙ (sym (by_side before (inr l)) ∙ (same ∙ (by_side (before + 1) (inr m)
      ∙ else_out first end (before + 1) (Some rights) (rights_in old (before + 1)) m))))

  away : (before : ℕ) → (before + 1 ≡ first → ⊥) → (before + 1 ≡ end → ⊥) → has_run_at three (before + 1) ≡ true →
      has_run_at old (before + 1) ≡ true → rights_in three before ≡ rights_in three (before + 1) → ⊥
  away before not_first not_end b o same = go (side_of first end (before + 1)) where
    go : ((first ≤ before + 1) × (before + 1 < end)) ⊎ ((before + 1 < first) ⊎ (end ≤ before + 1)) → ⊥
    go (inl l) = run_inside three first end rights (before + 1) t.run (omega (arith, l.0, not_first)) l.1 b
    go (inr (inl l)) = was before o same (inl (omega (arith, l))) (inl l)
    go (inr (inr l)) = was before o same (inr (omega (arith, l, not_end))) (inr l)

  at_old : (before : ℕ) → (before + 1 ≡ first → ⊥) → (before + 1 ≡ end → ⊥) → has_run_at three (before + 1) ≡ true →
      rights_in three before ≡ rights_in three (before + 1) → ⊥
  at_old before not_first not_end b same = from_three (t.begins (before + 1) b) where
    from_one : (before + 1 ≡ end) ⊎ (has_run_at old (before + 1) ≡ true) → ⊥
    from_one (inl l) = not_end l
    from_one (inr o) = away before not_first not_end b o same

    from_two : (before + 1 ≡ first) ⊎ (has_run_at one (before + 1) ≡ true) → ⊥
    from_two (inl l) = not_first l
    from_two (inr o) = from_one (p.begins (before + 1) o)

    from_three : (before + 1 ≡ first) ⊎ (has_run_at two (before + 1) ≡ true) → ⊥
    from_three (inl l) = not_first l
    from_three (inr o) = from_two (s.begins (before + 1) o)

  at_end : (before : ℕ) → (before + 1 ≡ first → ⊥) → has_run_at four (before + 1) ≡ true →
      rights_in four before ≡ rights_in four (before + 1) → (before + 1 ≡ end) ⊎ (before + 1 ≡ end → ⊥) → ⊥
  at_end before not_first b same (inl is) = j.joined before is b same
  at_end before not_first b same (inr other) = at_old before not_first other (j.begins (before + 1) b) (sym (j.rights before) ∙ (same ∙ j.rights (before + 1)))

  at_first : (before : ℕ) → has_run_at new (before + 1) ≡ true → rights_in new before ≡ rights_in new (before + 1) →
      (before + 1 ≡ first) ⊎ (before + 1 ≡ first → ⊥) → ⊥
  at_first before b same (inl is) = k.joined before is b same
  at_first before b same (inr other) = at_end before other (k.begins (before + 1) b)
      (sym (k.rights before) ∙ (same ∙ k.rights (before + 1))) (cases_eq (before + 1) end)

-- a run that was parted and joined again
pub rejoined : (old one new : List (Interval ℕ × Rights)) (page : ℕ) → RunsFollow 0 old (2 ^ 52) → AreLongest old →
    IsParted old one page → AreRunsJoined one new page → new ≡ old
rejoined old one new page f longest p j =
    runs_same 0 new old (2 ^ 52) j.follow (λ before b same. go before b same (p.begins (before + 1) (j.begins (before + 1) b))) f longest same_pages where
      same_pages : (any : ℕ) → rights_in new any ≡ rights_in old any
      same_pages any = j.rights any ∙ p.pages any

      go : (before : ℕ) → has_run_at new (before + 1) ≡ true → rights_in new before ≡ rights_in new (before + 1) →
          (before + 1 ≡ page) ⊎ (has_run_at old (before + 1) ≡ true) → ⊥
      go before b same (inl is) = j.joined before is b same
      go before b same (inr o) = longest before o (sym (same_pages before) ∙ (same ∙ same_pages (before + 1)))
