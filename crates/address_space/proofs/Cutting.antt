-- Single runs that are cut, split, given other rights, or let go on.
use Rattle.std.proofs.Common.{◌≡◌, ◌∙◌, ap, sym, refl, ℕ, ◌^◌, ◌<◌, ◌≤◌, ◌==◌, ◌&&◌, Bool, true, false, cond, Some, None, List, [], ◌∷◌, ◌++◌, map, arith, ◌⊎◌, inl, inr, append_assoc}
use Rattle.std.proofs.lemmas.Bool.{cases_lt}
use Rattle.std.proofs.lemmas.Bool.Decides.{nat_tests}
use Rattle.std.specs.Prelude.{nat_lt, nat_le}
use Rattle.std.specs.Ordering.{nat_cmp}
use Rattle.meminterval.specs.declared.interval.Interval.{Interval}
use Rattle.meminterval.specs.Entries.{without_key}
use Rattle.meminterval.specs.Interval.{by_ends, with_end}
use Rattle.paging_core.specs.declared.page_table.Rights.{Rights}
use Rattle.address_space.specs.Runs.{RunsFollow, HasRun, rights_in, has_run_at, crosses}
use Rattle.address_space.specs.RunChanges.{IsCut, IsOwnRun, IsSet, IsParted}
use Rattle.address_space.proofs.Splits.{follow_append}
use Rattle.address_space.proofs.Changes.{holds_inside}
use Rattle.address_space.proofs.OneRun.{run_of, run_follow, run_rights, run_apart, run_begins, start_apart, IsReplaced, replaced_follow, replaced_inside, replaced_outside, replaced_begins, replaced_apart, among, shortened, deleted}

-- ---- tests of a range

pub test_in : (first end any : ℕ) → first ≤ any → any < end → (nat_le first any && nat_lt any end) ≡ true
test_in first end any h k = grind (arith, nat_tests)

pub test_below : (first end any : ℕ) → any < first → (nat_le first any && nat_lt any end) ≡ false
test_below first end any h = grind (arith, nat_tests)

pub test_above : (first end any : ℕ) → end ≤ any → (nat_le first any && nat_lt any end) ≡ false
test_above first end any h = grind (arith, nat_tests)

pub test_out : (first end any : ℕ) → (any < first) ⊎ (end ≤ any) → (nat_le first any && nat_lt any end) ≡ false
test_out first end any (inl h) = test_below first end any h
test_out first end any (inr h) = test_above first end any h

-- a page is in a range, or outside of it
pub side_of : (first end any : ℕ) → ((first ≤ any) × (any < end)) ⊎ ((any < first) ⊎ (end ≤ any))
side_of first end any = go (cases_lt any first) (cases_lt any end) where
  go : (any < first) ⊎ (first ≤ any) → (any < end) ⊎ (end ≤ any) → ((first ≤ any) × (any < end)) ⊎ ((any < first) ⊎ (end ≤ any))
  go (inl h) k = inr (inl h)
  go (inr h) (inl k) = inl (h, k)
  go (inr h) (inr k) = inr (inr k)

pub then_in : {A : Type 0} (first end any : ℕ) (a b : A) → first ≤ any → any < end → cond (nat_le first any && nat_lt any end) a b ≡ a
then_in {A} first end any a b h k = let t = test_in first end any h k in rw t refl

pub else_out : {A : Type 0} (first end any : ℕ) (a b : A) → (any < first) ⊎ (end ≤ any) → cond (nat_le first any && nat_lt any end) a b ≡ b
else_out {A} first end any a b h = let t = test_out first end any h in rw t refl

-- ---- one run alone

one_holds : (start end page : ℕ) (rights : Rights) (more : List (Interval ℕ × Rights)) → start ≤ page → page < end →
    rights_in (run_of start end rights ∷ more) page ≡ Some rights
one_holds start end page rights more h k = let t = holds_inside page (run_of start end rights) h k in rw t refl

one_misses : (start end page : ℕ) (rights : Rights) (more : List (Interval ℕ × Rights)) → (page < start) ⊎ (end ≤ page) →
    rights_in (run_of start end rights ∷ more) page ≡ rights_in more page
one_misses start end page rights more h = let t = test_out start end page h in rw t refl

one_begins : (start end page : ℕ) (rights : Rights) (more : List (Interval ℕ × Rights)) →
    has_run_at (run_of start end rights ∷ more) page ≡ true → (page ≡ start) ⊎ (has_run_at more page ≡ true)
one_begins start end page rights more h = go (start == page) refl where
  go : (t : Bool) → (start == page) ≡ t → (page ≡ start) ⊎ (has_run_at more page ≡ true)
  go true is = inl (grind (arith, nat_tests, is))
  go false is = inr (rw is at h)

one_apart : (start end page : ℕ) (rights : Rights) (more : List (Interval ℕ × Rights)) → (start < page → end ≤ page) →
    crosses more page ≡ false → crosses (run_of start end rights ∷ more) page ≡ false
one_apart start end page rights more h rest = go (nat_lt start page && nat_lt page end) refl where
  go : (t : Bool) → (nat_lt start page && nat_lt page end) ≡ t → crosses (run_of start end rights ∷ more) page ≡ false
  go true is =
      let above : start < page = grind (arith, nat_tests, is) in
      let below : page < end = grind (arith, nat_tests, is) in
      let out = h above in absurd (omega (arith, out, below))
  go false is = rw is rest

no_begin : (page : ℕ) → has_run_at [] page ≡ true → ⊥
no_begin page h = absurd (cc)

-- ---- a cut

pub cut_short : (old new : List (Interval ℕ × Rights)) (start end from : ℕ) (rights : Rights) (i : Interval ℕ) →
    HasRun old start end rights → start < from → from < end → i.start ≡ start → i.end ≡ end →
    new ≡ map (with_end nat_cmp i from) old → IsCut old new from end
cut_short old new start end from rights i h above below s e is = record {
  follow = replaced_follow old new start end end rights (run_of start from rights ∷ []) r;
  pages = λ any. by_side any (side_of start end any) (side_of from end any);
  begins = λ any b. begin any b (replaced_begins old new start end end rights (run_of start from rights ∷ []) any r b);
  apart = λ any a. replaced_apart old new start end end rights (run_of start from rights ∷ []) any r a
      (one_apart start from any rights [] (λ k. let out = run_apart old start end rights any h a k in omega (arith, out, below)) refl);
} where
  r : IsReplaced old new start end end rights (run_of start from rights ∷ [])
  r = record {
    run = h;
    whole = shortened old new start end end from rights i (among old start end rights h) s e is;
    order =
        omega arith;
    follow = (omega arith, above, omega (arith, below));
    behind = h.behind;
  }

  by_side : (any : ℕ) → ((start ≤ any) × (any < end)) ⊎ ((any < start) ⊎ (end ≤ any)) → ((from ≤ any) × (any < end)) ⊎ ((any < from) ⊎ (end ≤ any)) →
      rights_in new any ≡ cond (nat_le from any && nat_lt any end) None (rights_in old any)
  by_side any (inl k) (inl l) =
      replaced_inside old new start end end rights (run_of start from rights ∷ []) any r k.0 k.1
      ∙ (one_misses start from any rights [] (inr l.0) ∙ sym (then_in from end any None (rights_in old any) l.0 l.1))
  by_side any (inl k) (inr (inl l)) =
      replaced_inside old new start end end rights (run_of start from rights ∷ []) any r k.0 k.1
      ∙ (one_holds start from any rights [] k.0 l ∙ (sym (run_rights old start end rights any h k.0 k.1)
      ∙ sym (else_out from end any None (rights_in old any) (inl l))))
  by_side any (inl k) (inr (inr l)) = absurd (omega (arith, k.1, l))
  by_side any (inr (inl k)) l =
      replaced_outside old new start end end rights (run_of start from rights ∷ []) any r (inl k)
      ∙ sym (else_out from end any None (rights_in old any) (inl (omega (arith, k, above))))
  by_side any (inr (inr k)) l =
      replaced_outside old new start end end rights (run_of start from rights ∷ []) any r (inr k) ∙ sym (else_out from end any None (rights_in old any) (inr k))

  begin : (any : ℕ) → has_run_at new any ≡ true → (has_run_at (run_of start from rights ∷ []) any ≡ true) ⊎ (has_run_at old
      any ≡ true) → has_run_at old any ≡ true
  begin any b (inr o) = o
  begin any b (inl m) = at (one_begins start from any rights [] m) where
    at : (any ≡ start) ⊎ (has_run_at [] any ≡ true) → has_run_at old any ≡ true
    at (inl k) = ap (has_run_at old) k ∙ run_begins old start end rights h
    at (inr k) = absurd (no_begin any k)

pub cut_whole : (old new : List (Interval ℕ × Rights)) (start end from : ℕ) (rights : Rights) (i : Interval ℕ) →
    HasRun old start end rights → start ≡ from → i.start ≡ start → i.end ≡ end →
    new ≡ without_key (by_ends nat_cmp) i old → IsCut old new from end
cut_whole old new start end from rights i h at s e is = record {
  follow = replaced_follow old new start end end rights [] r;
  pages = λ any. by_side any (side_of start end any);
  begins = λ any b. begin any (replaced_begins old new start end end rights [] any r b);
  apart = λ any a. replaced_apart old new start end end rights [] any r a refl;
} where
  r : IsReplaced old new start end end rights []
  r = record {
    run = h;
    whole = deleted old new h.front h.back start end rights i h.whole h.before s e is;
    order =
        omega arith;
    follow = (let k = h.some in omega (arith, k));
    behind = h.behind;
  }

  by_side : (any : ℕ) → ((start ≤ any) × (any < end)) ⊎ ((any < start) ⊎ (end ≤ any)) →
      rights_in new any ≡ cond (nat_le from any && nat_lt any end) None (rights_in old any)
  by_side any (inl k) = replaced_inside old new start end end rights [] any r k.0 k.1
      ∙ sym (then_in from end any None (rights_in old any) (omega (arith, k.0, at)) k.1)
  by_side any (inr (inl k)) = replaced_outside old new start end end rights [] any r (inl k)
      ∙ sym (else_out from end any None (rights_in old any) (inl (omega (arith, k, at))))
  by_side any (inr (inr k)) = replaced_outside old new start end end rights [] any r (inr k) ∙ sym (else_out from end any None (rights_in old any) (inr k))

  begin : (any : ℕ) → (has_run_at [] any ≡ true) ⊎ (has_run_at old any ≡ true) → has_run_at old any ≡ true
  begin any (inl m) = absurd (no_begin any m)
  begin any (inr o) = o

-- ---- a run that is split, or gets other rights

pub split_set : (old new : List (Interval ℕ × Rights)) (start end page : ℕ) (rights new_rights : Rights)
    (h : HasRun old start end rights) → start < page → page < end →
    new ≡ h.front ++ run_of start page rights ∷ run_of page end new_rights ∷ h.back → IsSet old new page end new_rights
split_set old new start end page rights new_rights h above below is = record {
  set = record {
    run = record {
      front = h.front ++ run_of start page rights ∷ [];
      back = h.back;
      whole = is ∙ sym (append_assoc h.front (run_of start page rights ∷ []) (run_of page end new_rights ∷ h.back));
      before = follow_append 0 start h.front (run_of start page rights ∷ []) page h.before (omega arith, above, omega arith);
      some = below;
      behind = h.behind;
    };
    pages = λ any. by_side any (side_of start end any) (side_of page end any);
    begins = λ any b. begin any (replaced_begins old new start end end rights two any r b);
  };
  keeps = record {
    apart = λ any a. replaced_apart old new start end end rights two any r a
        (one_apart start page any rights (run_of page end new_rights ∷ [])
        (λ k. let out = run_apart old start end rights any h a k in omega (arith, out, below))
        (one_apart page end any new_rights [] (λ k. run_apart old start end rights any h a (omega (arith, k, above))) refl));
  };
} where
  two : List (Interval ℕ × Rights)
  two = run_of start page rights ∷ run_of page end new_rights ∷ []

  r : IsReplaced old new start end end rights two
  r = record { run = h; whole = is; order = omega arith; follow = (omega arith, above, (omega arith, below, omega arith)); behind = h.behind }

  by_side : (any : ℕ) → ((start ≤ any) × (any < end)) ⊎ ((any < start) ⊎ (end ≤ any)) → ((page ≤ any) × (any < end)) ⊎ ((any < page) ⊎ (end ≤ any)) →
      rights_in new any ≡ cond (nat_le page any && nat_lt any end) (Some new_rights) (rights_in old any)
  by_side any (inl k) (inl l) =
      replaced_inside old new start end end rights two any r k.0 k.1
      ∙ (one_misses start page any rights (run_of page end new_rights ∷ []) (inr l.0)
      ∙ (one_holds page end any new_rights [] l.0 l.1 ∙ sym (then_in page end any (Some new_rights) (rights_in old any) l.0 l.1)))
  by_side any (inl k) (inr (inl l)) =
      replaced_inside old new start end end rights two any r k.0 k.1
      ∙ (one_holds start page any rights (run_of page end new_rights ∷ []) k.0 l
      ∙ (sym (run_rights old start end rights any h k.0 k.1) ∙ sym (else_out page end any (Some new_rights)
      (rights_in old any) (inl l))))
  by_side any (inl k) (inr (inr l)) = absurd (omega (arith, k.1, l))
  by_side any (inr (inl k)) l =
      replaced_outside old new start end end rights two any r (inl k) ∙ sym
      (else_out page end any (Some new_rights) (rights_in old any) (inl (omega (arith, k, above))))
  by_side any (inr (inr k)) l =
      replaced_outside old new start end end rights two any r (inr k) ∙ sym (else_out page end any (Some new_rights) (rights_in old any) (inr k))

  begin : (any : ℕ) → (has_run_at two any ≡ true) ⊎ (has_run_at old any ≡ true) → (any ≡ page) ⊎ (has_run_at old any ≡ true)
  begin any (inr o) = inr o
  begin any (inl m) = at (one_begins start page any rights (run_of page end new_rights ∷ []) m) where
    at_second : (any ≡ page) ⊎ (has_run_at [] any ≡ true) → (any ≡ page) ⊎ (has_run_at old any ≡ true)
    at_second (inl k) = inl k
    at_second (inr k) = absurd (no_begin any k)

    at : (any ≡ start) ⊎ (has_run_at (run_of page end new_rights ∷ []) any ≡ true) → (any ≡ page) ⊎ (has_run_at old any ≡ true)
    at (inl k) = inr (ap (has_run_at old) k ∙ run_begins old start end rights h)
    at (inr k) = at_second (one_begins page end any new_rights [] k)

-- one run, with other rights or a later end, in the place of one
pub one_set : (old new : List (Interval ℕ × Rights)) (start end to : ℕ) (rights new_rights : Rights)
    (h : HasRun old start end rights) → end ≤ to → RunsFollow to h.back (2 ^ 52) →
    new ≡ h.front ++ run_of start to new_rights ∷ h.back → IsOwnRun old new start to new_rights
one_set old new start end to rights new_rights h order behind is = record {
  run = record { front = h.front; back = h.back; whole = is; before = h.before; some = (let k = h.some in omega (arith, k, order)); behind = behind };
  pages = λ any. by_side any (side_of start to any);
  begins = λ any b. begin any (replaced_begins old new start end to rights (run_of start to new_rights ∷ []) any r b);
} where
  r : IsReplaced old new start end to rights (run_of start to new_rights ∷ [])
  r = record { run = h; whole = is; order = order; follow = (omega arith, (let k = h.some in omega (arith, k, order)), omega arith); behind = behind }

  by_side : (any : ℕ) → ((start ≤ any) × (any < to)) ⊎ ((any < start) ⊎ (to ≤ any)) →
      rights_in new any ≡ cond (nat_le start any && nat_lt any to) (Some new_rights) (rights_in old any)
  by_side any (inl k) =
      replaced_inside old new start end to rights (run_of start to new_rights ∷ []) any r k.0 k.1
      ∙ (one_holds start to any new_rights [] k.0 k.1 ∙ sym (then_in start to any (Some new_rights) (rights_in old any) k.0 k.1))
  by_side any (inr k) = replaced_outside old new start end to rights (run_of start to new_rights ∷ []) any r k
      ∙ sym (else_out start to any (Some new_rights) (rights_in old any) k)

  begin : (any : ℕ) → (has_run_at (run_of start to new_rights ∷ []) any ≡ true) ⊎ (has_run_at old any ≡ true) → (any ≡ start) ⊎ (has_run_at old any ≡ true)
  begin any (inr o) = inr o
  begin any (inl m) = at (one_begins start to any new_rights [] m) where
    at : (any ≡ start) ⊎ (has_run_at [] any ≡ true) → (any ≡ start) ⊎ (has_run_at old any ≡ true)
    at (inl k) = inl k
    at (inr k) = absurd (no_begin any k)

pub run_set : (old new : List (Interval ℕ × Rights)) (start end : ℕ) (rights new_rights : Rights) (h : HasRun old start end rights) →
    new ≡ h.front ++ run_of start end new_rights ∷ h.back → IsSet old new start end new_rights
run_set old new start end rights new_rights h is = record {
  set = one_set old new start end end rights new_rights h (omega arith) h.behind is;
  keeps = record {
    apart = λ any a. replaced_apart old new start end end rights (run_of start end new_rights ∷ []) any
        (record { run = h; whole = is; order = omega arith; follow = (omega arith, h.some, omega arith); behind = h.behind }) a
        (one_apart start end any new_rights [] (λ k. run_apart old start end rights any h a k) refl);
  };
}

-- runs after free pages
pub follow_up : (from at : ℕ) (es : List (Interval ℕ × Rights)) (to : ℕ) → RunsFollow from es to → at ≤ to →
    ((page : ℕ) → from ≤ page → page < at → rights_in es page ≡ None) → RunsFollow at es to
follow_up from at [] to f le free = le
follow_up from at (e ∷ es) to f le free = go (cases_lt e.0.start at) where
  go : (e.0.start < at) ⊎ (at ≤ e.0.start) → RunsFollow at (e ∷ es) to
  go (inr h) = (h, f.1, f.2)
  go (inl h) =
      let none = free e.0.start f.0 h in
      let t = holds_inside e.0.start e (omega arith) f.1 in
      let no : Some e.1 ≡ None = rw t at none in absurd (cc)

-- ---- no run goes on over a page

pub parted_by : (old new : List (Interval ℕ × Rights)) (start end page : ℕ) (rights : Rights) →
    HasRun old start end rights → start < page → IsOwnRun old new page end rights → IsParted old new page
parted_by old new start end page rights h above s = record {
  follow = run_follow new page end rights s.run;
  pages = λ any. s.pages any ∙ by_side any (side_of page end any);
  begins = s.begins;
  apart = start_apart new page end rights s.run;
} where
  by_side : (any : ℕ) → ((page ≤ any) × (any < end)) ⊎ ((any < page) ⊎ (end ≤ any)) →
      cond (nat_le page any && nat_lt any end) (Some rights) (rights_in old any) ≡ rights_in old any
  by_side any (inl k) = then_in page end any (Some rights) (rights_in old any) k.0 k.1
      ∙ sym (run_rights old start end rights any h (omega (arith, k.0, above)) k.1)
  by_side any (inr k) = else_out page end any (Some rights) (rights_in old any) k
