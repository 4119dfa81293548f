-- A run that is put in and joined.
use Rattle.std.proofs.Common.{◌≡◌, ◌∙◌, ap, sym, refl, ℕ, ◌+◌, ◌^◌, ◌<◌, ◌≤◌, ◌==◌, ◌&&◌, Bool, true, false, cond, ◌||◌, Some, List, ◌∷◌, ◌++◌, arith, subst, ◌⊎◌, inl, inr}
use Rattle.std.proofs.lemmas.Bool.{cases_lt}
use Rattle.std.proofs.lemmas.Bool.Decides.{nat_tests}
use Rattle.std.specs.Prelude.{nat_lt, nat_le}
use Rattle.std.specs.Ordering.{nat_cmp}
use Rattle.meminterval.specs.declared.interval.Interval.{Interval}
use Rattle.meminterval.specs.Entries.{with_entry}
use Rattle.meminterval.specs.Interval.{by_ends}
use Rattle.paging_core.specs.declared.page_table.Rights.{Rights}
use Rattle.address_space.specs.Runs.{RunsFollow, AreLongest, rights_in, has_run_at}
use Rattle.address_space.specs.Joining.{AreRunsJoined, IsRunAdded, IsLongestAfter}
use Rattle.address_space.proofs.Splits.{follow_append}
use Rattle.address_space.proofs.Changes.{rights_append, begins_append, none_above, entry_between, begins_mapped}
use Rattle.address_space.proofs.Clear.{AreClear, IsSplit, clear_split}

-- the run is in, and not joined yet
pub record IsPut (old new : List (Interval ℕ × Rights)) (first end : ℕ) (rights : Rights) : Type 0 where
  pub follow : RunsFollow 0 new (2 ^ 52)
  pub pages : (any : ℕ) → rights_in new any ≡ cond (nat_le first any && nat_lt any end) (Some rights) (rights_in old any)
  pub begins : (any : ℕ) → (any ≡ first → ⊥) → has_run_at new any ≡ has_run_at old any

put_inside : (first end any : ℕ) (rights : Rights) (front back : List (Interval ℕ × Rights)) → RunsFollow 0 front first →
    RunsFollow end back (2 ^ 52) → (t : Bool) → (nat_le first any && nat_lt any end) ≡ t →
    rights_in (front ++ (record { start = first; end = end }, rights) ∷ back) any ≡ cond t (Some rights) (rights_in (front ++ back) any)
put_inside first end any rights front back f g true is =
    let above : first ≤ any = grind (arith, nat_tests, is) in
    let none = none_above 0 front first any f above in
    rights_append front ((record { start = first; end = end }, rights) ∷ back) any ∙ rw none (rw is refl)
put_inside first end any rights front back f g false is =
    rights_append front ((record { start = first; end = end }, rights) ∷ back) any ∙ rw is (sym (rights_append front back any))

pub put : (es new : List (Interval ℕ × Rights)) (first end : ℕ) (rights : Rights) → RunsFollow 0 es (2 ^ 52) → first < end →
    end ≤ 2 ^ 52 → AreClear es first end →
    new ≡ with_entry (by_ends nat_cmp) (record { start = first; end = end }, rights) es → IsPut es new first end rights
put es new first end rights f some within clear is = by_split (clear_split first end es (2 ^ 52) some within f clear) where
  by_split : IsSplit first end es (2 ^ 52) → IsPut es new first end rights
  by_split s =
      let x : Interval ℕ × Rights = (record { start = first; end = end }, rights) in
      let whole : new ≡ s.front ++ x ∷ s.back = is ∙ (ap (with_entry (by_ends nat_cmp) x) s.whole
      ∙ entry_between x 0 s.front s.back end (2 ^ 52) s.before some s.behind) in
      record {
        follow = subst (λ (ys : List (Interval ℕ × Rights)). RunsFollow 0 ys (2 ^ 52)) (sym whole)
            (follow_append 0 first s.front (x ∷ s.back) (2 ^ 52) s.before (omega arith, some, s.behind));
        pages = λ any. ap (λ (ys : List (Interval ℕ × Rights)). rights_in ys any) whole
            ∙ (put_inside first end any rights s.front s.back s.before s.behind (nat_le first any && nat_lt any end) refl
            ∙ ap (λ (ys : List (Interval ℕ × Rights)). cond (nat_le first any && nat_lt any end) (Some rights) (rights_in ys any)) (sym s.whole));
        begins = λ any other.
            (let t : (first == any) ≡ false = grind (arith, nat_tests, other) in
            let more : has_run_at (x ∷ s.back) any ≡ has_run_at s.back any = rw t refl in
            ap (λ (ys : List (Interval ℕ × Rights)). has_run_at ys any) whole
            ∙ (begins_append s.front (x ∷ s.back) any ∙ (ap (λ b. has_run_at s.front any || b) more
            ∙ (sym (begins_append s.front s.back any) ∙ ap (λ (ys : List (Interval ℕ × Rights)). has_run_at ys any)
            (sym s.whole)))));
      }

outside_rights : (es new : List (Interval ℕ × Rights)) (first end any : ℕ) (rights : Rights) →
    IsPut es new first end rights → (any < first) ⊎ (end ≤ any) → rights_in new any ≡ rights_in es any
outside_rights es new first end any rights p side = p.pages any ∙ (let t = test side in rw t refl) where
  test : (any < first) ⊎ (end ≤ any) → (nat_le first any && nat_lt any end) ≡ false
  test (inl h) = grind (arith, nat_tests)
  test (inr h) = grind (arith, nat_tests)

-- away from the ends of the run, the runs are as long as before
away : (es new : List (Interval ℕ × Rights)) (first end before : ℕ) (rights : Rights) → RunsFollow 0 es (2 ^ 52) →
    AreLongest es → AreClear es first end → IsPut es new first end rights →
    (before + 1 ≡ first → ⊥) → (before + 1 ≡ end → ⊥) → IsLongestAfter new before
away es new first end before rights f longest clear p not_first not_end begins same =
    let was : has_run_at es (before + 1) ≡ true = sym (p.begins (before + 1) not_first) ∙ begins in
    let behind : (before + 1 < first) ⊎ (end ≤ before + 1) = side was (cases_lt (before + 1) first) (cases_lt (before + 1) end) in
    longest before was (sym (outside_rights es new first end before rights p (less behind))
    ∙ (same ∙ outside_rights es new first end (before + 1) rights p behind)) where
      side : has_run_at es (before + 1) ≡ true → (before + 1 < first) ⊎ (first ≤ before + 1) →
          (before + 1 < end) ⊎ (end ≤ before + 1) → (before + 1 < first) ⊎ (end ≤ before + 1)
      side was (inl h) r = inl h
      side was (inr h) (inr k) = inr k
      side was (inr h) (inl k) = absurd (begins_mapped 0 es (2 ^ 52) (before + 1) f was (clear (before + 1) h k))

      less : (before + 1 < first) ⊎ (end ≤ before + 1) → (before < first) ⊎ (end ≤ before)
      less (inl h) = inl (omega (arith, h))
      less (inr h) = inr (omega (arith, h, not_end))

pub added : (es one two new : List (Interval ℕ × Rights)) (first end : ℕ) (rights : Rights) → RunsFollow 0 es (2 ^ 52) →
    AreLongest es → AreClear es first end → IsPut es one first end rights →
    AreRunsJoined one two end → AreRunsJoined two new first → IsRunAdded es new first end rights
added es one two new first end rights f longest clear p j k = record {
  follow = k.follow;
  longest = λ before begins same. at_end before (cases_eq (before + 1) first) begins same;
  pages = λ any. k.rights any ∙ (j.rights any ∙ p.pages any);
} where
  cases_eq : (a b : ℕ) → (a ≡ b) ⊎ (a ≡ b → ⊥)
  cases_eq a b = go (a == b) refl where
    go : (t : Bool) → (a == b) ≡ t → (a ≡ b) ⊎ (a ≡ b → ⊥)
    go true is = inl (grind (arith, nat_tests, is))
    go false is = inr (λ h. grind (arith, nat_tests, is, h))

  at_put : (before : ℕ) → (before + 1 ≡ first → ⊥) → (before + 1 ≡ end) ⊎ (before + 1 ≡ end → ⊥) →
      has_run_at two (before + 1) ≡ true → rights_in two before ≡ rights_in two (before + 1) → ⊥
  at_put before not_first (inl is) begins same = j.joined before is begins same
  at_put before not_first (inr other) begins same =
      away es one first end before rights f longest clear p not_first other (j.begins (before + 1) begins)
      (sym (j.rights before) ∙ (same ∙ j.rights (before + 1)))

  at_end : (before : ℕ) → (before + 1 ≡ first) ⊎ (before + 1 ≡ first → ⊥) → has_run_at new (before + 1) ≡ true →
      rights_in new before ≡ rights_in new (before + 1) → ⊥
  at_end before (inl is) begins same = k.joined before is begins same
  at_end before (inr other) begins same = at_put before other (cases_eq (before + 1) end) (k.begins (before + 1) begins)
      (sym (k.rights before) ∙ (same ∙ k.rights (before + 1)))
