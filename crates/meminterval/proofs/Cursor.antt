-- What a cursor answers next, and what is left after a write.
use Rattle.std.proofs.Common.{◌≡◌, ℕ, suc, ◌+◌, Bool, false, ◌∷◌, [], drop, Option, Some, None, IfSome, IsSome, IsTrue, MatchOption, refl, sym, ap, subst, ◌∙◌, arith}
use Rattle.std.proofs.lemmas.Bool.{true≢false}
use Rattle.std.specs.List.{filter}
use Rattle.std.specs.Option.{option_map}
use Rattle.std.specs.declared.cmp.Ordering.{Ordering}
use Rattle.meminterval.specs.declared.entry.Entry.{Entry}
use Rattle.meminterval.specs.declared.interval.Interval.{Interval}
use Rattle.meminterval.specs.Entry.{pair_of}
use Rattle.meminterval.specs.Interval.{overlaps}
use Rattle.meminterval.specs.Place.{map_at, place_from, with_value}
use Rattle.meminterval.specs.QueryMut.{Cursor, last_of, last_passed, left_of, moved_to}
use Rattle.meminterval.specs.Tree.{visited}
use Rattle.meminterval.proofs.Places.{drop_at}
use Rattle.meminterval.proofs.Search.{rest_none, rest_some}

module _ {T V : Type 0} (cmp : T → T → Ordering) (c : Cursor T V) where
  -- a write at the pair that was passed last leaves the same pairs
  pub left_same : (w : V) (k : ℕ) → c.passed ≡ suc k → filter (λ e. overlaps cmp e.0 c.interval)
      (drop c.passed (visited (map_at (with_value w) c.tree.now k))) ≡ left_of cmp c
  left_same w k h = ap (λ es. filter (λ e. overlaps cmp e.0 c.interval) es)
      (subst (λ n. drop n (visited (map_at (with_value w) c.tree.now k)) ≡ drop n (visited c.tree.now)) (sym h)
      (drop_at w c.tree.now k))

  -- the pair at the next place is the first of those that are left
  abbrev IsFirst : ℕ → Option (Interval T × V) → Type 0
  IsFirst j o = MatchOption o ⊥ (λ pair. left_of cmp c ≡ pair ∷ left_of cmp (moved_to c (Some j)))

  first_at : (j : ℕ) → place_from (λ e. overlaps cmp e.0 c.interval) c.passed (visited c.tree.now) ≡ Some j → IsFirst j (last_passed (moved_to c (Some j)))
  first_at j f =
      let more : suc j ≡ j + 1 = omega arith in
      subst (λ n. MatchOption (last_of (visited c.tree.now) n) ⊥ (λ pair.
      left_of cmp c ≡ pair ∷ filter (λ e. overlaps cmp e.0 c.interval) (drop n (visited c.tree.now)))) more
      (rest_some (λ e. overlaps cmp e.0 c.interval) (visited c.tree.now) c.passed j f)

  first_by : (j : ℕ) (p : Option (Interval T × V)) → IsFirst j p → (o : Option (Entry T V)) → option_map pair_of o ≡ p
      → MatchOption o (left_of cmp c ≡ []) (λ e. left_of cmp c ≡ pair_of e ∷ left_of cmp (moved_to c (Some j)))
  first_by j None h o q = absurd h
  first_by j (Some pair) h None q = cc
  first_by j (Some pair) h (Some e) q =
      let same : pair ≡ pair_of e = cc in
      subst (λ x. left_of cmp c ≡ x ∷ left_of cmp (moved_to c (Some j))) same h

  pub found : (r : Option ℕ) → place_from (λ e. overlaps cmp e.0 c.interval) c.passed (visited c.tree.now) ≡ r → IsSome r
      → (o : Option (Entry T V)) → option_map pair_of o ≡ last_passed (moved_to c r)
      → MatchOption o (left_of cmp c ≡ []) (λ e. left_of cmp c ≡ pair_of e ∷ left_of cmp (moved_to c r))
  found None f h o q = absurd (true≢false (sym h))
  found (Some j) f h o q = first_by j (last_passed (moved_to c (Some j))) (first_at j f) o q

  pub ended : (r : Option ℕ) → place_from (λ e. overlaps cmp e.0 c.interval) c.passed (visited c.tree.now) ≡ r
      → (b : Bool) → b ≡ false → (IsSome r → IsTrue b) → left_of cmp c ≡ []
  ended None f b q h = rest_none (λ e. overlaps cmp e.0 c.interval) (visited c.tree.now) c.passed f
  ended (Some j) f b q h = absurd (true≢false (sym (h refl) ∙ q))

module _ {T V : Type 0} where
  pub last_is : (p : Option (Interval T × V)) (o : Option (Entry T V)) → option_map pair_of o ≡ p → IfSome o (λ e. p ≡ Some (pair_of e))
  last_is p None q = tt
  last_is p (Some e) q = sym q
