-- Words of an arena in a row.
use Rattle.std.specs.Prelude.{◌≡◌, ℕ, ◌+◌, ◌-◌, ◌*◌, ◌/◌, ◌%◌, ◌<◌, ◌≤◌, ◌⊎◌, Bool, true, false, nat_le, nat_lt, List, [], ◌++◌, IsTrue, length}
use Rattle.std.proofs.Common.{◌∙◌, ap, refl, subst, arith, inl, inr, get_or, take, drop}
use Rattle.std.proofs.lemmas.Bool.Decides.{nat_tests}
use borrow.Rule.Slice.PartMut.{post_of, put_mid}
use Rattle.std.proofs.lemmas.List.{get_or-take, get_or-drop, get_or_append_left, get_or-append_right, length-take-le}
use Rattle.heap_memory.specs.declared.grant.Grant.{Grant}
use Rattle.heap_memory.specs.Regions.{is_granted}
use Rattle.heap_memory.specs.Words.{IsBeside, AreWordsOf}
use Rattle.heap_arena.specs.Arena.{regions_of, is_ever_granted, IsSameArena, IsWrittenAt, KeepsOthers}
use Rattle.heap_arena.specs.ArenaLaws.{ever_before, not_so}
use Rattle.heap_arena.specs.declared.arena.Arena.{Arena}
use Rattle.heap_arena.proofs.GrantLemmas.{granted_between}

-- granted words stand among those of the arena
module _ (arena : Arena) (at count : ℕ) (some : 0 < count) (run : AreWordsOf (regions_of arena) at count) where
  pub begins_above : arena.base ≤ at
  begins_above = (granted_between arena.base arena.top (regions_of arena) at arena.between (run.granted at (omega arith) (omega (arith, some)))).0

  pub ends_within : (at - arena.base) / 8 + count ≤ length arena.words.now
  ends_within =
      let low = begins_above in
      let last = granted_between arena.base arena.top (regions_of arena) (at + 8 * count - 1) arena.between
      (run.granted (at + 8 * count - 1) (omega (arith, some)) (omega (arith, some))) in
      let end = arena.ends in
      let whole = run.aligned in
      let begin = arena.aligned in
      let risen = arena.risen in
      omega (arith, low, last.1, risen, end, whole, begin, some)

-- a call that changes no words but some that are granted, and neither the grants nor where they end
module _ (old new : Arena) (at count : ℕ) (granted : (k : ℕ) → at ≤ k → k < at + 8 * count → k % 8 ≡ 0 → IsTrue (is_granted (regions_of old) k)) where
  -- a word that is not granted is none of them
  beside : (i : ℕ) → is_granted (regions_of old) (old.base + 8 * i) ≡ false → IsBeside at count (old.base + 8 * i)
  beside i none = go (nat_lt (old.base + 8 * i) at) refl (nat_le (at + 8 * count) (old.base + 8 * i)) refl
    where
      go : (before : Bool) → nat_lt (old.base + 8 * i) at ≡ before → (behind : Bool) → nat_le (at + 8 * count) (old.base + 8 * i) ≡ behind →
          IsBeside at count (old.base + 8 * i)
      go true is behind is' = inl (grind (arith, nat_tests))
      go false is true is' = inr (grind (arith, nat_tests))
      go false is false is' =
          let begin = old.aligned in
          let low : at ≤ old.base + 8 * i = grind (arith, nat_tests) in
          let high : old.base + 8 * i < at + 8 * count = grind (arith, nat_tests) in
          let here = granted (old.base + 8 * i) low high (omega (arith, begin)) in
          absurd cc

  pub written_granted : IsSameArena old new → regions_of new ≡ regions_of old → new.top ≡ old.top → new.peak ≡ old.peak →
      KeepsOthers at count old new → IsWrittenAt at count old new
  written_granted same regions top peak others = record {
    others = others;
    regions = regions;
    follows = record {
      same = same;
      top = top;
      peak = peak;
      placed = tt;
      granted = λ k is. ever_before old [] k (subst (λ (rs : List Grant). IsTrue (is_granted rs k)) regions is);
      untouched = λ i never. others i (beside i (not_so (is_granted (regions_of old) (old.base + 8 * i)) (is_ever_granted old [] (old.base + 8 * i))
          (ever_before old [] (old.base + 8 * i)) never));
    };
    top = top;
    peak = peak;
  }

-- a list in which a part was put in the place of as many
module _ (xs ys : List ℕ) (a n i : ℕ) (fits : a + n ≤ length xs) (many : length ys ≡ n) where
  pub inside : a ≤ i → i < a + n → get_or (put_mid a n xs ys) i 0 ≡ get_or ys (i - a) 0
  inside low high =
      get_or-append_right (take a xs) (ys ++ post_of a n xs) a i 0 (length-take-le a xs (omega (arith, fits))) low
      ∙ get_or_append_left ys (post_of a n xs) 0 (i - a) (omega (arith, low, high, many))

  pub outside : (i < a) ⊎ (a + n ≤ i) → get_or (put_mid a n xs ys) i 0 ≡ get_or xs i 0
  outside (inl low) =
      let front = length-take-le a xs (omega (arith, fits)) in
      get_or_append_left (take a xs) (ys ++ post_of a n xs) 0 i (omega (arith, front, low)) ∙ get_or-take a xs i 0 low
  outside (inr high) =
      get_or-append_right (take a xs) (ys ++ post_of a n xs) a i 0 (length-take-le a xs (omega (arith, fits))) (omega (arith, high))
      ∙ (get_or-append_right ys (post_of a n xs) n (i - a) 0 many (omega (arith, high))
      ∙ (get_or-drop n (drop a xs) (i - a - n) 0 ∙ (get_or-drop a xs (n + (i - a - n)) 0 ∙ ap (λ (k : ℕ). get_or xs k 0) (omega (arith, high)))))
