-- An arena at two moments, and two such times, one after the other.
use Rattle.std.specs.Prelude.{◌≡◌, ℕ, ◌+◌, ◌*◌, max, Bool, true, false, ◌&&◌, ◌||◌, nat_le, nat_lt, if◌then◌else◌, List, [], ◌∷◌, ◌++◌, IsTrue, length}
use Rattle.std.proofs.Common.{◌∙◌, ap, sym, subst, refl, inl, inr}
use Rattle.std.proofs.lemmas.Bool.{or_cases}
use Rattle.heap_memory.specs.declared.grant.Grant.{Grant}
use Rattle.heap_memory.specs.declared.grant.GrantFault.{GrantFault}
use Rattle.heap_memory.specs.Events.{Event, Granted, Refused, Released}
use Rattle.heap_memory.specs.Regions.{is_granted}
use Rattle.heap_memory.specs.Runs.{begins_in}
use Rattle.heap_arena.specs.declared.arena.Arena.{Arena}
use Rattle.heap_arena.specs.Arena.{regions_of, end_of, IsSameArena, IsArenaAfter, top_without, AreAtTop, top_after, peak_after, grants_in, is_ever_granted}

module _ (base end : ℕ) where
  top_on : (top : ℕ) (a b : List Event) → top_after base end top (a ++ b) ≡ top_after base end (top_after base end top a) b
  top_on top [] b = refl
  top_on top (Granted size grant ∷ a) b = top_on (if begins_in base end grant then grant.base + grant.size else top) a b
  top_on top (Refused size fault ∷ a) b = top_on top a b
  top_on top (Released at old_size new_size ∷ a) b = top_on (top_without base (at + new_size) (at + old_size) top) a b

  peak_on : (peak : ℕ) (a b : List Event) → peak_after base end peak (a ++ b) ≡ peak_after base end (peak_after base end peak a) b
  peak_on peak [] b = refl
  peak_on peak (Granted size grant ∷ a) b = peak_on (if begins_in base end grant then max peak (grant.base + grant.size) else peak) a b
  peak_on peak (Refused size fault ∷ a) b = peak_on peak a b
  peak_on peak (Released at old_size new_size ∷ a) b = peak_on peak a b

  placed_on : (top : ℕ) (a b : List Event) → AreAtTop base end top a → AreAtTop base end (top_after base end top a) b → AreAtTop base end top (a ++ b)
  placed_on top [] b first second = second
  placed_on top (Granted size grant ∷ a) b first second = (first.0, placed_on (if begins_in base end grant then grant.base + grant.size else top) a b first.1 second)
  placed_on top (Refused size fault ∷ a) b first second = placed_on top a b first second
  placed_on top (Released at old_size new_size ∷ a) b first second = placed_on (top_without base (at + new_size) (at + old_size) top) a b first second

  -- what events granted, and others after them
  granted_on : (a b : List Event) (at : ℕ) → is_granted (grants_in base end (a ++ b)) at ≡ (is_granted (grants_in base end a) at || is_granted (grants_in base end b) at)
  granted_on [] b at = refl
  granted_on (Granted size grant ∷ a) b at = go (begins_in base end grant) (granted_on a b at)
    where
      one : (here all first others : Bool) → all ≡ (first || others) → (here || all) ≡ ((here || first) || others)
      one true all first others rest = refl
      one false all first others rest = rest

      go : (own : Bool) → is_granted (grants_in base end (a ++ b)) at ≡ (is_granted (grants_in base end a) at || is_granted (grants_in base end b) at) →
          is_granted (if own then grant ∷ grants_in base end (a ++ b) else grants_in base end (a ++ b)) at
          ≡ (is_granted (if own then grant ∷ grants_in base end a else grants_in base end a) at || is_granted (grants_in base end b) at)
      go true rest = one (nat_le grant.base at && nat_lt at (grant.base + grant.size)) (is_granted (grants_in base end (a ++ b)) at)
          (is_granted (grants_in base end a) at) (is_granted (grants_in base end b) at) rest
      go false rest = rest
  granted_on (Refused size fault ∷ a) b at = granted_on a b at
  granted_on (Released at' old_size new_size ∷ a) b at = granted_on a b at

-- ---- one of two

first_of : (a b : Bool) → IsTrue a → IsTrue (a || b)
first_of true b is = refl
first_of false b is = absurd cc

second_of : (a b : Bool) → IsTrue b → IsTrue (a || b)
second_of true b is = refl
second_of false b is = is

-- what leads to what is not so is not so
pub not_so : (a b : Bool) → (IsTrue a → IsTrue b) → b ≡ false → a ≡ false
not_so true b leads none = let is = leads refl in absurd cc
not_so false b leads none = refl

-- ---- what was granted at some moment

-- a byte that was granted at first was granted at some moment
pub ever_before : (arena : Arena) (events : List Event) (at : ℕ) → IsTrue (is_granted (regions_of arena) at) → IsTrue (is_ever_granted arena events at)
ever_before arena events at is = first_of (is_granted (regions_of arena) at) (is_granted (grants_in arena.base (end_of arena) events) at) is

-- and one that events granted
pub ever_by : (arena : Arena) (events : List Event) (at : ℕ) → IsTrue (is_granted (grants_in arena.base (end_of arena) events) at) → IsTrue (is_ever_granted arena events at)
ever_by arena events at is = second_of (is_granted (regions_of arena) at) (is_granted (grants_in arena.base (end_of arena) events) at) is

-- of two times, one after the other: a byte that was granted at some moment of one
module _ (x y : Arena) (a b : List Event) (first : IsArenaAfter x a y) (at : ℕ) where
  ever_first : IsTrue (is_ever_granted x a at) → IsTrue (is_ever_granted x (a ++ b) at)
  ever_first is = elim (or_cases (is_granted (regions_of x) at) (is_granted (grants_in x.base (end_of x) a) at) is) [
    | inl before ↦ ever_before x (a ++ b) at before
    | inr meanwhile ↦ ever_by x (a ++ b) at (granted_on x.base (end_of x) a b at
        ∙ first_of (is_granted (grants_in x.base (end_of x) a) at) (is_granted (grants_in x.base (end_of x) b) at) meanwhile)
  ]

  ever_then : IsTrue (is_ever_granted y b at) → IsTrue (is_ever_granted x (a ++ b) at)
  ever_then is = elim (or_cases (is_granted (regions_of y) at) (is_granted (grants_in y.base (end_of y) b) at) is) [
    | inl before ↦ ever_first (first.granted at before)
    | inr meanwhile ↦
        (let base : y.base ≡ x.base = first.same.base in
        let end : end_of y ≡ end_of x = ap (λ (n : ℕ). y.base + 8 * n) first.same.len ∙ ap (λ (n : ℕ). n + 8 * length x.words.now) base in
        let own : IsTrue (is_granted (grants_in x.base (end_of x) b) at) =
        subst (λ (n : ℕ). IsTrue (is_granted (grants_in x.base n b) at)) end (subst (λ (n : ℕ). IsTrue (is_granted (grants_in n (end_of y) b) at)) base meanwhile) in
        ever_by x (a ++ b) at (granted_on x.base (end_of x) a b at
        ∙ second_of (is_granted (grants_in x.base (end_of x) a) at) (is_granted (grants_in x.base (end_of x) b) at) own))
  ]

-- ---- two moments

same_none : (arena : Arena) → IsSameArena arena arena
same_none arena = record { base = refl; len = refl; table = refl }

-- an arena to which nothing was done
pub after_none : (arena : Arena) → IsArenaAfter arena [] arena
after_none arena = record { same = same_none arena; placed = tt; top = refl; peak = refl; granted = λ at is. ever_before arena [] at is; untouched = λ i never. refl }

pub after_refused : (size : ℕ) (fault : GrantFault) (arena : Arena) → IsArenaAfter arena (Refused size fault ∷ []) arena
after_refused size fault arena = record {
  same = same_none arena;
  placed = tt;
  top = refl;
  peak = refl;
  granted = λ at is. ever_before arena (Refused size fault ∷ []) at is;
  untouched = λ i never. refl;
}

-- the same if another one was granted something
pub after_other : (size : ℕ) (grant : Grant) (arena : Arena) → begins_in arena.base (end_of arena) grant ≡ false → IsArenaAfter arena (Granted size grant ∷ []) arena
after_other size grant arena apart = record {
  same = same_none arena;
  placed = (λ own. absurd cc, tt);
  top = sym (ap (λ (own : Bool). if own then grant.base + grant.size else arena.top) apart);
  peak = sym (ap (λ (own : Bool). if own then max arena.peak (grant.base + grant.size) else arena.peak) apart);
  granted = λ at is. ever_before arena (Granted size grant ∷ []) at is;
  untouched = λ i never. refl;
}

pub after_on : (x y z : Arena) (a b c : List Event) → IsArenaAfter x a y → IsArenaAfter y b z → a ++ b ≡ c → IsArenaAfter x c z
after_on x y z a b c first second are =
    let base : y.base ≡ x.base = first.same.base in
    let end : end_of y ≡ end_of x = ap (λ (n : ℕ). y.base + 8 * n) first.same.len ∙ ap (λ (n : ℕ). n + 8 * length x.words.now) base in
    record {
      same = record { base = second.same.base ∙ base; len = second.same.len ∙ first.same.len; table = second.same.table ∙ first.same.table };
      placed = subst (λ (events : List Event). AreAtTop x.base (end_of x) x.top events) are (placed_on x.base (end_of x) x.top a b first.placed
          (subst (λ (n : ℕ). AreAtTop x.base (end_of x) n b) first.top (subst (λ (n : ℕ). AreAtTop x.base n y.top b) end (subst (λ (n : ℕ). AreAtTop n (end_of y) y.top b) base second.placed))));
      top =
          second.top ∙ (ap (λ (n : ℕ). top_after n (end_of y) y.top b) base ∙ (ap (λ (n : ℕ). top_after x.base n y.top b) end
          ∙ (ap (λ (n : ℕ). top_after x.base (end_of x) n b) first.top ∙ (sym (top_on x.base (end_of x) x.top a b)
          ∙ ap (λ (events : List Event). top_after x.base (end_of x) x.top events) are))));
      peak =
          second.peak ∙ (ap (λ (n : ℕ). peak_after n (end_of y) y.peak b) base ∙ (ap (λ (n : ℕ). peak_after x.base n y.peak b) end
          ∙ (ap (λ (n : ℕ). peak_after x.base (end_of x) n b) first.peak ∙ (sym (peak_on x.base (end_of x) x.peak a b)
          ∙ ap (λ (events : List Event). peak_after x.base (end_of x) x.peak events) are))));
      granted = λ at is.
          subst (λ (events : List Event). IsTrue (is_ever_granted x events at)) are (ever_then x y a b first at (second.granted at is));
      untouched = λ i never.
          let none : is_ever_granted x (a ++ b) (x.base + 8 * i) ≡ false =
          subst (λ (events : List Event). is_ever_granted x events (x.base + 8 * i) ≡ false) (sym are) never in
          let later : is_ever_granted y b (x.base + 8 * i) ≡ false =
          not_so (is_ever_granted y b (x.base + 8 * i)) (is_ever_granted x (a ++ b) (x.base + 8 * i)) (ever_then x y a b first (x.base + 8 * i)) none in
          second.untouched i (subst (λ (n : ℕ). is_ever_granted y b (n + 8 * i) ≡ false) (sym base) later)
          ∙ first.untouched i (not_so (is_ever_granted x a (x.base + 8 * i)) (is_ever_granted x (a ++ b) (x.base + 8 * i)) (ever_first x y a b first (x.base + 8 * i)) none);
    }
