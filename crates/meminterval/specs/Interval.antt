-- Half open intervals over any order of their ends.
use Rattle.std.specs.Prelude.{◌≡◌, ℕ, Bool, cond, not, Option, Some, None, List, ◌++◌, codes, refl}
use Rattle.std.specs.Coded.{Coded, code_by, coded×}
use Rattle.std.specs.Option.{option_map, option_and_then}
use Rattle.std.specs.declared.clone.Clone.{Ghosts as Clone}
use Rattle.std.specs.declared.cmp.Ordering.{Ordering}
use Rattle.std.specs.declared.cmp.Ordering.TheVariants.{Equal}
use Rattle.std.specs.Ordering.{is_eq, is_lt, ordering_then, ord_max, ord_min}
use Rattle.meminterval.specs.declared.interval.Interval.{Interval}

-- if a clone is made, it is the value itself
abbrev pub ClonesEqual : {V : Type 0} → (V → V → Type 0) → Type 0
ClonesEqual {V} is_clone = (x y : V) → is_clone x y → y ≡ x

-- a clone is the value itself, and is always made
pub record ClonesItself {T : Type 0} (clone : Clone T) : Type 0 where
  pub same : (x y : T) → clone.is_clone x y → y ≡ x
  pub always : (x : T) → clone.is_infallible x

-- the code of an interval is that of its start and its end
abbrev pub interval_code : {T : Type 0} → Coded T → Coded (Interval T)
interval_code {T} c = code_by (T × T) (coded× c c) (λ i. (i.start, i.end)) (λ p. record { start = p.0; end = p.1 }) (λ _. refl)

module _ {T : Type 0} (cmp : T → T → Ordering) where
  -- by start, and then by end
  abbrev pub by_ends : Interval T → Interval T → Ordering
  by_ends a b = ordering_then (cmp a.start b.start) (cmp a.end b.end)

  -- the start is below the end
  abbrev pub has_items : Interval T → Bool
  has_items i = is_lt (cmp i.start i.end)

  -- from the greater start to the lesser end
  abbrev pub common : Interval T → Interval T → Interval T
  common a b = record { start = ord_max cmp a.start b.start; end = ord_min cmp a.end b.end }

  -- the common part has items
  abbrev pub overlaps : Interval T → Interval T → Bool
  overlaps a b = has_items (common a b)

  -- the common part, if it has items
  abbrev pub intersection : Interval T → Interval T → Option (Interval T)
  intersection a b = cond (overlaps a b) (Some (common a b)) None

-- the texts of the two ends with two dots in between, if both have one
abbrev pub interval_text : {T : Type 0} → (T → Option (List ℕ)) → Interval T → Option (List ℕ)
interval_text text i = option_and_then (λ start. option_map (λ end. start ++ (codes ".." ++ end)) (text i.end)) (text i.start)

module _ {T V : Type 0} (cmp : T → T → Ordering) (key : T) where
  -- the start of a pair's interval is below a key
  abbrev pub starts_below : Interval T × V → Bool
  starts_below e = is_lt (cmp e.0.start key)

  -- the start is at least the key
  abbrev pub starts_from : Interval T × V → Bool
  starts_from e = not (starts_below e)

module _ {T V : Type 0} (cmp : T → T → Ordering) where
  -- the pair with another end, if its interval is i
  abbrev pub with_end : Interval T → T → Interval T × V → Interval T × V
  with_end i end e = cond (is_eq (by_ends cmp i e.0)) (record { start = e.0.start; end = end }, e.1) e

  -- a pair with the start of i has its end too
  abbrev pub HasOwnStart : Interval T → Interval T × V → Type 0
  HasOwnStart i e = cmp i.start e.0.start ≡ Equal → by_ends cmp i e.0 ≡ Equal
