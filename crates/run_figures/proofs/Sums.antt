-- Numbers, bytes and the greatest, over the first extents of a list.
use Rattle.std.proofs.Common.{◌≡◌, ℕ, zero, suc, ◌+◌, ◌<◌, ◌≤◌, List, [], ◌∷◌, length, take, get_or, Bool, true, false, refl, arith, max, add-one, subst, sym}
use Rattle.std.proofs.lemmas.List.Sums.{sum_by-cons, sum_by_more, count_by_more_yes, count_by_more_no}
use Rattle.std.specs.Prelude.{if◌then◌else◌}
use Rattle.std.specs.List.{count_by}
use Rattle.dlmalloc_chunks.specs.declared.extent.Extent.{Extent}
use Rattle.run_figures.specs.declared.counting.Part.{Part}
use Rattle.run_figures.specs.declared.counting.Part.TheVariants.{Free}
use Rattle.run_figures.specs.Figures.{is_part, part_count, part_bytes, greatest_of}

pub count_more : {X : Type 0} (p : X → Bool) (xs : List X) (i : ℕ) (d : X) → i < length xs →
    count_by p (take (i + 1) xs) ≡ count_by p (take i xs) + (if p (get_or xs i d) then 1 else 0)
count_more p xs i d within = go (p (get_or xs i d)) refl
  where
    go : (b : Bool) → p (get_or xs i d) ≡ b → count_by p (take (i + 1) xs) ≡ count_by p (take i xs) + (if b then 1 else 0)
    go true in_it = count_by_more_yes p xs i d within in_it
    go false out = let same = count_by_more_no p xs i d within out in omega (arith, same)

-- one extent more
pub number_step : (part : Part) (extents : List Extent) (i : ℕ) (d : Extent) (number n : ℕ) → i < length extents →
    number ≡ part_count part (take i extents) → n ≡ (if is_part part (get_or extents i d).kind then 1 else 0) →
    number + n ≡ part_count part (take (i + 1) extents)
number_step part extents i d number n within so_far one = let more = count_more (λ (e : Extent). is_part part e.kind)
    extents i d within in omega (arith, more, so_far, one)

pub bytes_step : (part : Part) (extents : List Extent) (i : ℕ) (d : Extent) (bytes n : ℕ) → i < length extents →
    bytes ≡ part_bytes part (take i extents) → n ≡ (if is_part part (get_or extents i d).kind then (get_or extents i d).size
    else 0) → bytes + n ≡ part_bytes part (take (i + 1) extents)
bytes_step part extents i d bytes n within so_far one = let more = sum_by_more
    (λ (e : Extent). if is_part part e.kind then e.size else 0) extents i d within in omega (arith, more, so_far, one)

pub one_at_most : (b : Bool) (n : ℕ) → n ≡ (if b then 1 else 0) → n ≤ 1
one_at_most true n is = omega (arith, is)
one_at_most false n is = omega (arith, is)

pub size_at_most : (b : Bool) (size n : ℕ) → n ≡ (if b then size else 0) → n ≤ size
size_at_most true size n is = omega (arith, is)
size_at_most false size n is = omega (arith, is)

greatest_suc : (extents : List Extent) (i : ℕ) (d : Extent) → i < length extents →
    greatest_of (take (suc i) extents) ≡ max (greatest_of (take i extents))
    (if is_part Free (get_or extents i d).kind then (get_or extents i d).size else 0)
greatest_suc [] i d within = absurd (omega (arith, within))
greatest_suc (e ∷ es) zero d within = omega arith
greatest_suc (e ∷ es) (suc i) d within = let more = greatest_suc es i d (omega (arith, within)) in omega (arith, more)

pub greatest_more : (extents : List Extent) (i : ℕ) (d : Extent) → i < length extents →
    greatest_of (take (i + 1) extents) ≡ max (greatest_of (take i extents))
    (if is_part Free (get_or extents i d).kind then (get_or extents i d).size else 0)
greatest_more extents i d within =
    subst (λ (j : ℕ). greatest_of (take j extents) ≡ max (greatest_of (take i extents))
    (if is_part Free (get_or extents i d).kind then (get_or extents i d).size else 0)) (sym (add-one i))
    (greatest_suc extents i d within)

-- the greatest is one of the free ones
pub greatest_within : (extents : List Extent) → greatest_of extents ≤ part_bytes Free extents
greatest_within [] = omega arith
greatest_within (e ∷ es) =
    let more = greatest_within es in
    let sum = sum_by-cons (λ (e : Extent). if is_part Free e.kind then e.size else 0) e es in
    omega (arith, more, sum)
