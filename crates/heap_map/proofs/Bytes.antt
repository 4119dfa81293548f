-- The bytes of a class are among all bytes.
use Rattle.std.proofs.Common.{◌≡◌, ◌≤◌, ℕ, ◌+◌, Bool, true, false, List, [], ◌∷◌, refl, arith}
use Rattle.std.specs.Prelude.{if◌then◌else◌}
use Rattle.std.proofs.lemmas.List.Sums.{sum_by-cons}
use Rattle.dlmalloc_chunks.specs.declared.extent.Extent.{Extent}
use Rattle.dlmalloc_chunks.specs.declared.extent.Kind.{Kind}
use Rattle.dlmalloc_chunks.specs.declared.extent.Kind.TheVariants.{Used, Free, Victim, Top, Record, Foot}
use Rattle.run_figures.specs.Figures.{is_part}
use Rattle.run_figures.specs.declared.counting.Part.{Part}
use Rattle.run_figures.specs.declared.counting.Part.TheVariants.{Used as InUse, Free as Unused, Overhead}
use Rattle.heap_map.specs.declared.classes.Class.{Class}
use Rattle.heap_map.specs.Classes.{is_of_class, bytes_in}
use Rattle.heap_map.specs.Totals.{total_of}

at_most : (b : Bool) (size : ℕ) → (if b then size else 0) ≤ size
at_most true size = omega arith
at_most false size = omega arith

one_least : (class : Class) (kind : Kind) (size : ℕ) → (if is_of_class class kind then size else 0) ≤ (if is_part InUse kind
    then size else 0) + ((if is_part Unused kind then size else 0) + (if is_part Overhead kind then size else 0))
one_least class Used size = let m = at_most (is_of_class class Used) size in omega (arith, m)
one_least class Free size = let m = at_most (is_of_class class Free) size in omega (arith, m)
one_least class Victim size = let m = at_most (is_of_class class Victim) size in omega (arith, m)
one_least class Top size = let m = at_most (is_of_class class Top) size in omega (arith, m)
one_least class Record size = let m = at_most (is_of_class class Record) size in omega (arith, m)
one_least class Foot size = let m = at_most (is_of_class class Foot) size in omega (arith, m)

pub bytes_least : (class : Class) (es : List Extent) → bytes_in class es ≤ total_of es
bytes_least class [] = omega arith
bytes_least class (e ∷ es) =
    let more = bytes_least class es in
    let one = one_least class e.kind e.size in
    let a = sum_by-cons (λ (e : Extent). if is_of_class class e.kind then e.size else 0) e es in
    let b = sum_by-cons (λ (e : Extent). if is_part InUse e.kind then e.size else 0) e es in
    let c = sum_by-cons (λ (e : Extent). if is_part Unused e.kind then e.size else 0) e es in
    let d = sum_by-cons (λ (e : Extent). if is_part Overhead e.kind then e.size else 0) e es in
    omega (arith, more, one, a, b, c, d)
