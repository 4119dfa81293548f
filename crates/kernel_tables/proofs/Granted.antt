-- What is given to the entries of mapped pages.
use Rattle.std.proofs.Common.{◌≡◌, ◌∙◌, Option, Some, refl, sym}
use Rattle.paging_core.specs.Walk.{Place}
use Rattle.kernel_tables.specs.Grants.{given_by}
use Rattle.kernel_tables.specs.declared.grants.Grant.{Grant}
use Rattle.kernel_tables.specs.declared.grants.Grant.TheVariants.{All, Only}
use Rattle.kernel_tables.proofs.RangeChanged.{AreAlike}

-- a large page and each of its pages are given the same bits
pub alike_of : (grant : Grant) → AreAlike (given_by grant)
alike_of (All bits) = λ large k. refl
alike_of (Only rights) = λ large k. refl

-- one place that is found
pub one_place : {o : Option Place} {a b : Place} → o ≡ Some a → o ≡ Some b → a ≡ b
one_place {o} {a} {b} x y = let e : ◌≡◌ {A = Option Place} (Some a) (Some b) = sym x ∙ y in cc
