-- If tables stay, no more are missing.
use Rattle.std.proofs.Common.{◌≡◌, ℕ, zero, suc, ◌+◌, ◌-◌, ◌≤◌, cond, List, Option, Some, None, refl, arith}
use Rattle.std.specs.Prelude.{is_none}
use Rattle.paging_core.specs.Prefix.{prefix_of}
use Rattle.paging_core.specs.Walk.{Place, reach}
use Rattle.paging_core.specs.Missing.{missing_of}
use Rattle.paging_core.proofs.Counts.{absent, absent_none, absent_suc, missing_by_level}
use Rattle.paging_core.proofs.Ranges.{missing_none}

module _ (old new : List ℕ) (root : ℕ) (stayed : (l n : ℕ) (met : Place) → l ≤ 4 → reach old root l n ≡ Some met → reach new root l n ≡ Some met) where
  none_fewer : (was now : Option Place) → ((met : Place) → was ≡ Some met → now ≡ Some met) → cond (is_none now) 1 0 ≤ cond (is_none was) 1 0
  none_fewer (Some met) now stay = let e = stay met refl in rw e (omega arith)
  none_fewer None (Some met) stay = omega arith
  none_fewer None None stay = omega arith

  absent_fewer : (level count from : ℕ) → level ≤ 4 → absent new root level from count ≤ absent old root level from count
  absent_fewer level zero from low = let a = absent_none new root level from in let b = absent_none old root level from in omega arith
  absent_fewer level (suc count) from low =
      let a = absent_suc new root level from count in
      let b = absent_suc old root level from count in
      let later = absent_fewer level count (from + 1) low in
      let here = none_fewer (reach old root level from) (reach new root level from) (λ met is. stayed level from met low is) in
      omega arith

  pub missing_fewer : (first pages : ℕ) → missing_of new root first pages ≤ missing_of old root first pages
  missing_fewer first zero = let a = missing_none new root first in let b = missing_none old root first in omega arith
  missing_fewer first (suc more) =
      let a = missing_by_level new root first more in
      let b = missing_by_level old root first more in
      let one = absent_fewer 1 (prefix_of (first + more) 1 + 1 - prefix_of first 1) (prefix_of first 1) (omega arith) in
      let two = absent_fewer 2 (prefix_of (first + more) 2 + 1 - prefix_of first 2) (prefix_of first 2) (omega arith) in
      let three = absent_fewer 3 (prefix_of (first + more) 3 + 1 - prefix_of first 3) (prefix_of first 3) (omega arith) in
      omega arith
