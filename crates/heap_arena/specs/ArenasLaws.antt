-- Grants of several arenas, the order of the arenas, and two times of them, one after the other.
use Rattle.std.specs.Prelude.{◌≡◌, ℕ, ◌+◌, ◌^◌, ◌≤◌, nat_le, List, [], ◌∷◌, ◌++◌, IsTrue}
use Rattle.std.specs.List.{list_all}
use Rattle.std.proofs.Common.{refl, arith}
use Rattle.std.proofs.lemmas.Bool.Decides.{nat_tests}
use Rattle.heap_memory.specs.declared.grant.Grant.{Grant}
use Rattle.heap_memory.specs.declared.grant.GrantFault.{GrantFault}
use Rattle.heap_memory.specs.Events.{Event, Refused}
use Rattle.heap_memory.specs.Regions.{are_whole, are_ordered}
use Rattle.heap_arena.specs.Grants.{are_between}
use Rattle.heap_arena.specs.Arena.{regions_of, end_of}
use Rattle.heap_arena.specs.Arenas.{are_in_order, regions_of_all, AreAfter}
use Rattle.heap_arena.specs.declared.arena.Arena.{Arena}
use Rattle.heap_arena.specs.ArenaLaws.{after_none, after_refused, after_on}

-- ---- grants, and others after them

pub whole_append : (xs ys : List Grant) → IsTrue (are_whole xs) → IsTrue (are_whole ys) → IsTrue (are_whole (xs ++ ys))
whole_append [] ys front rest = rest
whole_append (x ∷ xs) ys front rest = grind (arith, whole_append xs ys)

pub between_append : (low high : ℕ) (xs ys : List Grant) → IsTrue (are_between low high xs) → IsTrue (are_between low high ys) → IsTrue (are_between low high (xs ++ ys))
between_append low high [] ys front rest = rest
between_append low high (x ∷ xs) ys front rest = grind (arith, between_append low high xs ys)

pub between_wider : (low high low' high' : ℕ) (xs : List Grant) → low' ≤ low → high ≤ high' → IsTrue (are_between low high xs) → IsTrue (are_between low' high' xs)
between_wider low high low' high' [] less more between = refl
between_wider low high low' high' (x ∷ xs) less more between = grind (arith, nat_tests, between_wider low high low' high' xs)

later : (end mid high : ℕ) (ys : List Grant) → end ≤ mid → IsTrue (are_between mid high ys) → IsTrue (list_all (λ (later : Grant). nat_le end later.base) ys)
later end mid high [] before between = refl
later end mid high (y ∷ ys) before between = grind (arith, nat_tests, later end mid high ys)

later_append : (end : ℕ) (xs ys : List Grant) → IsTrue (list_all (λ (later : Grant). nat_le end later.base) xs) → IsTrue (list_all (λ (later : Grant). nat_le end later.base) ys) → IsTrue (list_all (λ (later : Grant). nat_le end later.base) (xs ++ ys))
later_append end [] ys front rest = rest
later_append end (x ∷ xs) ys front rest = grind (arith, later_append end xs ys)

pub ordered_append : (low mid high : ℕ) (xs ys : List Grant) → IsTrue (are_between low mid xs) → IsTrue (are_between mid high ys) → IsTrue (are_ordered xs) → IsTrue (are_ordered ys) → IsTrue (are_ordered (xs ++ ys))
ordered_append low mid high [] ys front rest first second = second
ordered_append low mid high (x ∷ xs) ys front rest first second =
    grind (arith, nat_tests, ordered_append low mid high xs ys, later_append (x.base + x.size) xs ys, later (x.base + x.size) mid high ys)

-- ---- arenas by ascending address

-- the grants of an arena stand among its words
pub inside : (arena : Arena) → IsTrue (are_between arena.base (end_of arena) (regions_of arena))
inside arena = let risen = arena.risen in let ends = arena.ends in between_wider arena.base arena.top arena.base (end_of arena) (regions_of arena) (omega arith) (omega (arith, risen, ends)) arena.between

-- the grants of arenas that begin after an address
pub behind : (end : ℕ) (arenas : List Arena) → IsTrue (list_all (λ (later : Arena). nat_le end later.base) arenas) → IsTrue (are_between end (2 ^ 64) (regions_of_all arenas))
behind end [] are = refl
behind end (arena ∷ arenas) are =
    let high = arena.high in
    between_append end (2 ^ 64) (regions_of arena) (regions_of_all arenas)
    (between_wider arena.base (end_of arena) end (2 ^ 64) (regions_of arena) (grind (arith, nat_tests)) (omega (arith, high)) (inside arena))
    (behind end arenas (grind (arith, nat_tests)))

pub all_whole : (arenas : List Arena) → IsTrue (are_whole (regions_of_all arenas))
all_whole [] = refl
all_whole (arena ∷ arenas) = whole_append (regions_of arena) (regions_of_all arenas) arena.whole (all_whole arenas)

-- of arenas in order, what is said of the first and the others
module _ (arena : Arena) (arenas : List Arena) (order : IsTrue (are_in_order (arena ∷ arenas))) where
  pub order_rest : IsTrue (are_in_order arenas)
  order_rest = grind (arith, nat_tests)

  pub rest_behind : IsTrue (are_between (end_of arena) (2 ^ 64) (regions_of_all arenas))
  rest_behind = behind (end_of arena) arenas (grind (arith, nat_tests))

pub all_ordered : (arenas : List Arena) → IsTrue (are_in_order arenas) → IsTrue (are_ordered (regions_of_all arenas))
all_ordered [] order = refl
all_ordered (arena ∷ arenas) order =
    ordered_append arena.base (end_of arena) (2 ^ 64) (regions_of arena) (regions_of_all arenas) (inside arena) (rest_behind arena arenas order) arena.ordered (all_ordered arenas (order_rest arena arenas order))

-- ---- two times

pub all_after_none : (arenas : List Arena) → AreAfter arenas [] arenas
all_after_none [] = tt
all_after_none (arena ∷ arenas) = (after_none arena, all_after_none arenas)

pub all_after_refused : (size : ℕ) (fault : GrantFault) (arenas : List Arena) → AreAfter arenas (Refused size fault ∷ []) arenas
all_after_refused size fault [] = tt
all_after_refused size fault (arena ∷ arenas) = (after_refused size fault arena, all_after_refused size fault arenas)

pub all_after_on : (x y z : List Arena) (a b c : List Event) → AreAfter x a y → AreAfter y b z → a ++ b ≡ c → AreAfter x c z
all_after_on [] [] [] a b c first second are = tt
all_after_on [] [] (z ∷ zs) a b c first second are = elim second [ ]
all_after_on [] (y ∷ ys) zs a b c first second are = elim first [ ]
all_after_on (x ∷ xs) [] zs a b c first second are = elim first [ ]
all_after_on (x ∷ xs) (y ∷ ys) [] a b c first second are = elim second [ ]
all_after_on (x ∷ xs) (y ∷ ys) (z ∷ zs) a b c first second are = (after_on x y z a b c first.0 second.0 are, all_after_on xs ys zs a b c first.1 second.1 are)
