-- Indexes of which the chunks of a size change, without another size, and from a size on.
use Rattle.std.proofs.Common.{◌≡◌, ◌≢◌, ℕ, ◌<◌, ◌≤◌, ◌==◌, nat_lt, if◌then◌else◌, Bool, true, false, List, [], refl, arith}
use Rattle.std.proofs.lemmas.Bool.Decides.{nat_tests}
use Rattle.bins.specs.Index.{without_size, from}

abbrev pub changed : (List ℕ → List ℕ) → ℕ → (ℕ → List ℕ) → ℕ → List ℕ
changed change size index n = if n == size then change (index n) else index n

-- two tests that do not hold at once, of which one leaves nothing
in_either_order : (change : List ℕ → List ℕ) (chunks : List ℕ) (a b : Bool) → (a ≡ true → b ≡ true → ⊥) →
    (if a then [] else if b then change chunks else chunks) ≡ (if b then change (if a then [] else chunks) else if a then [] else chunks)
in_either_order change chunks true true not = absurd (not refl refl)
in_either_order change chunks true false not = refl
in_either_order change chunks false b not = refl

-- a change where nothing is left
not_seen : (change : List ℕ → List ℕ) (chunks : List ℕ) (a b : Bool) → (b ≡ true → a ≡ true) →
    (if a then [] else if b then change chunks else chunks) ≡ (if a then [] else chunks)
not_seen change chunks true b gone = refl
not_seen change chunks false false gone = refl
not_seen change chunks false true gone = absurd (let e = gone refl in cc)

pub without_changed : (change : List ℕ → List ℕ) (s size : ℕ) (index : ℕ → List ℕ) (m : ℕ) → s ≢ size →
    without_size s (changed change size index) m ≡ changed change size (without_size s index) m
without_changed change s size index m apart = in_either_order change (index m) (m == s) (m == size) (λ is_s is_size. apart (grind (arith, nat_tests)))

pub without_unchanged : (change : List ℕ → List ℕ) (s size : ℕ) (index : ℕ → List ℕ) (m : ℕ) → (m ≡ size → m ≡ s) →
    without_size s (changed change size index) m ≡ without_size s index m
without_unchanged change s size index m gone = not_seen change (index m) (m == s) (m == size) (λ is_size.
    let is : m ≡ size = grind (arith, nat_tests) in
    let same : m ≡ s = gone is in
    grind (arith, nat_tests))

pub from_changed : (change : List ℕ → List ℕ) (least size : ℕ) (index : ℕ → List ℕ) (m : ℕ) → least ≤ size →
    from least (changed change size index) m ≡ changed change size (from least index) m
from_changed change least size index m reached = in_either_order change (index m) (nat_lt m least) (m == size) (λ less is_size.
    let is : m ≡ size = grind (arith, nat_tests) in
    let below : m < least = grind (arith, nat_tests) in
    omega arith)

pub from_unchanged : (change : List ℕ → List ℕ) (least size : ℕ) (index : ℕ → List ℕ) (m : ℕ) → size < least →
    from least (changed change size index) m ≡ from least index m
from_unchanged change least size index m below = not_seen change (index m) (nat_lt m least) (m == size) (λ is_size.
    let is : m ≡ size = grind (arith, nat_tests) in
    let less : m < least = omega arith in
    grind (arith, nat_tests))
