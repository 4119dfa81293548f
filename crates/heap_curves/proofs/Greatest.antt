-- The greatest of the first moments is that of the first ones and the next ones.
use Rattle.std.proofs.Common.{◌≡◌, ◌≤◌, ℕ, zero, suc, ◌+◌, ◌-◌, max, List, [], ◌∷◌, take, drop, refl, sym, ◌∙◌, ap, arith}
use Rattle.heap_history.specs.declared.history.Moment.{Moment}
use Rattle.heap_curves.specs.declared.columns.Counted.{Counted}
use Rattle.heap_curves.specs.Columns.{bytes_counted, greatest}

none_taken : (counted : Counted) (n : ℕ) → greatest counted (take n []) ≡ 0
none_taken counted zero = refl
none_taken counted (suc n) = refl

after_none : (d : ℕ) → 0 + d ≡ d
after_none d = omega arith

after_one : (s d : ℕ) → suc s + d ≡ suc (s + d)
after_one s d = omega arith

beside_none : (n : ℕ) → n ≡ max n 0
beside_none n = omega arith

turned : (a b x y : ℕ) → b ≡ max x y → max a b ≡ max x (max a y)
turned a b x y is = omega (arith, is)

split : (counted : Counted) (moments : List Moment) (s d : ℕ) → greatest counted (take (s + d) moments) ≡ max
    (greatest counted (take d (drop s moments))) (greatest counted (take s moments))
split counted moments zero d = ap (λ (n : ℕ). greatest counted (take n moments)) (after_none d) ∙ beside_none (greatest counted (take d moments))
split counted [] (suc s) d = none_taken counted (suc s + d) ∙ sym (ap (λ (n : ℕ). max n 0) (none_taken counted d))
split counted (m ∷ ms) (suc s) d =
    ap (λ (n : ℕ). greatest counted (take n (m ∷ ms))) (after_one s d)
    ∙ turned (bytes_counted counted m) (greatest counted (take (s + d) ms)) (greatest counted (take d (drop s ms)))
    (greatest counted (take s ms)) (split counted ms s d)

pub greatest_split : (counted : Counted) (moments : List Moment) (s e : ℕ) → s ≤ e →
    greatest counted (take e moments) ≡ max (greatest counted (take (e - s) (drop s moments)))
    (greatest counted (take s moments))
greatest_split counted moments s e up =
    let sum : e ≡ s + (e - s) = omega (arith, up) in
    ap (λ (n : ℕ). greatest counted (take n moments)) sum ∙ split counted moments s (e - s)
