-- Counts of prefixes with no table.
use Rattle.std.proofs.Common.{◌≡◌, ℕ, zero, suc, ◌+◌, ◌-◌, ◌*◌, ◌/◌, ◌%◌, ◌^◌, ◌<◌, ◌≤◌, cond, min, List, [], ◌∷◌, ◌++◌, Option, Some, None, refl, sym, ap, ◌∙◌, arith}
use Rattle.std.specs.Prelude.{count_by, is_none, IsSome}
use Rattle.std.proofs.lemmas.Nat.{shr-shr, pow_pos, div-add-mod'}
use Rattle.std.proofs.lemmas.List.Sums.{sum_by-append}
use Rattle.std.proofs.Math.Nat.{div-eq_of_lt, div-eq_of_lt-le, mod-lt}
use Rattle.paging_core.specs.Address.{IsCanonicalRange}
use Rattle.paging_core.specs.Prefix.{Prefix, prefix_of, prefixes_from, prefixes_at, prefixes_of}
use Rattle.paging_core.specs.Walk.{Place, step, reach, next_from, top}
use Rattle.paging_core.specs.Missing.{is_missing, missing_of}
use Rattle.paging_core.specs.Tables.{missing_past}
use Rattle.paging_core.proofs.Reach.{reach_suc, reach_zero}

-- how many of `count` prefixes of a level have no table
abbrev pub absent : List ℕ → ℕ → ℕ → ℕ → ℕ → ℕ
absent words root level from count = count_by (is_missing words root) (prefixes_from level from count)

pub absent_none : (words : List ℕ) (root level from : ℕ) → absent words root level from 0 ≡ 0
unfolding prefixes_from
absent_none words root level from = refl

pub absent_suc : (words : List ℕ) (root level from count : ℕ) →
    absent words root level from (suc count) ≡ cond (is_none (reach words root level from)) 1 0 + absent words root level (from + 1) count
unfolding prefixes_from
absent_suc words root level from count =
    let f : Prefix → ℕ = λ p. cond (is_missing words root p) 1 0 in
    let one : Prefix = record { level = level; number = from } in
    let h = sum_by-append f (one ∷ []) (prefixes_from level (from + 1) count) in
    omega (arith, h)

pub absent_add : (words : List ℕ) (root level a b from : ℕ) →
    absent words root level from (a + b) ≡ absent words root level from a + absent words root level (from + a) b
absent_add words root level zero b from =
    let e : 0 + b ≡ b = omega arith in
    let f : from + 0 ≡ from = omega arith in
    rw (e, f, absent_none words root level from) (omega arith)
absent_add words root level (suc a) b from =
    let e : suc a + b ≡ suc (a + b) = omega arith in
    let f : from + suc a ≡ from + 1 + a = omega arith in
    let h = absent_add words root level a b (from + 1) in
    let x = absent_suc words root level from (a + b) in
    let y = absent_suc words root level from a in
    rw (e, f) (omega arith)

-- the prefixes of one level of the pages `first` to `last`
abbrev pub absent_for : List ℕ → ℕ → ℕ → ℕ → ℕ → ℕ
absent_for words root first last level = absent words root level (prefix_of first level) (prefix_of last level + 1 - prefix_of first level)

pub missing_by_level : (words : List ℕ) (root first more : ℕ) →
    missing_of words root first (suc more)
    ≡ absent_for words root first (first + more) 1 + absent_for words root first (first + more) 2 + absent_for words root first (first + more) 3
unfolding missing_of prefixes_of
missing_by_level words root first more =
    let f : Prefix → ℕ = λ p. cond (is_missing words root p) 1 0 in
    let a = sum_by-append f (prefixes_at first (first + more) 1) (prefixes_at first (first + more) 2 ++ prefixes_at first (first + more) 3) in
    let b = sum_by-append f (prefixes_at first (first + more) 2) (prefixes_at first (first + more) 3) in
    omega arith

-- one page misses its own three
pub missing_one : (words : List ℕ) (root page : ℕ) → missing_of words root page 1 ≡ missing_past words root page 0
missing_one words root page =
    let e : page + 0 ≡ page = omega arith in
    let h : missing_of words root page 1 ≡ absent_for words root page page 1 + absent_for words root page page 2 + absent_for words root page page 3 =
    missing_by_level words root page 0 ∙ ap (λ last. absent_for words root page last 1 + absent_for words root page last
    2 + absent_for words root page last 3) e in
    let a = one 1 in
    let b = one 2 in
    let c = one 3 in
    omega arith
  where
    one : (level : ℕ) → absent_for words root page page level ≡ cond (is_none (reach words root level (prefix_of page level))) 1 0
    one level =
        let e : prefix_of page level + 1 - prefix_of page level ≡ suc 0 = omega arith in
        let z = absent_none words root level (prefix_of page level + 1) in
        ap (absent words root level (prefix_of page level)) e ∙ (absent_suc words root level (prefix_of page level) 0 ∙ omega arith)

-- if none has a table, all are counted
pub absent_all : (words : List ℕ) (root level count from : ℕ) →
    ((n : ℕ) → from ≤ n → n < from + count → reach words root level n ≡ None) → absent words root level from count ≡ count
absent_all words root level zero from h = absent_none words root level from
absent_all words root level (suc count) from h =
    let e : reach words root level from ≡ None = h from (omega arith) (omega arith) in
    rw (absent_suc words root level from count, e) (let k = absent_all words root level count (from + 1)
    (λ n lo hi. h n (omega arith) (omega arith)) in omega arith)

-- if each has one, none is
pub absent_one_present : (words : List ℕ) (root level from : ℕ) (m : Place) → reach words root level from ≡ Some m → absent words root level from 1 ≡ 0
absent_one_present words root level from m e =
    absent_suc words root level from 0 ∙ rw (e, absent_none words root level (from + 1)) refl

-- a prefix below one that has no table has none
pub none_under : (words : List ℕ) (root level d n : ℕ) → level + d ≤ 3 → reach words root level (n / 2 ^ (9 * d)) ≡ None → reach words root (level + d) n ≡ None
none_under words root level zero n le e =
    let a : level + 0 ≡ level = omega arith in
    let b : n / 2 ^ (9 * 0) ≡ n = omega arith in
    rw (a, ← b) e
none_under words root level (suc d) n le e =
    let a : level + suc d ≡ suc (level + d) = omega arith in
    let b : n / 2 ^ 9 / 2 ^ (9 * d) ≡ n / 2 ^ (9 + 9 * d) = shr-shr n 9 (9 * d) in
    let c : 9 + 9 * d ≡ 9 * suc d = omega arith in
    let h : reach words root (level + d) (n / 512) ≡ None = none_under words root level d (n / 512) (omega arith)
    (ap (reach words root level) (b ∙ ap (λ k. n / 2 ^ k) c) ∙ e) in
    rw (a, reach_suc words root (level + d) n (omega arith), h) refl

-- the prefix one level on, in the walk along a prefix of `level` indices
pub ancestor : (n level met : ℕ) → met < level → n / 2 ^ (9 * (level - (met + 1))) / 512 ≡ n / 2 ^ (9 * (level - met))
ancestor n level met lt =
    let e : 9 * (level - (met + 1)) + 9 ≡ 9 * (level - met) = omega arith in
    shr-shr n (9 * (level - (met + 1))) 9 ∙ ap (λ k. n / 2 ^ k) e

reach_one : (words : List ℕ) (root level n : ℕ) → level < 3 → reach words root (level + 1) n ≡ next_from words level
    (reach words root level (n / 512)) (n % 512)
reach_one words root level n lt = let s : level + 1 ≡ suc level = omega arith in ap (λ k. reach words root k n) s ∙ reach_suc words root level n lt

pub reach_on : (words : List ℕ) (root n level met : ℕ) (at : Place) → level < 4 → met < level →
    reach words root met (n / 2 ^ (9 * (level - met))) ≡ Some at →
    reach words root (met + 1) (n / 2 ^ (9 * (level - (met + 1)))) ≡ step words met at (n / 2 ^ (9 * (level - (met + 1))) % 512)
reach_on words root n level met at low lt e =
    let a = ancestor n level met lt in
    reach_one words root met (n / 2 ^ (9 * (level - (met + 1)))) (omega arith)
    ∙ (ap (λ k. next_from words met (reach words root met k) (n / 2 ^ (9 * (level - (met + 1))) % 512)) a
    ∙ ap (λ o. next_from words met o (n / 2 ^ (9 * (level - (met + 1))) % 512)) e)

pub reach_first : (words : List ℕ) (root n level : ℕ) → n < 2 ^ (9 * level) → reach words root 0 (n / 2 ^ (9 * (level - 0))) ≡ Some (top root)
reach_first words root n level lt =
    let z : level - 0 ≡ level = omega arith in
    let q : n / 2 ^ (9 * level) ≡ 0 = div-eq_of_lt lt in
    rw (z, q, reach_zero) refl

same_block : (from n k : ℕ) → 0 < k → from ≤ n → n < from - from % k + k → n / k ≡ from / k
same_block from n k pos lo hi =
    let d : from / k * k + from % k ≡ from = div-add-mod' from k in
    let e : (from / k + 1) * k ≡ from / k * k + k = grind arith in
    div-eq_of_lt-le k (omega arith) (omega arith)

-- one missing table leaves the whole block below it with none
pub absent_block : (words : List ℕ) (root level met from end : ℕ) → level < 4 → met < level →
    reach words root (met + 1) (from / 2 ^ (9 * (level - (met + 1)))) ≡ None → from ≤ end →
    end ≤ from - from % 2 ^ (9 * (level - (met + 1))) + 2 ^ (9 * (level - (met + 1))) →
    absent words root level from (end - from) ≡ end - from
absent_block words root level met from end low lt e lo hi =
    absent_all words root level (end - from) from
    (λ n from_n n_to.
    let b : n / 2 ^ (9 * (level - (met + 1))) ≡ from / 2 ^ (9 * (level - (met + 1))) =
    same_block from n (2 ^ (9 * (level - (met + 1)))) (pow_pos (9 * (level - (met + 1)))) from_n (omega arith) in
    let d : (met + 1) + (level - (met + 1)) ≡ level = omega arith in
    let u = none_under words root (met + 1) (level - (met + 1)) n (omega arith) (ap (reach words root (met + 1)) b ∙ e) in
    rw d at u)

pub absent_on : (words : List ℕ) (root level first from end : ℕ) → first ≤ from → from ≤ end →
    absent words root level first (end - first) ≡ absent words root level first (from - first) + absent words root level from (end - from)
absent_on words root level first from end lo hi =
    let a : end - first ≡ (from - first) + (end - from) = omega arith in
    let b : first + (from - first) ≡ from = omega arith in
    ap (absent words root level first) a
    ∙ (absent_add words root level (from - first) (end - from) first
    ∙ ap (λ k. absent words root level first (from - first) + absent words root level k (end - from)) b)

pub absent_one_here : (words : List ℕ) (root level from : ℕ) → IsSome (reach words root level from) → absent words root level from 1 ≡ 0
absent_one_here words root level from h = go (reach words root level from) refl h
  where
    go : (o : Option Place) → reach words root level from ≡ o → IsSome o → absent words root level from 1 ≡ 0
    go None e h = absurd (cc)
    go (Some m) e h = absent_one_present words root level from m e

pub run_end : (from last k k' end : ℕ) → k' ≡ k → 0 < k → from ≤ last → end ≡ min (from - from % k' + k') (last + 1) →
    (from ≤ end) × (end ≤ from - from % k + k)
run_end from last k k' end e pos le is =
    let is' : end ≡ min (from - from % k + k) (last + 1) = rw (← e) is in
    let d : from % k < k = mod-lt from pos in
    (omega arith, omega arith)

-- the last page of a range that lies in one canonical half, without the bits above its indices
pub last_index : (first more : ℕ) → IsCanonicalRange first (suc more) → (first + more) % 2 ^ 36 ≡ first % 2 ^ 36 + more
last_index first more range = let h : (first + suc more - 1) / 2 ^ 35 ≡ first / 2 ^ 35 = range.one_half in omega arith

-- the tables that a range misses, level by level, as the code counts them
pub missing_levels : (words : List ℕ) (root first pages at last : ℕ) → IsCanonicalRange first pages → at ≡ first % 2 ^ 36 → last ≡ at + pages - 1 →
    absent words root 1 (at / 2 ^ 27) (last / 2 ^ 27 + 1 - at / 2 ^ 27) + absent words root 2 (at / 2 ^ 18) (last / 2 ^ 18 + 1 - at / 2 ^ 18)
    + absent words root 3 (at / 2 ^ 9) (last / 2 ^ 9 + 1 - at / 2 ^ 9) ≡ missing_of words root first pages
missing_levels words root first zero at last range here end = absurd (let h : 0 < 0 = range.some in omega arith)
missing_levels words root first (suc more) at last range here end =
    let e : last ≡ (first + more) % 2 ^ 36 = let h = last_index first more range in omega arith in
    rw (e, here) (let h = missing_by_level words root first more in sym h)
