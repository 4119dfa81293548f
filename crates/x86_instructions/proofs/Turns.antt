-- The turns of a range, one after the other, and how many they are.
use Rattle.std.proofs.Common.{◌≡◌, ℕ, zero, suc, ◌+◌, ◌-◌, ◌/◌, ◌%◌, ◌<◌, ◌≤◌, min, max, [], ◌∷◌, length, refl, ap, sym, ◌∙◌, arith}
use native.Mathlib.Decide.{dec_lt}
use Rattle.std.specs.Prelude.{map}
use Rattle.std.specs.Int.{div_ceil}
use Rattle.std.proofs.Math.Nat.{add-div_right, div-eq_of_lt, mod-eq_of_lt, add-mod_right}
use Rattle.std.proofs.Math.Logic.{⊎_elim}
use Rattle.std.proofs.lemmas.Bool.{cases_lt}
use Rattle.std.proofs.lemmas.List.{length-map}
use Rattle.paging_core.specs.Steps.{half_pages, page_at, position}
use Rattle.x86_instructions.proofs.Places.{before, not_before}
use Rattle.x86_instructions.specs.Turns.{Turn, greatest_count, turns_within, turns}
use Rattle.x86_instructions.specs.declared.tlb.FlushCommand.{FlushCommand}
use Rattle.x86_instructions.specs.Invlpgb.{Flush, turn_command, turn_commands}

module _ (size count_max : ℕ) where
  pub greatest-low : (from to : ℕ) → from < half_pages size →
      greatest_count size count_max from to ≡ min (to - from) (min (half_pages size - from) (min 65535 count_max))
  greatest-low from to low = rw (before from (half_pages size) low) refl

  pub greatest-high : (from to : ℕ) → half_pages size ≤ from →
      greatest_count size count_max from to ≡ min (to - from) (min (to - from) (min 65535 count_max))
  greatest-high from to high = rw (not_before from (half_pages size) high) refl

  pub greatest-le : (from to : ℕ) → greatest_count size count_max from to ≤ to - from
  greatest-le from to = omega arith

  -- the place after a turn, and the turn at a place
  abbrev pub after : ℕ → ℕ → ℕ
  after from to = from + max 1 (greatest_count size count_max from to)

  abbrev pub turn_at : ℕ → ℕ → Turn
  turn_at from to = record { page = page_at size from; count = greatest_count size count_max from to }

  pub turns_within-next : (pages from to : ℕ) → from < to →
      turns_within (suc pages) size count_max from to ≡ turn_at from to ∷ turns_within pages size count_max (after from to) to
  unfolding turns_within
  turns_within-next pages from to lt = rw (before from to lt) refl

  pub turns_within-end : (pages from to : ℕ) → to ≤ from → turns_within pages size count_max from to ≡ []
  unfolding turns_within
  turns_within-end zero from to le = refl
  turns_within-end (suc pages) from to le = rw (not_before from to le) refl

  -- more than the pages left gives no other turns
  enough : (pages more from to : ℕ) → to - from ≤ pages → to - from ≤ more →
      turns_within pages size count_max from to ≡ turns_within more size count_max from to
  enough zero more from to p q = turns_within-end zero from to (omega arith) ∙ sym (turns_within-end more from to (omega arith))
  enough (suc pages) zero from to p q = turns_within-end (suc pages) from to (omega arith) ∙ sym (turns_within-end zero from to (omega arith))
  enough (suc pages) (suc more) from to p q = elim (dec_lt from to) [
    | yes lt ↦
        turns_within-next pages from to lt
        ∙ (ap (λ rest. turn_at from to ∷ rest) (enough pages more (after from to) to (omega arith) (omega arith))
        ∙ sym (turns_within-next more from to lt))
    | no ge ↦ turns_within-end (suc pages) from to (omega arith) ∙ sym (turns_within-end (suc more) from to (omega arith))
  ]

  pub turns-end : (from to : ℕ) → to ≤ from → turns size count_max from to ≡ []
  turns-end from to le = turns_within-end (to - from) from to le

  pub turns-next : (from to : ℕ) → from < to → turns size count_max from to ≡ turn_at from to ∷ turns size count_max (after from to) to
  turns-next from to lt =
      enough (to - from) (suc (to - from)) from to (omega arith) (omega arith)
      ∙ (turns_within-next (to - from) from to lt
      ∙ ap (λ rest. turn_at from to ∷ rest) (enough (to - from) (to - after from to) (after from to) to (omega arith) (omega arith)))

-- the quotient rounded up, when a whole divisor or the rest is taken
div_ceil-none : (s : ℕ) → 0 < s → div_ceil 0 s ≡ 0
div_ceil-none s pos = omega (arith, div-eq_of_lt pos, mod-eq_of_lt pos)

div_ceil-step : (n s : ℕ) → 0 < n → 0 < s → div_ceil n s ≡ suc (div_ceil (n - min n s) s)
div_ceil-step n s some pos = elim (dec_lt n s) [
  | yes lt ↦
      let rest : n - min n s ≡ 0 = omega arith in
      rw (rest, div_ceil-none s pos) (omega (arith, div-eq_of_lt lt, mod-eq_of_lt lt))
  | no ge ↦
      let rest : n - min n s ≡ n - s = omega arith in
      let whole : n - s + s ≡ n = omega arith in
      let quotient : n / s ≡ (n - s) / s + 1 = ap (λ k. k / s) (sym whole) ∙ add-div_right (n - s) pos in
      let remainder : n % s ≡ (n - s) % s = ap (λ k. k % s) (sym whole) ∙ add-mod_right (n - s) s in
      rw (rest, quotient, remainder) (omega arith)
]

-- a turn takes a step of the low pages or the rest of them, and if there is none, the same of the high ones
step-low : (low high low_after high_after s : ℕ) → 0 < low → 0 < s → low_after ≡ low - min low s → high_after ≡ high →
    div_ceil low s + div_ceil high s ≡ suc (div_ceil low_after s + div_ceil high_after s)
step-low low high low_after high_after s some pos p q = rw (p, q) (ap (λ n. n + div_ceil high s) (div_ceil-step low s some pos) ∙ omega arith)

step-high : (low high low_after high_after s : ℕ) → 0 < high → 0 < s → low ≡ low_after → high_after ≡ high - min high s →
    div_ceil low s + div_ceil high s ≡ suc (div_ceil low_after s + div_ceil high_after s)
step-high low high low_after high_after s some pos p q =
    rw (p, q, div_ceil-step high s some pos) (omega arith)

-- what a turn takes of pages that lie together
taken : (together count_max : ℕ) → 0 < together → count_max ≤ 65535 → max 1 (min together (min 65535 count_max)) ≡ min together (max count_max 1)
taken together count_max some fits = omega arith

low-after : (from to half taken : ℕ) → taken ≤ min (to - from) (half - from) →
    min (to - (from + taken)) (half - (from + taken)) ≡ min (to - from) (half - from) - taken
low-after from to half taken le = omega arith

high-after : (from to half taken : ℕ) → taken ≤ min (to - from) (half - from) →
    to - (from + taken) - min (to - (from + taken)) (half - (from + taken)) ≡ to - from - min (to - from) (half - from)
high-after from to half taken le = omega arith

module _ (size count_max : ℕ) (fits : count_max ≤ 65535) where
  -- how many pages of the low half there are, and how many of the high one
  low_pages : ℕ → ℕ → ℕ
  low_pages from to = min (to - from) (half_pages size - from)

  high_pages : ℕ → ℕ → ℕ
  high_pages from to = to - from - low_pages from to

  steps : ℕ → ℕ → ℕ
  steps from to = div_ceil (low_pages from to) (max count_max 1) + div_ceil (high_pages from to) (max count_max 1)

  steps-low : (from to : ℕ) → from < to → from < half_pages size → steps from to ≡ suc (steps (after size count_max from to) to)
  unfolding steps low_pages high_pages
  steps-low from to lt low =
      let together = min (to - from) (half_pages size - from) in
      let count : greatest_count size count_max from to ≡ min together (min 65535 count_max) = greatest-low size count_max from to low ∙ omega arith in
      let some : 0 < together = omega arith in
      let step : max 1 (greatest_count size count_max from to) ≡ min together (max count_max 1) =
      ap (λ n. max 1 n) count ∙ taken together count_max some fits in
      let least : max 1 (greatest_count size count_max from to) ≤ together = omega (arith, step) in
      step-low together (to - from - together) _ _ (max count_max 1) some (omega arith)
      (low-after from to (half_pages size) _ least ∙ ap (λ n. together - n) step)
      (high-after from to (half_pages size) _ least)

  steps-high : (from to : ℕ) → from < to → half_pages size ≤ from → steps from to ≡ suc (steps (after size count_max from to) to)
  unfolding steps low_pages high_pages
  steps-high from to lt high =
      let count : greatest_count size count_max from to ≡ min (to - from) (min 65535 count_max) = greatest-high size count_max from to high ∙ omega arith in
      let step : max 1 (greatest_count size count_max from to) ≡ min (to - from) (max count_max 1) =
      ap (λ n. max 1 n) count ∙ taken (to - from) count_max (omega arith) fits in
      let none : low_pages from to ≡ 0 = omega arith in
      let all : high_pages from to ≡ to - from = omega arith in
      step-high (low_pages from to) (high_pages from to) _ _ (max count_max 1) (omega arith) (omega arith) (omega arith) (omega (arith, step))

  steps-next : (from to : ℕ) → from < to → steps from to ≡ suc (steps (after size count_max from to) to)
  steps-next from to lt = ⊎_elim (λ low. steps-low from to lt low) (λ high. steps-high from to lt high) (cases_lt from (half_pages size))

  steps-none : (from to : ℕ) → to ≤ from → steps from to ≡ 0
  unfolding steps low_pages high_pages
  steps-none from to le =
      let low : min (to - from) (half_pages size - from) ≡ 0 = omega arith in
      let high : to - from - 0 ≡ 0 = omega arith in
      rw (low, high, div_ceil-none (max count_max 1) (omega arith)) refl

  length-within : (pages from to : ℕ) → to - from ≤ pages → length (turns_within pages size count_max from to) ≡ steps from to
  length-within zero from to p = ap length (turns_within-end size count_max zero from to (omega arith)) ∙ sym (steps-none from to (omega arith))
  length-within (suc pages) from to p = elim (dec_lt from to) [
    | yes lt ↦
        ap length (turns_within-next size count_max pages from to lt)
        ∙ (ap suc (length-within pages (after size count_max from to) to (omega arith)) ∙ sym (steps-next from to lt))
    | no ge ↦ ap length (turns_within-end size count_max (suc pages) from to (omega arith)) ∙ sym (steps-none from to (omega arith))
  ]

  pub length-turns : (from to : ℕ) →
      length (turns size count_max from to)
      ≡ div_ceil (min (to - from) (half_pages size - from)) (max count_max 1) + div_ceil
      (to - from - min (to - from) (half_pages size - from)) (max count_max 1)
  unfolding steps low_pages high_pages
  length-turns from to = length-within (to - from) from to (omega arith)

module _ (size : ℕ) (flush : Flush) where
  pub turn_commands-end : (from to : ℕ) → to ≤ from → turn_commands size flush from to ≡ []
  turn_commands-end from to le = ap (map (turn_command size flush)) (turns-end size flush.limits.count_max from to le)

  pub turn_commands-next : (from to : ℕ) → from < to →
      turn_commands size flush from to
      ≡ turn_command size flush (turn_at size flush.limits.count_max from to) ∷ turn_commands size flush (after size flush.limits.count_max from to) to
  turn_commands-next from to lt = ap (map (turn_command size flush)) (turns-next size flush.limits.count_max from to lt)

  -- a range is the pages left at its start
  pub turn_commands-left : (from to : ℕ) → turn_commands size flush (to - (to - from)) to ≡ turn_commands size flush from to
  turn_commands-left from to = ⊎_elim
      (λ before. let e : to - (to - from) ≡ from = omega (arith, before) in ap (λ place. turn_commands size flush place to) e)
      (λ past. turn_commands-end (to - (to - from)) to (omega (arith, past)) ∙ sym (turn_commands-end from to past))
      (cases_lt from to)

  turn_commands-next' : (from to count place : ℕ) → from < to → count ≡ greatest_count size flush.limits.count_max from to →
      place ≡ after size flush.limits.count_max from to →
      turn_commands size flush from to ≡ turn_command size flush (record { page = page_at size from; count = count }) ∷ turn_commands size flush place to
  turn_commands-next' from to count place lt p q = rw (p, q) (turn_commands-next from to lt)

  -- the first turn of a number of pages left, and the pages left after it
  pub turn_commands-step : (to left page count : ℕ) (command : FlushCommand) → 0 < left → left ≤ to →
      page ≡ page_at size (to - left) → position size page ≡ to - left →
      count ≡ greatest_count size flush.limits.count_max (position size page) (position size page + left) →
      command ≡ turn_command size flush (record { page = page; count = count }) →
      turn_commands size flush (to - left) to ≡ command ∷ turn_commands size flush (to - (left - max count 1)) to
  turn_commands-step to left page count command some within page_is place_is count_is command_is =
      let end : to - left + left ≡ to = omega arith in
      let is : count ≡ greatest_count size flush.limits.count_max (to - left) to = rw (place_is, end) at count_is in
      let least : count ≤ to - (to - left) = rw is (greatest-le size flush.limits.count_max (to - left) to) in
      let place : to - (left - max count 1) ≡ to - left + max 1 count = omega arith in
      turn_commands-next' (to - left) to count (to - (left - max count 1)) (omega arith) is (place ∙ ap (λ n. to - left + max 1 n) is)
      ∙ rw (command_is, page_is) refl

  pub length-turn_commands : flush.limits.count_max ≤ 65535 → (from to : ℕ) →
      length (turn_commands size flush from to)
      ≡ div_ceil (min (to - from) (half_pages size - from)) (max flush.limits.count_max 1)
      + div_ceil (to - from - min (to - from) (half_pages size - from)) (max flush.limits.count_max 1)
  length-turn_commands fits from to =
      length-map (turns size flush.limits.count_max from to) (turn_command size flush) ∙ length-turns size flush.limits.count_max fits from to
