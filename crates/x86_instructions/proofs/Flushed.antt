-- Which pages the commands of a range flush.
use Rattle.std.proofs.Common.{◌≡◌, ℕ, zero, suc, ◌+◌, ◌-◌, ◌*◌, ◌/◌, ◌%◌, ◌^◌, ◌<◌, ◌≤◌, max, Bool, true, false, ◌∷◌, ◌++◌, map, refl, ap, sym, ◌∙◌, inl, inr, arith}
use native.Mathlib.Decide.{dec_lt}
use Rattle.std.specs.Prelude.{◌==◌, ◌⊎◌, Option, Some, None, IfSome}
use Rattle.std.specs.List.{range_with_len, flat_map, AllByRecursion}
use Rattle.std.specs.Option.{is_some}
use Rattle.std.proofs.Math.Nat.{mul-div_cancel}
use Rattle.std.proofs.lemmas.Nat.{mul-le}
use Rattle.std.proofs.lemmas.List.{map-append}
use Rattle.paging_core.specs.Steps.{half_pages, gap_pages, position, page_at}
use Rattle.x86_instructions.specs.Turns.{Turn, greatest_count, turns_within}
use Rattle.x86_instructions.specs.Invlpgb.{Flush, bit_if, options_of, turn_command, commands, commands_of}
use Rattle.x86_instructions.specs.Flushed.{first_flushed, count_in, flushed_by, IsBelowGap, IsAboveGap, IsTurnOf, FlushesRange}
use Rattle.x86_instructions.proofs.Places.{page_at-low, page_at-high, position-page_at, half_whole, high_whole}
use Rattle.x86_instructions.proofs.Turns.{after, turn_at, turns_within-next, turns_within-end, greatest-le, greatest-low}

-- the words of a command, read back
bit_if-le : (b : Bool) (place : ℕ) → bit_if b place ≤ 2 ^ place
bit_if-le true place = omega arith
bit_if-le false place = omega arith

options-lt : (flush : Flush) → options_of flush < 2 ^ 6
options-lt flush = omega (
  arith,
  bit_if-le (is_some flush.pcid) 1,
  bit_if-le (is_some flush.asid) 2,
  bit_if-le flush.global 3,
  bit_if-le flush.final_only 4,
  bit_if-le flush.nested 5,
)

count-read : (large : Bool) (count : ℕ) → count < 2 ^ 16 → (bit_if large 31 + count) % 2 ^ 16 ≡ count
count-read true count fits = omega arith
count-read false count fits = omega arith

-- runs of numbers
range-append : (a m n : ℕ) → range_with_len a (m + n) ≡ range_with_len a m ++ range_with_len (a + m) n
range-append a zero n =
    let e : zero + n ≡ n = omega arith in
    let f : a + zero ≡ a = omega arith in
    rw (e, f) refl
range-append a (suc m) n =
    let e : suc m + n ≡ suc (m + n) = omega arith in
    let f : a + suc m ≡ a + 1 + m = omega arith in
    rw (e, f) (ap (λ rest. a ∷ rest) (range-append (a + 1) m n))

module _ (size : ℕ) (pos : 0 < size) (divides : 2 ^ 47 % size ≡ 0) where
  -- pages one after the other, below the gap and above it
  run-low : (place pages : ℕ) → place + pages ≤ half_pages size → range_with_len place pages ≡ map (page_at size) (range_with_len place pages)
  run-low place zero within = refl
  run-low place (suc pages) within = rw (page_at-low size place (omega arith)) (ap (λ rest. place ∷ rest) (run-low (place + 1) pages (omega arith)))

  run-high : (place pages : ℕ) → half_pages size ≤ place →
      range_with_len (place + gap_pages size) pages ≡ map (page_at size) (range_with_len place pages)
  run-high place zero high = refl
  run-high place (suc pages) high =
      let next : place + gap_pages size + 1 ≡ place + 1 + gap_pages size = omega arith in
      rw (page_at-high size place high, next) (ap (λ rest. (place + gap_pages size) ∷ rest) (run-high (place + 1) pages (omega arith)))

  below : (page : ℕ) → page < half_pages size → IsBelowGap size page
  below page lt =
      let top : suc page * size ≤ half_pages size * size = mul-le (suc page) size (half_pages size) size lt (omega arith) in
      let next : suc page * size ≡ page * size + size = grind arith in
      omega (arith, half_whole size pos divides)

  above : (page : ℕ) → half_pages size + gap_pages size ≤ page → IsAboveGap size page
  above page le =
      let from : (half_pages size + gap_pages size) * size ≤ page * size = mul-le (half_pages size + gap_pages size) size page size le (omega arith) in
      omega (arith, high_whole size pos divides)

  all_below : (page pages : ℕ) → page + pages ≤ half_pages size → AllByRecursion (IsBelowGap size) (range_with_len page pages)
  all_below page zero within = tt
  all_below page (suc pages) within = (below page (omega arith), all_below (page + 1) pages (omega arith))

  all_above : (page pages : ℕ) → half_pages size + gap_pages size ≤ page → AllByRecursion (IsAboveGap size) (range_with_len page pages)
  all_above page zero high = tt
  all_above page (suc pages) high = (above page high, all_above (page + 1) pages (omega arith))

whole_blocks : (address blocks : ℕ) → address ≡ blocks * 4096 → address / 4096 * 4096 ≡ address
whole_blocks address blocks is = omega arith

module _ (size : ℕ) (pos : 0 < size) (divides : 2 ^ 47 % size ≡ 0) (aligned : size % 4096 ≡ 0) (flush : Flush) where
  count_max : ℕ
  count_max = flush.limits.count_max

  address-read : (page low : ℕ) → low < 4096 → (page * size / 4096 * 4096 + low) / 4096 * 4096 / size ≡ page
  address-read page low lt =
      let blocks : size ≡ size / 4096 * 4096 = omega arith in
      let joined : page * (size / 4096 * 4096) ≡ page * (size / 4096) * 4096 = grind arith in
      let whole : page * size / 4096 * 4096 ≡ page * size = whole_blocks (page * size) (page * (size / 4096)) (ap (λ n. page * n) blocks ∙ joined) in
      let read : (page * size / 4096 * 4096 + low) / 4096 * 4096 ≡ page * size = omega (arith, whole) in
      rw read (mul-div_cancel page pos)

  first_flushed-turn : (turn : Turn) → first_flushed size (turn_command size flush turn) ≡ turn.page
  first_flushed-turn turn = address-read turn.page (1 + options_of flush) (omega (arith, options-lt flush))

  count_in-turn : (turn : Turn) → turn.count < 2 ^ 16 → count_in (turn_command size flush turn) ≡ turn.count
  count_in-turn turn fits = count-read (size == 2 ^ 21) turn.count fits

  module _ (from to : ℕ) (some : from < to) where
    abbrev turn : Turn
    turn = turn_at size flush.limits.count_max from to

    fits : turn.count < 2 ^ 16
    fits = omega arith

    -- what the command of a turn names
    named : flushed_by size (turn_command size flush turn) ≡ range_with_len turn.page (max 1 turn.count)
    named = rw (first_flushed-turn turn, count_in-turn turn fits) refl

    within : from < half_pages size → from + max 1 turn.count ≤ half_pages size
    within low = omega (arith, greatest-low size flush.limits.count_max from to low)

    -- they are pages of the range, all on one side of the gap
    named-pages : flushed_by size (turn_command size flush turn) ≡ map (page_at size) (range_with_len from (max 1 turn.count))
    named-pages = elim (dec_lt from (half_pages size)) [
      | yes low ↦
          named ∙ (ap (λ page. range_with_len page (max 1 turn.count)) (page_at-low size from low)
          ∙ run-low size pos divides from (max 1 turn.count) (within low))
      | no high ↦
          named ∙ (ap (λ page. range_with_len page (max 1 turn.count)) (page_at-high size from (omega arith))
          ∙ run-high size pos divides from (max 1 turn.count) (omega arith))
    ]

    one_side : AllByRecursion (IsBelowGap size) (flushed_by size (turn_command size flush turn))
        ⊎ AllByRecursion (IsAboveGap size) (flushed_by size (turn_command size flush turn))
    one_side = elim (dec_lt from (half_pages size)) [
      | yes low ↦ inl (rw (named, page_at-low size from low) (all_below size pos divides from (max 1 turn.count) (within low)))
      | no high ↦ inr (rw (named, page_at-high size from (omega arith)) (all_above size pos divides (from + gap_pages size) (max 1 turn.count) (omega arith)))
    ]

    greatest : count_in (turn_command size flush turn)
        ≡ greatest_count size flush.limits.count_max (position size (first_flushed size (turn_command size flush turn))) to
    greatest = rw (count_in-turn turn fits, first_flushed-turn turn, position-page_at size from) refl

  covers : (pages from to : ℕ) → to - from ≤ pages →
      flat_map (flushed_by size) (map (turn_command size flush) (turns_within pages size flush.limits.count_max from to))
      ≡ map (page_at size) (range_with_len from (to - from))
  covers zero from to le =
      let none : to - from ≡ 0 = omega arith in
      rw (turns_within-end size flush.limits.count_max zero from to (omega arith), none) refl
  covers (suc pages) from to le = elim (dec_lt from to) [
    | yes lt ↦
        let taken = max 1 (greatest_count size flush.limits.count_max from to) in
        let all : taken + (to - (from + taken)) ≡ to - from = omega (arith, greatest-le size flush.limits.count_max from to) in
        ap (λ ts. flat_map (flushed_by size) (map (turn_command size flush) ts)) (turns_within-next size flush.limits.count_max pages from to lt)
        ∙ (ap (λ first. first ++ flat_map (flushed_by size) (map (turn_command size flush) (turns_within pages size flush.limits.count_max (from + taken) to)))
        (named-pages from to lt)
        ∙ (ap (λ rest. map (page_at size) (range_with_len from taken) ++ rest) (covers pages (from + taken) to (omega arith))
        ∙ (sym (map-append (page_at size) (range_with_len from taken) (range_with_len (from + taken) (to - (from + taken))))
        ∙ ap (map (page_at size)) (sym (range-append from taken (to - (from + taken))) ∙ ap (range_with_len from) all))))
    | no ge ↦
        let none : to - from ≡ 0 = omega arith in
        rw (turns_within-end size flush.limits.count_max (suc pages) from to (omega arith), none) refl
  ]

  each : (end pages from : ℕ) → AllByRecursion (IsTurnOf size flush.limits.count_max end)
      (map (turn_command size flush) (turns_within pages size flush.limits.count_max from (position size end)))
  unfolding turns_within
  each end zero from = tt
  each end (suc pages) from = elim (dec_lt from (position size end)) [
    | yes lt ↦ rw (turns_within-next size flush.limits.count_max pages from (position size end) lt) (
      record { one_side = one_side from (position size end) lt; greatest = greatest from (position size end) lt },
      each end pages (after size flush.limits.count_max from (position size end)),
    )
    | no ge ↦ rw (turns_within-end size flush.limits.count_max (suc pages) from (position size end) (omega arith)) tt
  ]

  flushes : (range : ℕ × ℕ) → FlushesRange size flush.limits.count_max range (commands size flush (Some range))
  flushes (first, end) = record {
    pages = covers (position size end - position size first) (position size first) (position size end) (omega arith);
    each = each end (position size end - position size first) (position size first);
  }

  flushes_given : (pages : Option (ℕ × ℕ)) → IfSome pages (λ range. FlushesRange size flush.limits.count_max range (commands size flush pages))
  flushes_given None = tt
  flushes_given (Some range) = flushes range

  pub flushes-commands_of : IfSome flush.pages (λ range. FlushesRange size flush.limits.count_max range (commands_of size flush))
  flushes-commands_of = flushes_given flush.pages
