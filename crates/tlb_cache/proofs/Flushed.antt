-- The commands for a range cover each of its pages.
use Rattle.std.proofs.Common.{◌≡◌, ℕ, zero, suc, ◌+◌, ◌-◌, ◌*◌, ◌/◌, ◌%◌, ◌^◌, ◌<◌, ◌≤◌, ◌⊎◌, inl, inr, Bool, true, false, cond, ◌==◌, nat_lt, nat_le, max, IsTrue, List, [], ◌∷◌, ◌++◌, map, Option, Some, None, refl, sym, ap, ◌∙◌, subst, arith}
use Rattle.std.proofs.lemmas.Bool.{eq-eqb, eqb-true, cases_eq, le-leb, lt-ltb, le-ltb, and_from}
use Rattle.std.proofs.lemmas.Bool.Decides.{nat_tests}
use Rattle.std.specs.List.{list_any, range_with_len, flat_map}
use Rattle.machine_model.proofs.Booleans.{or_left, or_right, or_cases}
use Rattle.paging_core.specs.Address.{is_canonical, IsCanonicalRange}
use Rattle.paging_core.specs.Steps.{position, page_at, half_pages}
use Rattle.x86_instructions.specs.declared.tlb.FlushCommand.{FlushCommand}
use Rattle.x86_instructions.specs.declared.tlb.FlushCommand.TheVariants.{Invlpgb}
use Rattle.x86_instructions.specs.Turns.{Turn, turns}
use Rattle.x86_instructions.specs.Invlpgb.{Flush, bit_if, options_of, identifiers_of, limits_of, whole, commands, turn_command, turn_commands}
use Rattle.x86_instructions.specs.Flushed.{flushed_by, pages_of, FlushesRange}
use Rattle.x86_registers.specs.declared.cpu.Cpu.{Cpu}
use Rattle.mapped_regions.specs.Mapped.{IsPageRange}
use Rattle.tlb_cache.specs.Cached.{Flushes, range_of, flush_of}
use Rattle.tlb_cache.specs.Covered.{covers, is_among, pages_each, first_page, named_pages}

-- ---- pages in a row

pub among_true : (first pages page : ℕ) → first ≤ page → page < first + pages → is_among first pages page ≡ true
among_true first pages page h k = and_from (nat_le first page) (nat_lt page (first + pages)) (le-leb first page h) (lt-ltb page (first + pages) k)

bounds : (first count page : ℕ) → list_any (λ (x : ℕ). x == page) (range_with_len first count) ≡ true → (first ≤ page) × (page < first + count)
bounds first zero page h = let no : false ≡ true = h in absurd (cc)
bounds first (suc n) page h = go (or_cases (first == page) (list_any (λ (x : ℕ). x == page) (range_with_len (first + 1) n)) h) (bounds (first + 1) n page) where
  go : ((first == page) ≡ true) ⊎ (list_any (λ (x : ℕ). x == page) (range_with_len (first + 1) n) ≡ true) →
      (list_any (λ (x : ℕ). x == page) (range_with_len (first + 1) n) ≡ true →
      (first + 1 ≤ page) × (page < first + 1 + n)) → (first ≤ page) × (page < first + suc n)
  go (inl here) rest = let e : first ≡ page = eqb-true first page here in (omega arith, omega arith)
  go (inr later) rest = let b = rest later in (omega (arith, b.0), omega (arith, b.1))

mapped_in : (f : ℕ → ℕ) (first count place page : ℕ) → first ≤ place → place < first + count → f place ≡ page →
    list_any (λ (x : ℕ). x == page) (map f (range_with_len first count)) ≡ true
mapped_in f first zero place page h k is = absurd (omega arith)
mapped_in f first (suc n) place page h k is = go (cases_eq first place) (λ ne. mapped_in f (first + 1) n place page (omega arith) (omega arith) is) where
  go : (first ≡ place) ⊎ (first ≡ place → ⊥) → ((first ≡ place → ⊥) → list_any (λ (x : ℕ). x == page) (map f (range_with_len (first + 1) n)) ≡ true) →
      list_any (λ (x : ℕ). x == page) (map f (range_with_len first (suc n))) ≡ true
  go (inl e) rest = or_left (f first == page) (list_any (λ (x : ℕ). x == page) (map f (range_with_len (first + 1) n))) (eq-eqb (f first) page (ap f e ∙ is))
  go (inr ne) rest = or_right (f first == page) (list_any (λ (x : ℕ). x == page) (map f (range_with_len (first + 1) n))) (rest ne)

-- ---- one command

covered_by : (each rax ecx page : ℕ) → (each ≡ 1) ⊎ (each ≡ 512) → rax / 4096 ≤ page → page < rax / 4096 + max 1 (ecx % 2 ^ 16) →
    is_among (rax / 4096 / each * each) (max 1 (ecx % 2 ^ 16) * each) page ≡ true
covered_by each rax ecx page (inl e) h k = rw e (among_true (rax / 4096 / 1 * 1) (max 1 (ecx % 2 ^ 16) * 1) page (omega arith) (omega arith))
covered_by each rax ecx page (inr e) h k = rw e (among_true (rax / 4096 / 512 * 512) (max 1 (ecx % 2 ^ 16) * 512) page (omega arith) (omega arith))

each_is : (ecx : ℕ) → (pages_each ecx ≡ 1) ⊎ (pages_each ecx ≡ 512)
each_is ecx = go (ecx / 2 ^ 31 == 1) where
  go : (b : Bool) → let one : ℕ = 1 in let many : ℕ = 512 in (cond b many one ≡ one) ⊎ (cond b many one ≡ many)
  go true = inr refl
  go false = inl refl

pub covers_flushed : (rax ecx edx page : ℕ) → list_any (λ (x : ℕ). x == page)
    (flushed_by 4096 (Invlpgb rax ecx edx)) ≡ true → covers (Invlpgb rax ecx edx) page ≡ true
covers_flushed rax ecx edx page h = go (rax % 2 == 1) where
  b : (rax / 4096 * 4096 / 4096 ≤ page) × (page < rax / 4096 * 4096 / 4096 + max 1 (ecx % 2 ^ 16))
  b = bounds (rax / 4096 * 4096 / 4096) (max 1 (ecx % 2 ^ 16)) page h

  go : (t : Bool) → cond t (is_among (first_page rax ecx) (named_pages ecx) page) true ≡ true
  go true = covered_by (pages_each ecx) rax ecx page (each_is ecx) (omega (arith, b.0)) (omega (arith, b.1))
  go false = refl

-- ---- the commands of turns

any_append : (t : ℕ → Bool) (xs ys : List ℕ) → list_any t (xs ++ ys) ≡ true → (list_any t xs ≡ true) ⊎ (list_any t ys ≡ true)
any_append t [] ys h = inr h
any_append t (x ∷ xs) ys h = go (or_cases (t x) (list_any t (xs ++ ys)) h) (any_append t xs ys) where
  go : (t x ≡ true) ⊎ (list_any t (xs ++ ys) ≡ true) → (list_any t (xs ++ ys) ≡ true → (list_any t xs ≡ true) ⊎ (list_any t ys ≡ true)) →
      (list_any t (x ∷ xs) ≡ true) ⊎ (list_any t ys ≡ true)
  go (inl here) rest = inl (or_left (t x) (list_any t xs) here)
  go (inr later) rest = elim (rest later) [ inl a ↦ inl (or_right (t x) (list_any t xs) a) | inr b ↦ inr b ]

pub turns_cover : (flush : Flush) (turns : List Turn) (page : ℕ) →
    list_any (λ (x : ℕ). x == page) (flat_map (flushed_by 4096) (map (turn_command 4096 flush) turns)) ≡ true →
    list_any (λ (command : FlushCommand). covers command page) (map (turn_command 4096 flush) turns) ≡ true
turns_cover flush [] page h = h
turns_cover flush (turn ∷ turns) page h =
    go (any_append (λ (x : ℕ). x == page) (flushed_by 4096 (turn_command 4096 flush turn)) (flat_map (flushed_by 4096) (map (turn_command 4096 flush) turns)) h)
    (turns_cover flush turns page)
  where
    go : (list_any (λ (x : ℕ). x == page) (flushed_by 4096 (turn_command 4096 flush turn)) ≡ true)
        ⊎ (list_any (λ (x : ℕ). x == page) (flat_map (flushed_by 4096) (map (turn_command 4096 flush) turns)) ≡ true) →
        (list_any (λ (x : ℕ). x == page) (flat_map (flushed_by 4096) (map (turn_command 4096 flush) turns)) ≡ true →
        list_any (λ (command : FlushCommand). covers command page) (map (turn_command 4096 flush) turns) ≡ true) →
        list_any (λ (command : FlushCommand). covers command page) (map (turn_command 4096 flush) (turn ∷ turns)) ≡ true
    go (inl here) rest =
        or_left (covers (turn_command 4096 flush turn) page) (list_any (λ (command : FlushCommand). covers command page) (map (turn_command 4096 flush) turns))
        (covers_flushed (turn.page * 4096 / 4096 * 4096 + (1 + options_of flush)) (bit_if (4096 == 2 ^ 21) 31 + turn.count) (identifiers_of flush) page here)
    go (inr later) rest = or_right (covers (turn_command 4096 flush turn) page)
        (list_any (λ (command : FlushCommand). covers command page) (map (turn_command 4096 flush) turns)) (rest later)

-- ---- the pages of a range

halves : (first : ℕ) → IsTrue (is_canonical (first * 4096)) → (first < 2 ^ 35) ⊎ ((2 ^ 52 - 2 ^ 35 ≤ first) × (first < 2 ^ 52))
halves first h = go (or_cases (first * 4096 / 2 ^ 47 == 0) (first * 4096 / 2 ^ 47 == 2 ^ 17 - 1) h) where
  go : ((first * 4096 / 2 ^ 47 == 0) ≡ true) ⊎ ((first * 4096 / 2 ^ 47 == 2 ^ 17 - 1) ≡ true) →
      (first < 2 ^ 35) ⊎ ((2 ^ 52 - 2 ^ 35 ≤ first) × (first < 2 ^ 52))
  go (inl low) = let e : first * 4096 / 2 ^ 47 ≡ 0 = eqb-true _ _ low in inl (omega arith)
  go (inr high) = let e : first * 4096 / 2 ^ 47 ≡ 131071 = eqb-true _ _ high in inr (omega arith, omega arith)

pub next_page : (first pages k : ℕ) → IsCanonicalRange first pages → k < pages → page_at 4096 (position 4096 first + k) ≡ first + k
next_page first pages k range below = go (halves first range.canonical) where
  go : (first < 2 ^ 35) ⊎ ((2 ^ 52 - 2 ^ 35 ≤ first) × (first < 2 ^ 52)) → page_at 4096 (position 4096 first + k) ≡ first + k
  go (inl low) = let half = range.one_half in grind (arith, nat_tests)
  go (inr high) = let half = range.one_half in grind (arith, nat_tests)

pub position_of : (place : ℕ) → position 4096 (page_at 4096 place) ≡ place
position_of place = grind (arith, nat_tests)

pub range_has : (first pages k : ℕ) → IsCanonicalRange first pages → k < pages →
    list_any (λ (x : ℕ). x == first + k) (pages_of 4096 (first, page_at 4096 (position 4096 first + pages))) ≡ true
range_has first pages k range below =
    let count : position 4096 (page_at 4096 (position 4096 first + pages)) - position 4096 first ≡ pages =
    omega (arith, position_of (position 4096 first + pages)) in
    mapped_in (page_at 4096) (position 4096 first) (position 4096 (page_at 4096 (position 4096 first + pages)) - position
    4096 first) (position 4096 first + k) (first + k) (omega arith) (omega (arith, count))
    (next_page first pages k range below)

pub turns_flush : (most : ℕ) (flush : Flush) (start pages from to : ℕ) → IsPageRange start pages →
    FlushesRange 4096 most (start / 4096, page_at 4096 (position 4096 (start / 4096) + pages))
    (turn_commands 4096 flush from to) → Flushes (turn_commands 4096 flush from to) start pages
turns_flush most flush start pages from to range flushes = λ k below.
    turns_cover flush (turns 4096 flush.limits.count_max from to) (start / 4096 + k)
    (ap (λ (list : List ℕ). list_any (λ (x : ℕ). x == start / 4096 + k) list) flushes.pages ∙ range_has (start / 4096) pages k range.1 below)

-- ---- the commands, by whether a page comes next after the pages

pub ranged : (first pages : ℕ) → position 4096 first + pages < 2 * half_pages 4096 →
    range_of first pages ≡ Some (first, page_at 4096 (position 4096 first + pages))
ranged first pages next = ap (λ (b : Bool). cond b (Some (first, page_at 4096 (position 4096 first + pages))) None)
    (lt-ltb (position 4096 first + pages) (2 * half_pages 4096) next)

pub unranged : (first pages : ℕ) → (position 4096 first + pages < 2 * half_pages 4096 → ⊥) → range_of first pages ≡ None
unranged first pages none = ap (λ (b : Bool). cond b (Some (first, page_at 4096 (position 4096 first + pages))) None)
    (le-ltb (position 4096 first + pages) (2 * half_pages 4096) (omega (arith, none)))

pub flush_is : (cpu : Cpu) (start pages : ℕ) (range : Option (ℕ × ℕ)) → range_of (start / 4096) pages ≡ range →
    commands 4096 (record (whole (limits_of cpu)) { pages = range }) range ≡ flush_of cpu start pages
flush_is cpu start pages range is = ap (λ (range : Option (ℕ × ℕ)). commands 4096 (record (whole (limits_of cpu)) { pages = range }) range) (sym is)

pub flushes_range : (most : ℕ) (cpu : Cpu) (start pages : ℕ) → IsPageRange start pages → position 4096 (start / 4096) + pages < 2 * half_pages 4096 →
    FlushesRange 4096 most (start / 4096, page_at 4096 (position 4096 (start / 4096) + pages))
    (commands 4096 (record (whole (limits_of cpu)) {
      pages = Some (
        start / 4096,
        page_at 4096 (position 4096 (start / 4096) + pages),
      );
    }) (Some (
      start / 4096,
      page_at 4096 (position 4096 (start / 4096) + pages),
    ))) →
    Flushes (flush_of cpu start pages) start pages
flushes_range most cpu start pages range next flushes =
    let flush : Flush = record (whole (limits_of cpu)) { pages = Some (start / 4096, page_at 4096 (position 4096 (start / 4096) + pages)) } in
    subst (λ (list : List FlushCommand). Flushes list start pages) (flush_is cpu start pages
    (Some (start / 4096, page_at 4096 (position 4096 (start / 4096) + pages))) (ranged (start / 4096) pages next))
    (turns_flush most flush start pages (position 4096 (start / 4096)) (position 4096 (page_at 4096 (position 4096 (start / 4096) + pages))) range flushes)

pub flushes_all : (cpu : Cpu) (start pages : ℕ) → (position 4096 (start / 4096) + pages < 2 * half_pages 4096 → ⊥) →
    Flushes (flush_of cpu start pages) start pages
flushes_all cpu start pages none = subst (λ (list : List FlushCommand). Flushes list start pages)
    (flush_is cpu start pages None (unranged (start / 4096) pages none)) (λ k below. refl)
