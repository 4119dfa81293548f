-- A range that a region of the user has.
use Rattle.std.proofs.Common.{◌≡◌, ℕ, ◌+◌, ◌-◌, ◌*◌, ◌/◌, ◌%◌, ◌^◌, ◌<◌, ◌≤◌, ◌⊎◌, inl, inr, true, false, not, ◌&&◌, ◌==◌, IsTrue, List, [], ◌∷◌, subst, sym, arith}
use Rattle.std.proofs.lemmas.Bool.{eqb-true, and_parts}
use Rattle.std.specs.List.{list_any}
use Rattle.machine_model.proofs.Booleans.{or_cases}
use Rattle.paging_core.specs.Address.{is_canonical}
use Rattle.paging_core.specs.Memory.{frame_count}
use Rattle.machine_model.specs.declared.region.Region.{Region}
use Rattle.machine_model.specs.Place.{is_at}
use Rattle.machine_model.specs.State.{total_pages}
use Rattle.machine_model.specs.Machine.{Paged}
use Rattle.mapped_regions.specs.Mapped.{IsPageRange, IsMapped}
use Rattle.mapped_regions.specs.UserRegions.{CanUnmap}

-- no more pages than all regions have
within_total : (start pages : ℕ) (list : List Region) → list_any (λ (region : Region).
    not region.heap && is_at start pages region) list ≡ true → pages ≤ total_pages list
within_total start pages [] there = let no : false ≡ true = there in absurd (cc)
within_total start pages (region ∷ rest) there =
    go (or_cases (not region.heap && is_at start pages region) (list_any
    (λ (region : Region). not region.heap && is_at start pages region) rest) there) (within_total start pages rest)
  where
    go : ((not region.heap && is_at start pages region) ≡ true) ⊎ (list_any (λ (region : Region). not region.heap && is_at start pages region) rest ≡ true) →
        (list_any (λ (region : Region). not region.heap && is_at start pages region) rest ≡ true →
        pages ≤ total_pages rest) → pages ≤ region.pages + total_pages rest
    go (inl here) more =
        let same : region.pages ≡ pages = eqb-true region.pages pages (and_parts (region.start == start)
        (region.pages == pages) (and_parts (not region.heap) (is_at start pages region) here).1).1 in
        omega (arith, same)
    go (inr later) more = let rest_has = more later in omega (arith, rest_has)

pub within_frames : (p : Paged) (start pages : ℕ) → IsMapped p → CanUnmap p start pages → pages ≤ frame_count p.words
within_frames p start pages mapped can = let few = within_total start pages p.regions can.there in let count = mapped.count in omega (arith, few, count)

whole_pages : (start : ℕ) → start % 4096 ≡ 0 → start / 4096 * 4096 ≡ start
whole_pages start aligned = omega (arith, aligned)

pub page_range : (start pages : ℕ) → start % 4096 ≡ 0 → IsTrue (is_canonical start) → 0 < pages →
    (start / 4096 + pages - 1) / 2 ^ 35 ≡ start / 4096 / 2 ^ 35 → IsPageRange start pages
page_range start pages aligned canonical some half =
    (aligned, record { some = some; canonical = subst (λ (a : ℕ). is_canonical a ≡ true) (sym (whole_pages start aligned)) canonical; one_half = half })

pub range_canonical : (start pages : ℕ) → IsPageRange start pages → IsTrue (is_canonical start)
range_canonical start pages range = subst (λ (a : ℕ). is_canonical a ≡ true) (whole_pages start range.0) range.1.canonical
