-- The regions of a paged system, as a heap sees them, stand by ascending base.
use Rattle.std.specs.Prelude.{◌≡◌, ℕ, ◌+◌, ◌*◌, ◌%◌, ◌^◌, ◌<◌, ◌≤◌, Bool, true, false, nat_le, List, [], ◌∷◌, map, IsTrue, refl}
use Rattle.std.specs.List.{list_all, AllByRecursion}
use Rattle.std.proofs.Common.{arith, cond}
use Rattle.std.proofs.lemmas.Bool.Decides.{nat_tests}
use Rattle.heap_memory.specs.declared.grant.Grant.{Grant}
use Rattle.heap_memory.specs.Regions.{are_ordered, is_whole, are_whole}
use Rattle.machine_model.specs.declared.region.Region.{Region}
use Rattle.machine_model.specs.State.{end_of_region}
use Rattle.machine_model.specs.Machine.{Paged}
use Rattle.mapped_regions.specs.Regions.{AreLaid}
use Rattle.mapped_regions.specs.Mapped.{IsRegion}
use Rattle.paged_systems.specs.Layout.{IsPagedKept}
use Rattle.paged_systems.specs.Words.{grant_of, heap_regions, grants_of}

all_behind : (end from to : ℕ) (list : List Region) → end ≤ from → AreLaid from list to → list_all (λ (later : Grant). nat_le end later.base) (map grant_of (heap_regions list)) ≡ true
all_behind end from to [] low all = refl
all_behind end from to (first ∷ rest) low all =
    let here : nat_le end first.start ≡ true = grind (arith, nat_tests, low, all.0) in
    go first.heap here (all_behind end (end_of_region first) to rest (omega (arith, low, all.0)) all.3)
  where
    go : (b : Bool) → nat_le end first.start ≡ true → list_all (λ (later : Grant). nat_le end later.base) (map grant_of (heap_regions rest)) ≡ true →
        list_all (λ (later : Grant). nat_le end later.base) (map grant_of (cond b (first ∷ heap_regions rest) (heap_regions rest))) ≡ true
    go true here later = rw here later
    go false here later = later

ordered : (from to : ℕ) (list : List Region) → AreLaid from list to → are_ordered (map grant_of (heap_regions list)) ≡ true
ordered from to [] all = refl
ordered from to (first ∷ rest) all = go first.heap (all_behind (end_of_region first) (end_of_region first) to rest (omega arith) all.3) (ordered (end_of_region first) to rest all.3)
  where
    go : (b : Bool) → list_all (λ (later : Grant). nat_le (end_of_region first) later.base) (map grant_of (heap_regions rest)) ≡ true → are_ordered (map grant_of (heap_regions rest)) ≡ true →
        are_ordered (map grant_of (cond b (first ∷ heap_regions rest) (heap_regions rest))) ≡ true
    go true behind later = rw behind later
    go false behind later = later

pub regions_ordered : (p : Paged) → IsPagedKept p → IsTrue (are_ordered (grants_of p))
regions_ordered p kept = ordered 0 (2 ^ 64) p.regions kept.laid

-- and each is made of whole pages of the window
is_whole_region : (start pages : ℕ) → 4096 ≤ start → start % 16 ≡ 0 → 0 < pages → start + 4096 * pages < 2 ^ 64 → is_whole (record { base = start; size = 4096 * pages; flags = 0 }) ≡ true
is_whole_region start pages low aligned some high =
    let size : 4096 * pages % 16 ≡ 0 = omega arith in
    let more : 0 < 4096 * pages = omega arith in
    grind (arith, nat_tests)

whole : (base window : ℕ) (list : List Region) → 4096 ≤ base → base + 4096 * window < 2 ^ 64 → AllByRecursion (IsRegion base window) list → are_whole (map grant_of (heap_regions list)) ≡ true
whole base window [] low high all = refl
whole base window (first ∷ rest) low high all = go first.heap refl (whole base window rest low high all.1)
  where
    go : (b : Bool) → first.heap ≡ b → are_whole (map grant_of (heap_regions rest)) ≡ true → are_whole (map grant_of (cond b (first ∷ heap_regions rest) (heap_regions rest))) ≡ true
    go true heap later =
        let at_page = all.0.range.0 in
        let some = all.0.range.1.some in
        rw (is_whole_region first.start first.pages (omega (arith, all.0.from heap)) (omega arith) some (omega (arith, all.0.within heap))) later
    go false heap later = later

pub regions_whole : (p : Paged) → IsPagedKept p → IsTrue (are_whole (grants_of p))
regions_whole p kept =
    let low = kept.window.after_first in
    let last = kept.window.before_last in
    whole p.base p.pages p.regions low (omega arith) kept.mapped.regions
