-- The end of a run left a paged system: what a heap over it sees then.
use Rattle.std.proofs.Common.{◌≡◌, ℕ, ◌+◌, ◌-◌, ◌*◌, ◌/◌, ◌%◌, ◌^◌, ◌<◌, ◌≤◌, ◌⊎◌, inl, inr, Bool, true, false, not, ◌&&◌, ◌||◌, List, [], ◌∷◌, refl, sym, ap, ◌∙◌, subst, arith, Option, Some, None, IsTrue}
use Rattle.std.specs.Prelude.{nat_eq, nat_le, nat_lt, IsSome}
use Rattle.std.specs.List.{AllByRecursion}
use Rattle.std.proofs.lemmas.Bool.Decides.{nat_tests}
use Rattle.heap_memory.specs.declared.grant.Grant.{Grant}
use Rattle.heap_memory.specs.Regions.{is_granted, IsWordOf, IsApart}
use Rattle.heap_memory.specs.Runs.{IsRun, IsWithin, begins_in, without_run}
use Rattle.heap_memory.specs.RunLaws.{granted_without, granted_before}
use Rattle.paging_core.specs.Address.{is_canonical}
use Rattle.paging_core.specs.Memory.{word_at}
use Rattle.paging_core.specs.Walk.{Place, walk_of}
use Rattle.paging_core.specs.Tree.{IsTree}
use Rattle.page_ranges.specs.RangeUnmapping.{AreUnmapped}
use Rattle.page_ranges.proofs.Unmapped.{unmapped_words}
use Rattle.machine_model.specs.Machine.{Paged}
use Rattle.mapped_regions.specs.Regions.{AreLaid, AreHeld, IsRegionBoundary}
use Rattle.mapped_regions.proofs.Laying.{laid_cut}
use Rattle.mapped_regions.specs.Mapped.{IsPageRange, IsMapped, AreGone, walked_word, word_reached}
use Rattle.mapped_regions.specs.FrameUse.{AreFramesFree}
use Rattle.mapped_regions.proofs.Looked.{first_canonical}
use Rattle.paged_systems.specs.Window.{IsHeapWindow}
use Rattle.paged_systems.specs.Layout.{IsPagedKept}
use Rattle.paged_systems.specs.Words.{grants_of}
use Rattle.paged_systems.proofs.Numbers.{is_outside}
use Rattle.paged_systems.proofs.Releasing.{heap_grants}
use Rattle.paged_systems.proofs.RunPages.{begins, count_is, held, boundary, starts, grants_left, own_bounds, own_granted}
use Rattle.paged_systems.proofs.Still.{granted_canonical, granted_mapped}

-- granted bytes lie in the window
granted_bounds : (p : Paged) (address : ℕ) → IsPagedKept p → IsTrue (is_granted (grants_of p) address) →
    (p.base ≤ address) × (address < p.base + 4096 * p.pages)
granted_bounds p address kept granted = own_bounds p.base p.pages address p.regions kept.mapped.regions (sym (own_granted address p.regions) ∙ granted)

module _ (old new : List ℕ) (free free' : List Bool) (root first pages : ℕ) (some : 0 < pages) (tree : IsTree old root free)
    (gone : AreUnmapped old new free free' root first pages) where
  -- a word of a page that is still mapped is as it was, since it is in no table
  pub word_stays : (page index : ℕ) (place : Place) → index < 512 → walk_of new root page ≡ Some place →
      word_at new place.frame index ≡ word_at old place.frame index
  unfolding walk_of
  word_stays page index place less found = unmapped_words old new free free' root first pages some tree gone (page % 2 ^ 36) index place less found

-- What is behind the first `left` bytes of a run: pages of the window, which regions have.
module _ (p : Paged) (at size left : ℕ) (kept : IsPagedKept p) (run : IsRun (grants_of p) at (at + size))
    (less : left < size) (in_pages : left % 4096 ≡ 0) where
  end_is : at + left + 4096 * ((size - left) / 4096) ≡ at + size
  end_is = count_is 0 (2 ^ 64) at size left p.regions kept.laid run less in_pages

  pub cut_range : IsPageRange (at + left) ((size - left) / 4096)
  cut_range =
      let first = granted_bounds p (at + left) kept (run.granted (at + left) (omega arith) (omega arith)) in
      let last = granted_bounds p (at + size - 1) kept (run.granted (at + size - 1) (omega arith) (omega arith)) in
      let begin = begins 0 (2 ^ 64) at size left p.regions kept.laid run less in_pages in
      let end = end_is in
      let from : p.base ≤ at + left = first.0 in
      let within : at + size - 1 < p.base + 4096 * p.pages = last.1 in
      let base_whole : p.base % 4096 ≡ 0 = kept.window.whole in
      let half : (p.base / 4096 + p.pages - 1) / 2 ^ 35 ≡ p.base / 4096 / 2 ^ 35 = kept.window.canonical.one_half in
      let same : (at + left) / 4096 * 4096 / 2 ^ 47 ≡ p.base / 4096 * 4096 / 2 ^ 47 = omega arith in (
        omega arith,
        record {
          some = omega arith;
          canonical = ap (λ q. nat_eq q 0 || nat_eq q (2 ^ 17 - 1)) same ∙ kept.window.canonical.canonical;
          one_half = omega arith;
        },
      )

  pub cut_held : AreHeld (at + left) (at + left + 4096 * ((size - left) / 4096)) p.regions
  cut_held = subst (λ (high : ℕ). AreHeld (at + left) high p.regions) (sym end_is) (held 0 (2 ^ 64) at size left p.regions kept.laid run less in_pages)

  pub cut_ends : IsRegionBoundary (at + left + 4096 * ((size - left) / 4096)) p.regions
  cut_ends = subst (λ (high : ℕ). IsRegionBoundary high p.regions) (sym end_is) (boundary 0 (2 ^ 64) at size left p.regions kept.laid run less in_pages)

  -- a whole run begins where a region does
  pub cut_starts : left ≡ 0 → IsRegionBoundary (at + left) p.regions
  cut_starts whole = subst (λ (low : ℕ). IsRegionBoundary low p.regions) (omega (arith, whole))
      (starts 0 (2 ^ 64) at size left p.regions kept.laid run less in_pages)

-- where nothing is behind them, all stays
pub none_behind : (start high : ℕ) (regions : List Grant) → start ≤ high →
    AllByRecursion (λ region. IsApart start high region ⊎ IsWithin start high region) regions →
    without_run high high regions ≡ regions
none_behind start high [] after whole = refl
none_behind start high (region ∷ rest) after whole =
    let more = none_behind start high rest after whole.1 in
    let in_none : begins_in high high region ≡ false = grind (arith, nat_tests) in
    let over_none : (nat_lt region.base high && nat_lt high (region.base + region.size)) ≡ false = elim whole.0 [
      | inl (inl below) ↦ grind (arith, nat_tests)
      | inl (inr above) ↦ grind (arith, nat_tests)
      | inr within ↦ grind (arith, nat_tests)
    ] in
    rw (in_none) (rw over_none (ap (λ gs. region ∷ gs) more))

module _ (old new : Paged) (at size left : ℕ) (kept : IsPagedKept old) (run : IsRun (grants_of old) at (at + size))
    (less : left < size) (in_pages : left % 4096 ≡ 0) (gone : AreGone old new (at + left) ((size - left) / 4096)) where
  low_page : (at + left) % 4096 ≡ 0
  low_page = let a = begins 0 (2 ^ 64) at size left old.regions kept.laid run less in_pages in omega arith

  high_is : at + left + 4096 * ((size - left) / 4096) ≡ at + size
  high_is = count_is 0 (2 ^ 64) at size left old.regions kept.laid run less in_pages

  pub released_regions : grants_of new ≡ without_run (at + left) (at + size) (grants_of old)
  released_regions = ap heap_grants gone.regions ∙ grants_left 0 (2 ^ 64) at size left old.regions kept.laid run less in_pages

  -- every word that stays granted is as it was
  pub released_words : (k : ℕ) → IsWordOf (grants_of new) k → word_reached new k ≡ word_reached old k
  released_words k word =
      let stays : IsTrue (is_granted (without_run (at + left) (at + size) (grants_of old)) k) =
      subst (λ gs. IsTrue (is_granted gs k)) released_regions word.granted in
      let was : IsTrue (is_granted (grants_of old) k) = granted_before (at + left) (at + size) (grants_of old) k stays in
      let exact = granted_without at (at + left) (at + size) (grants_of old) k run.whole (omega arith) (omega arith) in
      let out : (nat_le (at + left) k && nat_lt k (at + size)) ≡ false =
      kept_out (is_granted (grants_of old) k) (nat_le (at + left) k && nat_lt k (at + size)) (sym exact ∙ stays) in
      let canonical : IsTrue (is_canonical (k / 4096 * 4096)) = first_canonical k (granted_canonical old k kept was) in
      let other : (i : ℕ) → i < (size - left) / 4096 → k / 4096 ≡ (at + left) / 4096 + i → ⊥ = λ i in_it same. beyond k i out in_it same in
      let same = gone.gone.others (k / 4096) canonical other in
      place_of (walk_of old.words old.root (k / 4096)) refl (granted_mapped old k k kept was refl) same
    where
      beyond : (k i : ℕ) → (nat_le (at + left) k && nat_lt k (at + size)) ≡ false → i < (size - left) / 4096 → k / 4096 ≡ (at + left) / 4096 + i → ⊥
      beyond k i out in_it same =
          let l = low_page in
          let h = high_is in
          elim (is_outside (at + left) (at + size) k out) [ inl below ↦ omega arith | inr behind ↦ omega arith ]

      -- what was granted, and still is, is outside
      kept_out : (was out : Bool) → (was && not out) ≡ true → out ≡ false
      kept_out true false e = refl
      kept_out true true e = absurd (let no : false ≡ true = e in cc)
      kept_out false out e = absurd (let no : false ≡ true = e in cc)

      place_of : (o : Option Place) → walk_of old.words old.root (k / 4096) ≡ o → IsSome o →
          walk_of new.words old.root (k / 4096) ≡ walk_of old.words old.root (k / 4096) →
          word_reached new k ≡ word_reached old k
      place_of None found some same = cc
      place_of (Some place) found some same =
          let there : walk_of new.words new.root (k / 4096) ≡ Some place = ap (λ (r : ℕ). walk_of new.words r (k / 4096)) gone.gone.root ∙ (same ∙ found) in
          ap (walked_word new.words k) there
          ∙ (word_stays old.words new.words old.free new.free old.root ((at + left) / 4096) ((size - left) / 4096)
          (omega (arith, less, in_pages, low_page, high_is)) kept.mapped.tree gone.gone.gone (k / 4096) (k % 4096 / 8)
          place (omega arith) (same ∙ found)
          ∙ sym (ap (walked_word old.words k) found))

  -- the frames of a whole run are free
  pub released_frames : left ≡ 0 → AreFramesFree old new at (size / 4096)
  released_frames whole = λ page frame above below is.
      gone.frames (cut_starts old at size left kept run less in_pages whole) page frame (omega (arith, whole, above)) (omega (arith, whole, below)) is

-- what a system keeps, it keeps then
pub kept_cut : (old new : Paged) (start pages : ℕ) → start % 4096 ≡ 0 → AreGone old new start pages → IsPagedKept old → IsMapped new → IsPagedKept new
kept_cut old new start pages whole gone kept mapped = record {
  window = subst (λ b. IsHeapWindow b new.pages) (sym gone.gone.base) (subst (IsHeapWindow old.base) (sym gone.gone.pages_is) kept.window);
  mapped = mapped;
  laid = subst (λ regions. AreLaid 0 regions (2 ^ 64)) (sym gone.regions) (laid_cut start pages 0 (2 ^ 64) old.regions whole kept.laid);
}
