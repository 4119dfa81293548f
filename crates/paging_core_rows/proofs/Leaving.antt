-- Large pages that were mapped as part of a range end in it, so they end in each part of it that goes up to its end.
use Rattle.std.proofs.Common.{◌≡◌, ℕ, ◌+◌, ◌-◌, ◌*◌, ◌/◌, ◌^◌, ◌<◌, ◌≤◌, Bool, List, Some, None, refl, sym, ap, ◌∙◌, ◌⊎◌, inl, inr, arith}
use Rattle.std.specs.Prelude.{IsSome}
use Rattle.std.proofs.lemmas.Bool.{cases_lt}
use Rattle.paging_core.specs.Prefix.{prefix_of}
use Rattle.paging_core.specs.Walk.{large_of, walk_of, place_with}
use Rattle.paging_core.specs.declared.page_table.PageBits.{PageBits}
use Rattle.page_ranges.specs.RangeMapping.{IsRangeMapped}
use Rattle.page_ranges.specs.RangeUnmapping.{NoLargePageReachesOver}
use Rattle.paging_core.proofs.Prefixes.{walk_reach, small_page}

module _ (old new : List ℕ) (free free' : List Bool) (root first pages stop from count : ℕ) (rights : PageBits)
    (unmapped : (page : ℕ) → walk_of old root page ≡ None)
    (m : IsRangeMapped old new free free' root first pages stop rights)
    (low : first + pages < 2 ^ 20)
    (starts : first ≤ from)
    (to_end : from + count ≡ first + pages) where
  pub part_mapped : (k : ℕ) → k < count → IsSome (walk_of new root (from + k))
  part_mapped k lt =
      let p = m.mapped (from - first + k) (omega arith) in
      let e : from + k ≡ first + (from - first + k) = omega arith in
      let is : walk_of new root (from + k) ≡ Some (place_with p.frame rights) = ap (walk_of new root) e ∙ p.found in
      rw is refl

  pub part_ends : NoLargePageReachesOver new root from count
  part_ends k lt large = go (cases_lt (from + count) (512 * ((from + k) / 512) + 512))
    where
      was : large_of old root (prefix_of (from + k) 3) ≡ None
      was = small_page old root (from + k) (sym (walk_reach old root (from + k)) ∙ unmapped (from + k))

      go : (from + count < 512 * ((from + k) / 512) + 512) ⊎ (512 * ((from + k) / 512) + 512 ≤ from + count) → 512 * ((from + k) / 512) + 512 ≤ from + count
      go (inr x) = x
      go (inl x) =
          let s = m.slots.small (prefix_of (from + k) 3) (λ slot it below e. let t = it.to in omega arith) in
          let none : large_of new root (prefix_of (from + k) 3) ≡ None = s ∙ was in
          absurd (cc)
