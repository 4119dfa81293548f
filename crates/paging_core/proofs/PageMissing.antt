-- The tables that a range misses, if a page of it is mapped.
use Rattle.std.proofs.Common.{◌≡◌, ℕ, zero, suc, ◌+◌, ◌-◌, ◌%◌, ◌^◌, ◌<◌, ◌≤◌, Bool, List, Some, None, sym, ap, ◌∙◌, ◌⊎◌, inl, inr, arith}
use Rattle.paging_core.specs.Address.{IsCanonicalRange}
use Rattle.paging_core.specs.Prefix.{prefix_of}
use Rattle.paging_core.specs.Walk.{Place, reach, top}
use Rattle.paging_core.specs.Missing.{missing_of}
use Rattle.paging_core.specs.Tables.{missing_at}
use Rattle.paging_core.specs.Mapping.{IsPageAdded}
use Rattle.paging_core.specs.declared.page_table.PageBits.{PageBits}
use Rattle.paging_core.proofs.Counts.{absent_for, missing_by_level, missing_one}
use Rattle.paging_core.proofs.LargeMissing.{absent_at}
use Rattle.paging_core.proofs.Ranges.{prefix_le, page_in}
use Rattle.paging_core.proofs.LastEntry.{some_or_none}

module _ (old new : List ℕ) (free free' : List Bool) (root page frame : ℕ) (rights : PageBits)
    (added : IsPageAdded old new free free' root page frame rights) where
  there : (l : ℕ) → l < 4 → (m : Place) × (reach new root l (prefix_of page l) ≡ Some m)
  there l lt = go (some_or_none (reach old root l (prefix_of page l)))
    where
      go : ((m : Place) × (reach old root l (prefix_of page l) ≡ Some m)) ⊎ (reach old root l (prefix_of page l) ≡ None) →
          (m : Place) × (reach new root l (prefix_of page l) ≡ Some m)
      go (inl p) = (p.0, added.stayed l (prefix_of page l) p.0 lt p.1)
      go (inr none) = let t = added.made l lt none in (top t.0, t.1)

  pub page_missing : (first pages : ℕ) → IsCanonicalRange first pages → first ≤ page → page < first + pages →
      missing_of new root first pages + missing_of old root page 1 ≡ missing_of old root first pages
  page_missing first zero range lo hi = absurd (let h : 0 < 0 = range.some in omega arith)
  page_missing first (suc more) range lo hi =
      let x = missing_by_level new root first more in
      let y = missing_by_level old root first more in
      let z = missing_one old root page in
      let a = one 1 (omega arith) in
      let b = one 2 (omega arith) in
      let c = one 3 (omega arith) in
      omega arith
    where
      one : (l : ℕ) → l < 4 → absent_for new root first (first + more) l + missing_at old root page l ≡ absent_for old root first (first + more) l
      one l lt =
          let e : first + (page - first) ≡ page = omega arith in
          let p : page % 2 ^ 36 ≡ first % 2 ^ 36 + (page - first) = ap (λ n. n % 2 ^ 36) (sym e)
          ∙ page_in first (suc more) (page - first) range (omega arith) in
          let q : (first + more) % 2 ^ 36 ≡ first % 2 ^ 36 + more = page_in first (suc more) more range (omega arith) in
          let from : prefix_of first l ≤ prefix_of page l = prefix_le first page l (omega arith) (omega arith) in
          let to : prefix_of page l ≤ prefix_of (first + more) l = prefix_le page (first + more) l (omega arith) (omega arith) in
          let t = there l lt in
          absent_at old new root l (prefix_of page l) t.0 (λ n ne. added.others l n (omega arith) ne) t.1
          (prefix_of (first + more) l + 1 - prefix_of first l) (prefix_of first l) from (omega arith)
