-- The tables that a range misses, if a slot of it is mapped by one entry.
use Rattle.std.proofs.Common.{◌≡◌, ℕ, zero, suc, ◌+◌, ◌-◌, ◌*◌, ◌%◌, ◌^◌, ◌<◌, ◌≤◌, cond, Bool, List, Some, None, refl, sym, ap, ◌∙◌, ◌⊎◌, inl, inr, arith}
use Rattle.std.specs.Prelude.{is_none}
use Rattle.std.proofs.lemmas.Bool.{cases_eq}
use Rattle.paging_core.specs.Address.{IsCanonicalRange}
use Rattle.paging_core.specs.Prefix.{prefix_of}
use Rattle.paging_core.specs.Walk.{Place, reach, top}
use Rattle.paging_core.specs.Missing.{missing_of}
use Rattle.paging_core.specs.Tables.{missing_at}
use Rattle.paging_core.specs.Large.{above, missing_above, IsLargeAdded}
use Rattle.paging_core.specs.declared.page_table.PageBits.{PageBits}
use Rattle.paging_core.proofs.Counts.{absent, absent_none, absent_suc, absent_for, missing_by_level}
use Rattle.paging_core.proofs.Ranges.{absent_same, prefix_le, page_in}
use Rattle.paging_core.proofs.LastEntry.{some_or_none}

absent_past : (old new : List ℕ) (root level count from : ℕ) →
    ((n : ℕ) → from ≤ n → reach new root level n ≡ reach old root level n) → absent new root level from count ≡ absent old root level from count
absent_past old new root level zero from h = absent_none new root level from ∙ sym (absent_none old root level from)
absent_past old new root level (suc count) from h =
    let e = h from (omega arith) in
    let k = absent_past old new root level count (from + 1) (λ n le. h n (omega arith)) in
    rw (absent_suc new root level from count, absent_suc old root level from count, e, k) refl

-- if one prefix has a table now, and all else stays, one is missing fewer if it was missing
pub absent_at : (old new : List ℕ) (root level p : ℕ) (m : Place) → ((n : ℕ) → (n ≡ p → ⊥) → reach new root level n ≡ reach old root level n) →
    reach new root level p ≡ Some m → (count from : ℕ) → from ≤ p → p < from + count →
    absent new root level from count + cond (is_none (reach old root level p)) 1 0 ≡ absent old root level from count
absent_at old new root level p m others there zero from lo hi = absurd (omega arith)
absent_at old new root level p m others there (suc count) from lo hi =
    go (λ ne. absent_at old new root level p m others there count (from + 1) (omega arith) (omega arith)) (cases_eq from p)
  where
    go : ((from ≡ p → ⊥) → absent new root level (from + 1) count + cond (is_none (reach old root level p)) 1 0 ≡ absent old root level (from + 1) count) →
        (from ≡ p) ⊎ (from ≡ p → ⊥) →
        absent new root level from (suc count) + cond (is_none (reach old root level p)) 1 0 ≡ absent old root level from (suc count)
    go ih (inl e) =
        let k = absent_past old new root level count (from + 1) (λ n le. others n (λ x. absurd (omega arith))) in
        let a = absent_suc new root level from count in
        let b = absent_suc old root level from count in
        let z : cond {A = ℕ} (is_none (reach new root level from)) 1 0 ≡ 0 = rw (e, there) refl in
        let o : cond {A = ℕ} (is_none (reach old root level from)) 1 0 ≡ cond (is_none (reach old root level p)) 1 0 =
        ap (λ n. cond (is_none (reach old root level n)) 1 0) e in
        omega arith
    go ih (inr ne) =
        let k = ih ne in
        let a = absent_suc new root level from count in
        let b = absent_suc old root level from count in
        let h : cond {A = ℕ} (is_none (reach new root level from)) 1 0 ≡ cond (is_none (reach old root level from)) 1 0 =
        ap (λ o. cond (is_none o) 1 0) (others from ne) in
        omega arith

module _ (old new : List ℕ) (free free' : List Bool) (root page frame : ℕ) (rights : PageBits)
    (added : IsLargeAdded old new free free' root page frame rights) where
  there : (l : ℕ) → l < 3 → (m : Place) × (reach new root l (above page l) ≡ Some m)
  there l lt = go (some_or_none (reach old root l (above page l)))
    where
      go : ((m : Place) × (reach old root l (above page l) ≡ Some m)) ⊎ (reach old root l (above page l) ≡ None) →
          (m : Place) × (reach new root l (above page l) ≡ Some m)
      go (inl p) = (p.0, added.stayed l (above page l) p.0 (omega arith) p.1)
      go (inr none) = let t = added.made l lt none in (top t.0, t.1)

  pub large_missing : (first pages : ℕ) → IsCanonicalRange first pages → first ≤ 512 * page → 512 * page + 512 ≤ first + pages →
      missing_of new root first pages + missing_above old root page ≡ missing_of old root first pages
  large_missing first zero range lo hi = absurd (let h : 0 < 0 = range.some in omega arith)
  large_missing first (suc more) range lo hi =
      let x = missing_by_level new root first more in
      let y = missing_by_level old root first more in
      let a = one 1 (omega arith) in
      let b = one 2 (omega arith) in
      let c : absent_for new root first (first + more) 3 ≡ absent_for old root first (first + more) 3 =
      absent_same old new root 3 (prefix_of (first + more) 3 + 1 - prefix_of first 3) (prefix_of first 3)
      (λ n. added.others 3 n (omega arith) (λ lt _. absurd (omega arith)) (λ e _. absurd (omega arith))) in
      omega arith
    where
      one : (l : ℕ) → l < 3 → absent_for new root first (first + more) l + missing_at old root (512 * page) l ≡ absent_for old root first (first + more) l
      one l lt =
          let e : first + (512 * page - first) ≡ 512 * page = omega arith in
          let p : (512 * page) % 2 ^ 36 ≡ first % 2 ^ 36 + (512 * page - first) =
          ap (λ n. n % 2 ^ 36) (sym e) ∙ page_in first (suc more) (512 * page - first) range (omega arith) in
          let q : (first + more) % 2 ^ 36 ≡ first % 2 ^ 36 + more = page_in first (suc more) more range (omega arith) in
          let from : prefix_of first l ≤ above page l = prefix_le first (512 * page) l (omega arith) (omega arith) in
          let to : above page l ≤ prefix_of (first + more) l = prefix_le (512 * page) (first + more) l (omega arith) (omega arith) in
          let t = there l lt in
          absent_at old new root l (above page l) t.0
          (λ n ne. added.others l n (omega arith) (λ _ x. ne x) (λ e _. absurd (omega arith))) t.1
          (prefix_of (first + more) l + 1 - prefix_of first l) (prefix_of first l) from (omega arith)
