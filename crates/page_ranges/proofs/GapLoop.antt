-- The pages of a range between its large pages are mapped by tables.
use Rattle.std.proofs.Common.{◌≡◌, ℕ, ◌+◌, ◌-◌, ◌*◌, ◌/◌, ◌%◌, ◌^◌, ◌<◌, ◌≤◌, Bool, true, false, List, Option, Some, None, refl, sym, ap, ◌∙◌, ◌⊎◌, inl, inr, arith}
use Rattle.std.specs.Prelude.{IsSome, IsTrue}
use Rattle.std.proofs.lemmas.Bool.{cases_Bool, cases_lt}
use Rattle.paging_core.specs.Address.{is_canonical, IsCanonicalRange}
use Rattle.paging_core.specs.Memory.{word_at, frame_count, byte_of}
use Rattle.paging_core.specs.Prefix.{prefix_of}
use Rattle.paging_core.specs.Pool.{is_frame_free, free_count, FreeBelow, AreLowestTaken}
use Rattle.paging_core.specs.Walk.{Place, reach, large_of, walk_of, reached, page_in, top, place_with}
use Rattle.paging_core.specs.Tree.{IsTree}
use Rattle.paging_core.specs.Missing.{missing_of}
use Rattle.paging_core.specs.Mapping.{IsNewPage, IsRangeAdded}
use Rattle.paging_core.specs.Large.{slot_of}
use Rattle.page_ranges.specs.RangeMapping.{ArePagesAdded, AreSlotsAdded, NoRunAt, IsRangeMapped}
use Rattle.paging_core.specs.declared.page_table.PageBits.{PageBits}
use Rattle.paging_core.proofs.Prefixes.{walk_reach, small_page, none_below, prefix_parent}
use Rattle.paging_core.proofs.Reach.{reach_in, either_way, ByEntry, InLarge}
use Rattle.paging_core.proofs.LastEntry.{some_or_none}
use Rattle.paging_core.proofs.FreshFrame.{free_before}
use Rattle.paging_core.proofs.Ranges.{page_in as range_page, page_canonical, same_number}
use Rattle.paging_core.proofs.PageChanged.{some_place}
use Rattle.paging_core.proofs.PageWritten.{same_byte}
use Rattle.page_ranges.proofs.Pieces.{unmapped_all, unmapped_none, unmapped_piece, missing_inside}
use Rattle.page_ranges.proofs.PagesAdded.{pages_start, pages_more, large_parent, parent}
use Rattle.page_ranges.proofs.RangeSteps.{piece_added}

-- After the slots (`mid`, `free1`), the first `done` pages are all mapped, and the others are as they were then.
pub record AreGapsFilled (mid now : List ℕ) (free1 free2 : List Bool) (root first pages done : ℕ) (rights : PageBits) : Type 0 where
  pub pages_added : ArePagesAdded mid now free1 free2 root first pages rights
  pub lowest : AreLowestTaken free1 free2
  pub ascending :
      (j k : ℕ) (place far : Place) → j < k → k < done → walk_of mid root (first + j) ≡ None → walk_of mid root (first + k) ≡ None →
      walk_of now root (first + j) ≡ Some place → walk_of now root (first + k) ≡ Some far → place.frame < far.frame
  pub larges : (n : ℕ) → large_of now root n ≡ large_of mid root n
  pub mapped : (k : ℕ) → k < done → (place : Place) × (walk_of now root (first + k) ≡ Some place)
  pub rest : (k : ℕ) → done ≤ k → k < pages → walk_of now root (first + k) ≡ walk_of mid root (first + k)

-- the lowest frames are taken, and then again
lowest_on : (free free1 free' : List Bool) → AreLowestTaken free free1 → AreLowestTaken free1 free' →
    ((f : ℕ) → is_frame_free free1 f ≡ false → is_frame_free free' f ≡ false) → AreLowestTaken free free'
lowest_on free free1 free' first second fewer f g was gone left = go (cases_Bool (is_frame_free free1 f))
  where
    go : (is_frame_free free1 f ≡ true) ⊎ (is_frame_free free1 f ≡ false) → f < g
    go (inl still) = second f g still gone left
    go (inr taken) = first f g was taken (free_before free1 free' fewer g left)

pub gaps_start : (mid : List ℕ) (free1 : List Bool) (root first pages : ℕ) (rights : PageBits) → IsTree mid root free1 →
    AreGapsFilled mid mid free1 free1 root first pages 0 rights
gaps_start mid free1 root first pages rights tree = record {
  pages_added = pages_start mid free1 root first pages rights tree;
  lowest = λ f g was gone now. absurd (cc);
  ascending = λ j k place far less lt. absurd (omega arith);
  larges = λ n. refl;
  mapped = λ k lt. absurd (omega arith);
  rest = λ k ge lt. refl;
}

module _ (old mid now : List ℕ) (free free1 free2 : List Bool) (root first pages stop done count : ℕ) (rights : PageBits)
    (range : IsCanonicalRange first pages)
    (known : FreeBelow free (frame_count old))
    (unmapped : (k : ℕ) → k < pages → walk_of old root (first + k) ≡ None)
    (room : pages + missing_of old root first pages ≤ free_count free)
    (slots : AreSlotsAdded old mid free free1 root first pages stop rights)
    (filled : AreGapsFilled mid now free1 free2 root first pages done rights)
    (some : 0 < count)
    (inside : done + count ≤ pages)
    (one_slot : (first + done) % 512 + count ≤ 512) where
  pub gap_known : FreeBelow free2 (frame_count now)
  gap_known f is =
      let h = known f (free_before free free1 slots.pages_added.fewer f (free_before free1 free2 filled.pages_added.fewer f is)) in
      let s = filled.pages_added.size in
      let t = slots.pages_added.size in
      omega arith

  page_at : (k : ℕ) → first + done + k ≡ first + (done + k)
  page_at k = omega arith

  slot_at : (k : ℕ) → k < count → prefix_of (first + done + k) 3 ≡ slot_of ((first + done) / 512)
  slot_at k lt = let e : (first + done + k) / 512 ≡ (first + done) / 512 = omega arith in omega arith

  module _ (small : large_of now root (slot_of ((first + done) / 512)) ≡ None) where
    pub gap_unmapped : (k : ℕ) → k < count → walk_of now root (first + done + k) ≡ None
    gap_unmapped k lt =
        let none : walk_of old root (first + done + k) ≡ None = ap (walk_of old root) (page_at k) ∙ unmapped (done + k) (omega arith) in
        let q : prefix_of (first + done + k) 4 / 512 ≡ prefix_of (first + done + k) 3 = prefix_parent (first + done + k) 3 (omega arith) in
        let before : large_of old root (prefix_of (first + done + k) 3) ≡ None =
        small_page old root (first + done + k) (sym (walk_reach old root (first + done + k)) ∙ none) in
        let then : large_of mid root (prefix_of (first + done + k) 3) ≡ None =
        ap (large_of mid root) (slot_at k lt) ∙ (sym (filled.larges (slot_of ((first + done) / 512))) ∙ small) in
        let was : walk_of mid root (first + done + k) ≡ None =
        walk_reach mid root (first + done + k)
        ∙ (slots.others (prefix_of (first + done + k) 4) (ap (large_of mid root) q ∙ (then ∙ (sym before ∙ ap (large_of old root) (sym q))))
        ∙ (sym (walk_reach old root (first + done + k)) ∙ none)) in
        ap (walk_of now root) (page_at k) ∙ (filled.rest (done + k) (omega arith) (omega arith) ∙ (ap (walk_of mid root) (sym (page_at k)) ∙ was))

    pub gap_room : count + missing_of now root (first + done) count ≤ free_count free2
    gap_room =
        let b = slots.pages_added.count in
        let c = filled.pages_added.count in
        let u = unmapped_all old root first pages range (λ k lt. sym (walk_reach old root (first + k)) ∙ unmapped k lt) in
        let v = unmapped_piece first pages (first + done) count range (omega arith) (omega arith) some now root
        (λ k lt. sym (walk_reach now root (first + done + k)) ∙ gap_unmapped k lt) in
        let m = missing_inside first pages (first + done) count range (omega arith) (omega arith) now root in
        omega arith

    module _ (new : List ℕ) (free' : List Bool) (next : IsRangeAdded now new free2 free' root (first + done) count rights) where
      mapped_of : (k : ℕ) → k < done + count → (k < done) ⊎ (done ≤ k) → (place : Place) × (walk_of new root (first + k) ≡ Some place)
      mapped_of k lt (inl x) = let p = filled.mapped k x in (p.0, next.pages_stay (first + k) p.0 p.1)
      mapped_of k lt (inr x) =
          let p = next.mapped (k - done) (omega arith) in
          let e : first + k ≡ first + done + (k - done) = omega arith in
          (place_with p.frame rights, ap (walk_of new root) e ∙ p.found)

      -- a page that is mapped already
      page_before : (j : ℕ) (place : Place) → j < done → walk_of new root (first + j) ≡ Some place → walk_of now root (first + j) ≡ Some place
      page_before j place lt is =
          let p = filled.mapped j lt in
          let s = next.pages_stay (first + j) p.0 p.1 in
          let e : p.0 ≡ place = cc in
          p.1 ∙ ap Some e

      ascending : (j k : ℕ) (place far : Place) → j < k → k < done + count → walk_of mid root (first + j) ≡ None → walk_of mid root (first + k) ≡ None →
          walk_of new root (first + j) ≡ Some place → walk_of new root (first + k) ≡ Some far → (j < done) ⊎ (done ≤ j) →
          (k < done) ⊎ (done ≤ k) → place.frame < far.frame
      ascending j k place far less lt j_was k_was j_is k_is (inl a) (inl b) =
          filled.ascending j k place far less b j_was k_was (page_before j place a j_is) (page_before k far b k_is)
      ascending j k place far less lt j_was k_was j_is k_is (inl a) (inr b) =
          let here = page_before j place a j_is in
          let page = next.mapped (k - done) (omega arith) in
          let e : first + k ≡ first + done + (k - done) = omega arith in
          let s : walk_of new root (first + k) ≡ Some (place_with page.frame rights) = ap (walk_of new root) e
          ∙ page.found in
          let same : place_with page.frame rights ≡ far = cc in
          let g : page.frame ≡ far.frame = ap (λ m. m.frame) same in
          filled.lowest place.frame far.frame (filled.pages_added.added (first + j) place j_was here).was_free
          (filled.pages_added.tree.used 4 (prefix_of (first + j) 4) place (omega arith) (sym (walk_reach now root (first + j)) ∙ here))
          (ap (is_frame_free free2) (sym g) ∙ page.was_free)
      ascending j k place far less lt j_was k_was j_is k_is (inr a) (inl b) = absurd (omega arith)
      ascending j k place far less lt j_was k_was j_is k_is (inr a) (inr b) =
          let x : first + done + (j - done) ≡ first + j = omega arith in
          let y : first + done + (k - done) ≡ first + k = omega arith in
          next.ascending (j - done) (k - done) place far (omega arith) (omega arith) (ap (walk_of new root) x ∙ j_is) (ap (walk_of new root) y ∙ k_is)

      pub gap_next : AreGapsFilled mid new free1 free' root first pages (done + count) rights
      gap_next = record {
        pages_added = pages_more mid now new free1 free2 free' root first pages rights filled.pages_added
            (piece_added now new free2 free' root first pages (first + done) count rights range (omega arith) (omega arith) some gap_unmapped next);
        lowest = lowest_on free1 free2 free' filled.lowest next.lowest next.fewer;
        ascending = λ j k place far less lt j_was k_was j_is k_is. ascending j k place far less lt j_was k_was j_is k_is (cases_lt j done) (cases_lt k done);
        larges = λ n. next.larges n ∙ filled.larges n;
        mapped = λ k lt. mapped_of k lt (cases_lt k done);
        rest = λ k ge lt.
            walk_reach new root (first + k)
            ∙ (next.others 4 (prefix_of (first + k) 4) (omega arith) (λ j lj e.
            let a = range_page first pages k range lt in
            let b = range_page first pages (done + j) range (omega arith) in
            let f = ap (λ n. n % 2 ^ 36) (page_at j) in
            omega arith)
            ∙ (sym (walk_reach now root (first + k)) ∙ filled.rest k (omega arith) lt));
      }

  -- the pages of a large page are mapped already
  pub gap_skip : IsSome (large_of now root (slot_of ((first + done) / 512))) → AreGapsFilled mid now free1 free2 root first pages (done + count) rights
  gap_skip large = record {
    pages_added = filled.pages_added;
    lowest = filled.lowest;
    ascending = λ j k place far less lt j_was k_was j_is k_is. ascending j k place far less lt j_was k_was j_is k_is (cases_lt k done);
    larges = filled.larges;
    mapped = λ k lt. mapped_of k lt (cases_lt k done);
    rest = λ k ge lt. filled.rest k (omega arith) lt;
  }
    where
      ascending : (j k : ℕ) (place far : Place) → j < k → k < done + count → walk_of mid root (first + j) ≡ None → walk_of mid root (first + k) ≡ None →
          walk_of now root (first + j) ≡ Some place → walk_of now root (first + k) ≡ Some far → (k < done) ⊎ (done ≤ k) → place.frame < far.frame
      ascending j k place far less lt j_was k_was j_is k_is (inl x) = filled.ascending j k place far less x j_was k_was j_is k_is
      ascending j k place far less lt j_was k_was j_is k_is (inr x) = let same = filled.rest k x (omega arith) in absurd (cc)

      mapped_of : (k : ℕ) → k < done + count → (k < done) ⊎ (done ≤ k) → (place : Place) × (walk_of now root (first + k) ≡ Some place)
      mapped_of k lt (inl x) = filled.mapped k x
      mapped_of k lt (inr x) =
          let b = some_place (large_of now root (slot_of ((first + done) / 512))) large in
          let e : first + k ≡ first + done + (k - done) = omega arith in
          let q : prefix_of (first + k) 4 / 512 ≡ prefix_of (first + k) 3 = prefix_parent (first + k) 3 (omega arith) in
          let s : prefix_of (first + k) 3 ≡ slot_of ((first + done) / 512) = ap (λ p. prefix_of p 3) e ∙ slot_at (k - done) (omega arith) in (
            page_in (prefix_of (first + k) 4 % 512) b.0,
            walk_reach now root (first + k) ∙ reach_in now root (prefix_of (first + k) 4) b.0 (ap (large_of now root) (q ∙ s) ∙ b.1),
          )

-- all pages are mapped
module _ (old mid new : List ℕ) (free free1 free' : List Bool) (root first pages stop done : ℕ) (rights : PageBits)
    (range : IsCanonicalRange first pages)
    (unmapped : (k : ℕ) → k < pages → walk_of old root (first + k) ≡ None)
    (slots : AreSlotsAdded old mid free free1 root first pages stop rights)
    (full : NoRunAt old free1 root first pages stop)
    (filled : AreGapsFilled mid new free1 free' root first pages done rights)
    (whole : pages ≤ done) where
  all : ArePagesAdded old new free free' root first pages rights
  all = pages_more old mid new free free1 free' root first pages rights slots.pages_added filled.pages_added

  met : (k : ℕ) → k < pages → (place : Place) × (reach new root 4 (prefix_of (first + k) 4) ≡ Some place)
  met k lt = let p = filled.mapped k (omega arith) in (p.0, sym (walk_reach new root (first + k)) ∙ p.1)

  new_page : (k : ℕ) → k < pages → IsNewPage new free free' root (first + k) rights
  new_page k lt =
      let p = filled.mapped k (omega arith) in
      let x = all.added (first + k) p.0 (unmapped k lt) p.1 in
      record {
        frame = p.0.frame;
        found = p.1 ∙ ap Some x.granted_all;
        was_free = x.was_free;
        taken = all.tree.used 4 (prefix_of (first + k) 4) p.0 (omega arith) (let m = met k lt in sym (walk_reach new root (first + k)) ∙ p.1);
        zeros = x.zeros;
      }

  -- the table of two indices of a page that is mapped
  second : (k : ℕ) → k < pages → (m : Place) × (reach new root 2 (prefix_of (first + k) 2) ≡ Some m)
  second k lt = go (either_way new root (prefix_of (first + k) 4) (met k lt).0 (met k lt).1)
    where
      p : prefix_of (first + k) 4 / 512 ≡ prefix_of (first + k) 3
      p = prefix_parent (first + k) 3 (omega arith)

      s : prefix_of (first + k) 4 / 512 ≡ 512 * prefix_of (first + k) 2 + prefix_of (first + k) 3 % 512
      s = let q : prefix_of (first + k) 3 / 512 ≡ prefix_of (first + k) 2 = prefix_parent (first + k) 2 (omega arith) in let e = p in omega arith

      go : ByEntry new root (prefix_of (first + k) 4) (met k lt).0 ⊎ InLarge new root (prefix_of (first + k) 4) (met k lt).0 →
          (m : Place) × (reach new root 2 (prefix_of (first + k) 2) ≡ Some m)
      go (inl x) = parent new root 2 (prefix_of (first + k) 2) (prefix_of (first + k) 3 % 512) x.table (omega arith)
          (omega arith) (ap (reach new root 3) (sym s) ∙ x.met)
      go (inr x) = large_parent new root (prefix_of (first + k) 2) (prefix_of (first + k) 3 % 512) x.large (omega arith)
          (ap (large_of new root) (sym s) ∙ x.met)

  tables : (l k : ℕ) → l < 3 → k < pages → (table : ℕ) × (reach new root l (prefix_of (first + k) l) ≡ Some (top table))
  tables l k ll lt = go (some_or_none (reach new root l (prefix_of (first + k) l)))
    where
      go : ((m : Place) × (reach new root l (prefix_of (first + k) l) ≡ Some m)) ⊎ (reach new root l (prefix_of (first + k) l) ≡ None) →
          (table : ℕ) × (reach new root l (prefix_of (first + k) l) ≡ Some (top table))
      go (inl m) = (m.0.frame, m.1 ∙ ap Some (all.tree.rights l (prefix_of (first + k) l) m.0 (omega arith) m.1))
      go (inr none) =
          let z = none_below new root (first + k) l (2 - l) (omega arith) none in
          let e : l + (2 - l) ≡ 2 = omega arith in
          let y : reach new root 2 (prefix_of (first + k) 2) ≡ None = ap (λ j. reach new root j (prefix_of (first + k) j)) (sym e) ∙ z in
          let x = second k lt in
          absurd (cc)

  last_tables : (k : ℕ) → k < pages →
      IsSome (large_of new root (prefix_of (first + k) 3)) ⊎ ((table : ℕ) × (reach new root 3 (prefix_of (first + k) 3) ≡ Some (top table)))
  last_tables k lt = go (either_way new root (prefix_of (first + k) 4) (met k lt).0 (met k lt).1)
    where
      p : prefix_of (first + k) 4 / 512 ≡ prefix_of (first + k) 3
      p = prefix_parent (first + k) 3 (omega arith)

      is_some : (o : Option Place) (x : Place) → o ≡ Some x → IsSome o
      is_some None x e = absurd (cc)
      is_some (Some y) x e = cc

      go : ByEntry new root (prefix_of (first + k) 4) (met k lt).0 ⊎ InLarge new root (prefix_of (first + k) 4) (met k lt).0 →
          IsSome (large_of new root (prefix_of (first + k) 3)) ⊎ ((table : ℕ) × (reach new root 3 (prefix_of (first + k) 3) ≡ Some (top table)))
      go (inl x) =
          let h : reach new root 3 (prefix_of (first + k) 3) ≡ Some x.table = ap (reach new root 3) (sym p) ∙ x.met in
          inr (x.table.frame, h ∙ ap Some (all.tree.rights 3 (prefix_of (first + k) 3) x.table (omega arith) h))
      go (inr x) = inl (is_some (large_of new root (prefix_of (first + k) 3)) x.large (ap (large_of new root) (sym p) ∙ x.met))

  pub range_mapped : IsRangeMapped old new free free' root first pages stop rights
  range_mapped = record {
    between = mid;
    left = free1;
    by_slots = slots;
    none_left = full;
    by_tables = filled.pages_added;
    lowest = filled.lowest;
    ascending = λ j k place far less lt. filled.ascending j k place far less (omega arith);
    pages_added = all;
    slots = record {
      large = λ slot it lt. rw (filled.larges (slot_of slot)) (slots.slots.large slot it lt);
      small = λ n ne. filled.larges n ∙ slots.slots.small n ne;
    };
    no_run = λ slot it le run free_now. full slot it le run (λ f e. free_before free1 free' filled.pages_added.fewer f (free_now f e));
    mapped = new_page;
    tables = tables;
    last_tables = last_tables;
    count =
        let c = all.count in
        let u = unmapped_all old root first pages range (λ k lt. sym (walk_reach old root (first + k)) ∙ unmapped k lt) in
        let v = unmapped_none new root first pages range met in
        omega arith;
  }

  pub mapped_elsewhere : (other : ℕ) → IsTrue (is_canonical (other * 4096)) → ((k : ℕ) → k < pages → other ≡ first + k → ⊥) →
      walk_of new root other ≡ walk_of old root other
  mapped_elsewhere other canonical ne =
      walk_reach new root other
      ∙ (all.others 4 (prefix_of other 4) (omega arith) (λ k lk e.
      ne k lk (same_number other (first + k) canonical (page_canonical first pages k range lk) (omega arith)))
      ∙ sym (walk_reach old root other))

  zero_byte : (k : ℕ) → byte_of 0 k ≡ 0
  zero_byte k = omega arith

  pub mapped_zeros : (address k : ℕ) → k < pages → address / 4096 ≡ first + k → reached new root address ≡ Some 0
  mapped_zeros address k lt at =
      let p = new_page k lt in
      let z : word_at new p.frame (address % 4096 / 8) ≡ 0 = p.zeros (address % 4096 / 8) (omega arith) in
      let b : byte_of (word_at new p.frame (address % 4096 / 8)) (address % 8) ≡ 0 = rw z (zero_byte (address % 8)) in
      rw (at, p.found) (ap Some b)

  pub mapped_bytes : (address : ℕ) → IsSome (walk_of old root (address / 4096)) → reached new root address ≡ reached old root address
  mapped_bytes address is =
      let p = some_place (walk_of old root (address / 4096)) is in
      let now : walk_of new root (address / 4096) ≡ Some p.0 =
      walk_reach new root (address / 4096)
      ∙ all.stayed 4 (prefix_of (address / 4096) 4) p.0 (omega arith) (sym (walk_reach old root (address / 4096)) ∙ p.1) in
      same_byte old new root address p.0 p.0 p.1 now refl (all.bytes_stay (address / 4096) p.0 (address % 4096 / 8) p.1 (omega arith))
