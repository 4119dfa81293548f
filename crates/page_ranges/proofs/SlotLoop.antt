-- Going through the slots of a range.
use Rattle.std.proofs.Common.{◌≡◌, ℕ, ◌+◌, ◌-◌, ◌*◌, ◌/◌, ◌%◌, ◌^◌, ◌<◌, ◌≤◌, Bool, false, List, Option, Some, None, refl, sym, ap, ◌∙◌, ◌⊎◌, inl, inr, arith}
use Rattle.std.specs.Prelude.{IsSome, IsTrue}
use Rattle.std.proofs.lemmas.Bool.{cases_lt}
use Rattle.paging_core.specs.Address.{IsCanonicalRange}
use Rattle.paging_core.specs.Memory.{frame_count}
use Rattle.paging_core.specs.Prefix.{prefix_of}
use Rattle.paging_core.specs.Pool.{free_count, FreeBelow}
use Rattle.paging_core.specs.Runs.{IsRunFree}
use Rattle.paging_core.specs.Walk.{Place, reach, large_of, walk_of}
use Rattle.paging_core.specs.Tree.{IsTree}
use Rattle.paging_core.specs.Missing.{missing_of}
use Rattle.paging_core.specs.Large.{slot_of, missing_above, IsSlotEmpty, IsSlotAdded}
use Rattle.page_ranges.specs.RangeMapping.{AreSlotsAdded, IsOpenSlot, IsUsedFor}
use Rattle.paging_core.specs.declared.page_table.PageBits.{PageBits}
use Rattle.paging_core.proofs.Prefixes.{walk_reach}
use Rattle.paging_core.proofs.Counts.{missing_one}
use Rattle.paging_core.proofs.FreshFrame.{free_before}
use Rattle.paging_core.proofs.Ranges.{page_in}
use Rattle.page_ranges.proofs.Pieces.{unmapped_all, unmapped_piece, missing_inside}
use Rattle.page_ranges.proofs.PagesAdded.{pages_start}
use Rattle.page_ranges.proofs.RangeSteps.{none_some, slots_more}

-- if the test for a table is false, there is none
pub no_table : (o : Option Place) (b : Bool) → (IsSome o → IsTrue b) → b ≡ false → o ≡ None
no_table None b h e = refl
no_table (Some x) b h e = let s : IsSome (Some x) = cc in let t = h s in absurd (cc)

pub slots_start : (words : List ℕ) (free : List Bool) (root first pages slot : ℕ) (rights : PageBits) → IsTree words root free → slot * 512 < first + 512 →
    AreSlotsAdded words words free free root first pages slot rights
slots_start words free root first pages slot rights tree before = record {
  pages_added = pages_start words free root first pages rights tree;
  slots = record { large = λ s whole lt. absurd (let h : first ≤ 512 * s = whole.from in omega arith); small = λ n ne. refl };
  tables = λ n. refl;
  others = λ n keeps. refl;
  spent = λ f was unused. was;
  lowest_runs = λ s run large whole lt is less was unused. let h : first ≤ 512 * s = whole.from in omega arith;
  lowest_tables = λ l n table f ll none now left. absurd (cc);
}

-- the slot to go on to depends only on the slots that lie whole in the range
pub slots_to : (old mid : List ℕ) (free free1 : List Bool) (root first pages slot stop : ℕ) (rights : PageBits) →
    AreSlotsAdded old mid free free1 root first pages slot rights →
    ((s : ℕ) → IsOpenSlot old root first pages s → s < slot → s < stop) → ((s : ℕ) → IsOpenSlot old root first pages s → s < stop → s < slot) →
    AreSlotsAdded old mid free free1 root first pages stop rights
slots_to old mid free free1 root first pages slot stop rights added before behind = record {
  pages_added = added.pages_added;
  slots = record {
    large = λ s whole lt. added.slots.large s whole (behind s whole lt);
    small = λ n ne. added.slots.small n (λ s whole lt e. ne s whole (before s whole lt) e);
  };
  tables = added.tables;
  others = added.others;
  spent = λ f was unused. added.spent f was (λ s whole lt. unused s whole (before s whole lt));
  lowest_runs = λ s run large whole lt. added.lowest_runs s run large whole (behind s whole lt);
  lowest_tables = added.lowest_tables;
}

module _ (old mid : List ℕ) (free free1 : List Bool) (root first pages slot : ℕ) (rights : PageBits)
    (range : IsCanonicalRange first pages)
    (known : FreeBelow free (frame_count old))
    (unmapped : (k : ℕ) → k < pages → walk_of old root (first + k) ≡ None)
    (room : pages + missing_of old root first pages ≤ free_count free)
    (before : AreSlotsAdded old mid free free1 root first pages slot rights)
    (from : first ≤ 512 * slot)
    (to : 512 * slot + 512 ≤ first + pages) where
  was : (k : ℕ) → k < 512 → walk_of old root (512 * slot + k) ≡ None
  was k lt =
      let e : 512 * slot + k ≡ first + (512 * slot + k - first) = omega arith in
      ap (walk_of old root) e ∙ unmapped (512 * slot + k - first) (omega arith)

  -- two slots of the range have not the same indices
  apart : (s : ℕ) → first ≤ 512 * s → s < slot → slot_of slot ≡ slot_of s → ⊥
  apart s lo lt e =
      let a = page_in first pages (512 * s - first) range (omega arith) in
      let b = page_in first pages (512 * slot - first) range (omega arith) in
      let x : first + (512 * s - first) ≡ 512 * s = omega arith in
      let y : first + (512 * slot - first) ≡ 512 * slot = omega arith in
      let a' : (512 * s) % 2 ^ 36 ≡ first % 2 ^ 36 + (512 * s - first) = ap (λ n. n % 2 ^ 36) (sym x) ∙ a in
      let b' : (512 * slot) % 2 ^ 36 ≡ first % 2 ^ 36 + (512 * slot - first) = ap (λ n. n % 2 ^ 36) (sym y) ∙ b in
      omega arith

  not_yet : large_of mid root (slot_of slot) ≡ large_of old root (slot_of slot)
  not_yet = before.slots.small (slot_of slot) (λ s whole lt e. apart s whole.from lt e)

  free_now : (k : ℕ) → k < 512 → walk_of mid root (512 * slot + k) ≡ None
  free_now k lt =
      let q : prefix_of (512 * slot + k) 4 / 512 ≡ slot_of slot = omega arith in
      walk_reach mid root (512 * slot + k)
      ∙ (before.others (prefix_of (512 * slot + k) 4) (ap (large_of mid root) q ∙ (not_yet ∙ ap (large_of old root) (sym q)))
      ∙ (sym (walk_reach old root (512 * slot + k)) ∙ was k lt))

  pub slot_empty : reach mid root 3 (slot_of slot) ≡ None → IsSlotEmpty mid root slot
  slot_empty none = record { unmapped = free_now; no_table = none }

  pub slot_room : 512 + missing_above mid root slot ≤ free_count free1
  slot_room =
      let c = before.pages_added.count in
      let u = unmapped_all old root first pages range (λ k lt. sym (walk_reach old root (first + k)) ∙ unmapped k lt) in
      let v = unmapped_piece first pages (512 * slot) 512 range from to (omega arith) mid root
      (λ k lt. sym (walk_reach mid root (512 * slot + k)) ∙ free_now k lt) in
      let m = missing_inside first pages (512 * slot) 1 range from (omega arith) mid root in
      let o = missing_one mid root (512 * slot) in
      omega arith

  pub slots_known : FreeBelow free1 (frame_count mid)
  slots_known f is =
      let h = known f (free_before free free1 before.pages_added.fewer f is) in
      let s = before.pages_added.size in
      omega arith

  -- a slot that has a table is left alone
  pub slots_skip : IsSome (reach mid root 3 (slot_of slot)) → AreSlotsAdded old mid free free1 root first pages (slot + 1) rights
  slots_skip some = record {
    pages_added = before.pages_added;
    slots = record {
      large = λ s whole lt. go s whole lt (cases_lt s slot);
      small = λ n ne. before.slots.small n (λ s whole lt e. ne s whole (omega arith) e);
    };
    tables = before.tables;
    others = before.others;
    spent = λ f was unused. before.spent f was (λ s whole lt. unused s whole (omega (arith, lt)));
    lowest_runs = λ s run large whole lt. lowest s run large whole lt (cases_lt s slot);
    lowest_tables = before.lowest_tables;
  }
    where
      lowest : (s run : ℕ) (large : Place) → IsOpenSlot old root first pages s → s < slot + 1 → (s < slot) ⊎ (slot ≤ s) →
          large_of mid root (slot_of s) ≡ Some large →
          512 * run < large.frame → IsRunFree free run →
          ((f earlier : ℕ) → f / 512 ≡ run → IsOpenSlot old root first pages earlier → earlier < s → ¬ (IsUsedFor mid root earlier f)) → ⊥
      lowest s run large whole lt (inl x) is less was unused = before.lowest_runs s run large whole x is less was unused
      lowest s run large whole lt (inr x) is less was unused =
          let e : s ≡ slot = omega arith in
          let n : reach mid root 3 (slot_of slot) ≡ None = before.tables (slot_of slot) ∙ (ap (λ k. reach old root 3 (slot_of k)) (sym e) ∙ whole.no_table) in
          none_some (reach mid root 3 (slot_of slot)) n some

      go : (s : ℕ) → IsOpenSlot old root first pages s → s < slot + 1 → (s < slot) ⊎ (slot ≤ s) → IsSome (large_of mid root (slot_of s))
      go s whole lt (inl x) = before.slots.large s whole x
      go s whole lt (inr x) =
          let e : s ≡ slot = omega arith in
          let n : reach mid root 3 (slot_of slot) ≡ None = before.tables (slot_of slot) ∙ (ap (λ k. reach old root 3 (slot_of k)) (sym e) ∙ whole.no_table) in
          absurd (none_some (reach mid root 3 (slot_of slot)) n some)

  module _ (new : List ℕ) (free' : List Bool)
      (none : reach mid root 3 (slot_of slot) ≡ None)
      (s : IsSlotAdded mid new free1 free' root slot rights)
      (tree' : IsTree new root free')
      (missing : missing_of new root first pages + missing_above mid root slot ≡ missing_of mid root first pages)
      (count : free_count free' + 512 + missing_above mid root slot ≡ free_count free1) where
    pub slots_next : AreSlotsAdded old new free free' root first pages (slot + 1) rights
    slots_next =
        slots_more mid s.blank new free1 s.left free' root first pages slot s.run rights range from to slots_known before.pages_added.tree (slot_empty none)
        s.taken.0 s.taken.1 s.cleared s.added tree' missing count old free before s.taken.2
