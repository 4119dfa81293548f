-- The entry that maps a slot gets other rights.
use Rattle.std.proofs.Common.{◌≡◌, ℕ, ◌+◌, ◌*◌, ◌/◌, ◌%◌, ◌^◌, ◌<◌, Bool, List, set, Some, None, refl, sym, ap, ◌∙◌, ◌⊎◌, inl, inr, arith}
use Rattle.std.proofs.lemmas.Bool.{cases_eq}
use Rattle.paging_core.specs.Area.{Area}
use Rattle.paging_core.specs.Entry.{large_entry}
use Rattle.paging_core.specs.Memory.{frame_count}
use Rattle.paging_core.specs.Prefix.{prefix_of}
use Rattle.paging_core.specs.Walk.{Place, step, large_step, reach, walk_of, reached, top, place_with}
use Rattle.paging_core.specs.Tree.{IsTreeIn}
use Rattle.paging_core.specs.Large.{slot_of, above, IsLargeEntry}
use Rattle.paging_core.specs.LargeChanges.{IsLargeRegranted, AreLargeGranted}
use Rattle.paging_core.specs.declared.page_table.PageBits.{PageBits}
use Rattle.paging_core.proofs.Plain.{plain_large}
use Rattle.paging_core.proofs.Reach.{large_no_table}
use Rattle.paging_core.proofs.Prefixes.{walk_reach}
use Rattle.paging_core.proofs.Made.{large_below, large_small}
use Rattle.paging_core.proofs.LastEntry.{some_or_none}
use Rattle.paging_core.proofs.LargeAdded.{step_large}
use Rattle.paging_core.proofs.LargeGone.{entry_size, entry_word, entry_large, entry_larges, entry_others, entry_pages, entry_elsewhere, entry_tree, entry_bytes, entry_set}
use Rattle.paging_core.proofs.Areas.{bytes_kept}
use Rattle.paging_core.specs.Outcomes.{IsBeside, KeepsBytes}

module _ (old new : List ℕ) (root page : ℕ) (rights : PageBits)
    (root_in : root < frame_count old)
    (one : IsLargeRegranted old new root page rights) where
  value : ℕ
  value = large_entry one.large.frame rights

  module _ {area : Area} (free : List Bool) (tree : IsTreeIn area old root free) where
    frames : (one.large.frame % 512 ≡ 0) × (one.large.frame + 511 < frame_count new)
    frames =
        let b = large_below old root (slot_of page) one.large one.was in
        let s = entry_size old new root page (large_entry one.large.frame rights) one.large one.table root_in one.was one.met one.words in
        (b.0, omega (arith, b.1))

    small : one.large.frame < 2 ^ 40
    small = large_small old root (slot_of page) one.large one.was

    maps : large_step new one.table (slot_of page % 512) ≡ Some (place_with one.large.frame rights)
    maps =
        let r : one.table ≡ top one.table.frame = tree.rights 2 (above page 2) one.table (omega arith) one.met in
        ap (λ t. large_step new t (slot_of page % 512)) r
        ∙ step_large new one.table.frame (slot_of page % 512) one.large.frame rights small frames.0 frames.1
        (entry_word old new root page (large_entry one.large.frame rights) one.large one.table root_in one.was one.met one.words)

    no_step : step new 2 one.table (slot_of page % 512) ≡ None
    no_step = large_no_table new one.table (place_with one.large.frame rights) (slot_of page % 512) maps

    keeps : (now : Place) → large_step new one.table (slot_of page % 512) ≡ Some now → now.frame ≡ one.large.frame
    keeps now is =
        let q : Some now ≡ Some (place_with one.large.frame rights) = sym is ∙ maps in
        let r : now ≡ place_with one.large.frame rights = cc in
        ap (λ p. p.frame) r

    pub granted_tree : IsTreeIn area new root free
    granted_tree =
        entry_tree old new root page (large_entry one.large.frame rights) one.large one.table root_in one.was one.met one.words free tree no_step keeps
        (λ _. plain_large new one.large.frame rights small frames.0 frames.1)

    in_slot : (n : ℕ) → n / 512 ≡ slot_of page → reach new root 4 n ≡ Some (place_with (one.large.frame + n % 512) rights)
    in_slot n e =
        entry_pages old new root page (large_entry one.large.frame rights) one.large one.table root_in one.was one.met one.words free tree no_step n
        (place_with one.large.frame rights) e maps

    pub large_granted : AreLargeGranted old new root page rights
    large_granted = record {
      large = one.large;
      was = one.was;
      size = entry_size old new root page (large_entry one.large.frame rights) one.large one.table root_in one.was one.met one.words;
      there = λ k lt.
          let p : prefix_of (512 * page + k) 4 / 512 ≡ slot_of page = omega arith in
          let q : prefix_of (512 * page + k) 4 % 512 ≡ k = omega arith in
          walk_reach new root (512 * page + k)
          ∙ (in_slot (prefix_of (512 * page + k) 4) p ∙ ap (λ j. Some (place_with (one.large.frame + j) rights)) q);
      stays = entry_large old new root page (large_entry one.large.frame rights) one.large one.table root_in one.was one.met one.words free tree no_step ∙ maps;
      others = entry_others old new root page (large_entry one.large.frame rights) one.large one.table root_in one.was one.met one.words free tree no_step;
      larges = entry_larges old new root page (large_entry one.large.frame rights) one.large one.table root_in one.was one.met one.words free tree no_step;
    }

    pub granted_elsewhere : (other : ℕ) → (other / 512 % 2 ^ 27 ≡ slot_of page → ⊥) → walk_of new root other ≡ walk_of old root other
    granted_elsewhere =
        entry_elsewhere old new root page (large_entry one.large.frame rights) one.large one.table root_in one.was one.met one.words free tree no_step

    -- no byte of any page is changed
    pub granted_bytes : KeepsBytes area old new root
    granted_bytes = bytes_kept area old new root (λ address beside. byte address beside (some_or_none (walk_of new root (address / 4096))))
      where
        gone : (address : ℕ) → reach new root 4 (prefix_of (address / 4096) 4) ≡ None →
            (prefix_of (address / 4096) 4 / 512 ≡ slot_of page) ⊎ (prefix_of (address / 4096) 4 / 512 ≡ slot_of page → ⊥) →
            reach old root 4 (prefix_of (address / 4096) 4) ≡ None
        gone address none (inl x) = let h = in_slot (prefix_of (address / 4096) 4) x in absurd (cc)
        gone address none (inr x) =
            sym (entry_others old new root page (large_entry one.large.frame rights) one.large one.table root_in one.was one.met one.words free tree no_step
            4 (prefix_of (address / 4096) 4) (omega arith) (λ _ e. x e)) ∙ none

        byte : (address : ℕ) → IsBeside area old root (address / 4096) →
            ((now : Place) × (walk_of new root (address / 4096) ≡ Some now)) ⊎ (walk_of new root (address / 4096) ≡ None) →
            reached new root address ≡ reached old root address
        byte address beside (inl p) =
            entry_bytes old new root page (large_entry one.large.frame rights) one.large one.table root_in one.was one.met one.words free tree no_step keeps
            (λ _. plain_large new one.large.frame rights small frames.0 frames.1) address (rw p.1 refl) beside
        byte address beside (inr none) =
            let e : walk_of old root (address / 4096) ≡ None =
            walk_reach old root (address / 4096)
            ∙ gone address (sym (walk_reach new root (address / 4096)) ∙ none) (cases_eq (prefix_of (address / 4096) 4 / 512) (slot_of page)) in
            rw (none, e) refl

-- the entry of the slot gets the rights
pub large_regranted : (old new : List ℕ) (root page table index : ℕ) (rights : PageBits) (large : Place) (entry : IsLargeEntry old root page table index large) →
    new ≡ set old (512 * table + index) (large_entry large.frame rights) → IsLargeRegranted old new root page rights
large_regranted old new root page table index rights large entry written = record {
  large = large;
  table = entry.met;
  was = entry.found;
  met = entry.reached;
  words = entry_set old new root page table index (large_entry large.frame rights) large entry written;
}
