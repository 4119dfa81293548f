-- What a changed entry of a page or a slot does, seen from inside: the root stays, and other words are there.
use Rattle.std.proofs.Common.{◌≡◌, ℕ, List, Bool, refl, sym, subst, ◌+◌, ◌*◌, ◌%◌, ap, set, ◌∙◌, arith}
use Rattle.std.specs.Prelude.{IfSome}
use Rattle.paging_core.specs.Area.{Area}
use Rattle.paging_core.specs.Outcomes.{IsPageTakenOut, IsPageRegranted, IsLargeTakenOut, IsSlotRegranted}
use Rattle.paging_core.specs.PageChanges.{removal, regrant, IsPageChanged}
use Rattle.paging_core.specs.declared.page_table.PageBits.{PageBits}
use Rattle.paging_core.specs.Entry.{page_entry, large_entry}
use Rattle.paging_core.specs.Large.{IsLargeCleared}
use Rattle.paging_core.specs.LargeChanges.{IsLargeRegranted}
use Rattle.kernel_tables.specs.Flush.{page_alone, pages_of_slot}
use Rattle.kernel_tables.proofs.KeptWords.{entry_words, alone_is, slot_has, slot_index}
use Rattle.kernel_tables.specs.Changes.{IsEntryCleared, IsEntryGranted, IsLargeSlotCleared, IsLargeSlotGranted}
use Rattle.paging_core.specs.Prefix.{prefix_of}
use Rattle.paging_core.specs.Walk.{Place}
use Rattle.kernel_tables.specs.TableState.{TableState, leads}
use Rattle.kernel_tables.proofs.Changed.{only_seen, other_page, other_slot}
use Rattle.kernel_tables.proofs.RangeChanged.{AreAlike, slot_granted}

-- the tables with these words
abbrev pub with_words : TableState → List ℕ → Area → TableState
with_words inside words area = record { words = words; area = area; root = inside.root; free = inside.free; shared = inside.shared }

module _ {old inside : TableState} {words : List ℕ} {area : Area} {free : List Bool} (view : inside ≡ old) (same : area ≡ inside.area) where
  pub entry_cleared : {page frame : ℕ} → IsPageTakenOut area inside.words words inside.root free page →
      IsPageChanged inside.words words inside.root page removal →
      IfSome (leads inside page) (λ place. frame ≡ place.frame) →
      IsEntryCleared old (with_words inside words area) page frame
  entry_cleared {page} {frame} gone removed led =
      let all = gone.pages in
      subst (λ (s : TableState). IsEntryCleared s (with_words inside words area) page frame) view (record {
        only = only_seen refl same all.size (λ l n met lt is. all.stayed l n (omega (arith, lt)) (λ e. absurd (omega (arith, lt, e))) ∙ is)
            (λ other canonical not. gone.elsewhere other canonical (other_page page other not));
        free = refl;
        led = led;
        unmapped = gone.unmapped;
        removed = removed;
        larges = all.larges;
        words = entry_words (page_alone page) inside words area page 3 0 removed.table (alone_is page) (omega arith) removed.met removed.words
            (λ l n lt. all.stayed l n (omega (arith, lt)) (λ e. absurd (omega (arith, lt, e))));
      })

  pub entry_granted : {page : ℕ} {rights : PageBits} (bits : Place → PageBits) → IsPageRegranted area inside.words words inside.root free page rights →
      (changed : IsPageChanged inside.words words inside.root page (regrant rights)) → rights ≡ bits changed.place →
      IsEntryGranted old (with_words inside words area) page bits
  entry_granted {page} {rights} bits regranted changed given =
      let all = regranted.pages in
      subst (λ (s : TableState). IsEntryGranted s (with_words inside words area) page bits) view (record {
        only = only_seen refl same all.size (λ l n met lt is. all.stayed l n (omega (arith, lt)) (λ e. absurd (omega (arith, lt, e))) ∙ is)
            (λ other canonical not. regranted.elsewhere other canonical (other_page page other not));
        free = refl;
        granted = rw (changed.was, sym given) (rw changed.was at regranted.granted);
        changed = record {
          place = changed.place;
          table = changed.table;
          was = changed.was;
          met = changed.met;
          words = changed.words
              ∙ ap (λ r. set inside.words (512 * changed.table.frame + prefix_of page 4 % 512) (page_entry changed.place.frame r)) given;
        };
        larges = all.larges;
        words = entry_words (page_alone page) inside words area page 3 (page_entry changed.place.frame rights) changed.table (alone_is page) (omega arith)
            changed.met changed.words (λ l n lt. all.stayed l n (omega (arith, lt)) (λ e. absurd (omega (arith, lt, e))));
      })

  pub slot_cleared : {slot : ℕ} → IsLargeTakenOut area inside.words words inside.root free slot → IsLargeCleared inside.words words inside.root slot →
      IsLargeSlotCleared old (with_words inside words area) slot
  slot_cleared {slot} gone cleared =
      let all = gone.removed in
      subst (λ (s : TableState). IsLargeSlotCleared s (with_words inside words area) slot) view (record {
        only = only_seen refl same all.size (λ l n met lt is. all.others l n (omega (arith, lt)) (λ e _. absurd (omega (arith, lt, e))) ∙ is)
            (λ other canonical not. gone.elsewhere other canonical (other_slot slot other not));
        free = refl;
        unmapped = all.gone;
        gone = all.no_large;
        larges = all.larges;
        words = entry_words (pages_of_slot slot) inside words area (512 * slot) 2 0 cleared.table (slot_has slot) (omega arith) cleared.met
            (cleared.words ∙ ap (λ i. set inside.words (512 * cleared.table.frame + i) 0) (slot_index slot))
            (λ l n lt. all.others l n (omega (arith, lt)) (λ e _. absurd (omega (arith, lt, e))));
      })

  pub slot_has_bits : {slot : ℕ} {rights : PageBits} (bits : Place → PageBits) (regranted : IsSlotRegranted area inside.words words inside.root free slot rights) →
      IsLargeRegranted inside.words words inside.root slot rights → rights ≡ bits regranted.granted.large → AreAlike bits →
      IsLargeSlotGranted old (with_words inside words area) slot bits
  slot_has_bits {slot} {rights} bits regranted written given alike =
      let all = regranted.granted in
      subst (λ (s : TableState). IsLargeSlotGranted s (with_words inside words area) slot bits) view (record {
        only = only_seen refl same all.size (λ l n met lt is. all.others l n (omega (arith, lt)) (λ e _. absurd (omega (arith, lt, e))) ∙ is)
            (λ other canonical not. regranted.elsewhere other canonical (other_slot slot other not));
        free = refl;
        granted = slot_granted inside.words words inside.root slot rights bits all given alike;
        large = rw (all.was, sym given) all.stays;
        larges = all.larges;
        words = entry_words (pages_of_slot slot) inside words area (512 * slot) 2 (large_entry written.large.frame rights) written.table (slot_has slot)
            (omega arith) written.met
            (written.words ∙ ap (λ i. set inside.words (512 * written.table.frame + i) (large_entry written.large.frame rights)) (slot_index slot))
            (λ l n lt. all.others l n (omega (arith, lt)) (λ e _. absurd (omega (arith, lt, e))));
      })
