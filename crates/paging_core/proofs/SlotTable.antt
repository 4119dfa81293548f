-- The entry of a slot that mapped a large page names a table, whose first entries map the same frames with the same rights.
use Rattle.std.proofs.Common.{◌≡◌, ℕ, ◌^◌, ◌+◌, ◌/◌, ◌%◌, ◌<◌, ◌≤◌, true, List, length, Some, None, sym, ap, ◌∙◌, arith}
use Rattle.paging_core.specs.Entry.{has_bit, table_entry, page_entry}
use Rattle.paging_core.specs.Plain.{IsPlain}
use Rattle.paging_core.specs.Memory.{word_at, frame_count}
use Rattle.paging_core.specs.Walk.{Place, step, reach, large_of, top, page_in}
use Rattle.paging_core.specs.Large.{slot_of, above}
use Rattle.paging_core.specs.declared.page_table.PageBits.{PageBits}
use Rattle.paging_core.proofs.Plain.{plain_page}
use Rattle.paging_core.proofs.Reach.{reach_last, reach_in}
use Rattle.paging_core.proofs.Slot.{slot_there, slot_large, slot_larges, slot_others}
use Rattle.paging_core.proofs.Made.{large_below, step_table, large_table}
use Rattle.paging_core.proofs.LastEntry.{step_page}
use Rattle.paging_core.proofs.LargeGone.{slot_place}

-- the rights of a place
abbrev pub rights_of : Place → PageBits
rights_of large = record { write = large.write; user = large.user; fetch = large.fetch; through = large.through; uncached = large.uncached; global = large.global }

-- a page of the slot, by the number of its four indices
pub at_page : (words : List ℕ) (root page : ℕ) (large : Place) → large_of words root (slot_of page) ≡ Some large →
    (n : ℕ) → n / 512 ≡ slot_of page → reach words root 4 n ≡ Some (page_in (n % 512) large)
at_page words root page large was n e = reach_in words root n large (ap (large_of words root) e ∙ was)

module _ (old new : List ℕ) (root page keep table made : ℕ) (large : Place)
    (part : keep ≤ 512)
    (bounded : large.frame + 511 < 2 ^ 40)
    (small : made < 2 ^ 40)
    (made_in : made < frame_count old)
    (was : large_of old root (slot_of page) ≡ Some large)
    (met : reach old root 2 (above page 2) ≡ Some (top table))
    (size : length new ≡ length old)
    (page_words : (k : ℕ) → k < keep → word_at new made k ≡ page_entry (large.frame + k) (rights_of large))
    (entry : word_at new table (slot_of page % 512) ≡ table_entry made)
    (same : (l n : ℕ) (b : Place) (j : ℕ) → l < 4 → reach old root l n ≡ Some b → j < 512 → (b.frame ≡ table → j ≡ slot_of page % 512 → ⊥) →
    word_at new b.frame j ≡ word_at old b.frame j)
    (alone : (l n : ℕ) (b : Place) → l < 4 → reach old root l n ≡ Some b → b.frame ≡ table → (l ≡ 2) × (n ≡ above page 2)) where
  below : large.frame + 511 < frame_count new
  below = let b = large_below old root (slot_of page) large was in omega (arith, b.1)

  pub slot_table : reach new root 3 (slot_of page) ≡ Some (top made)
  slot_table =
      ap (reach new root 3) (sym (slot_place page))
      ∙ (slot_there old new root (above page 2) (slot_of page % 512) (top table) (omega arith) size met same alone
      ∙ step_table new 2 table (slot_of page % 512) made small (omega arith) entry)

  pub slot_no_large : large_of new root (slot_of page) ≡ None
  slot_no_large =
      ap (large_of new root) (sym (slot_place page))
      ∙ (slot_large old new root (above page 2) (slot_of page % 512) (top table) (omega arith) size met same alone
      ∙ large_table new table (slot_of page % 512) made small entry)

  pub slot_outside : (l n : ℕ) → l ≤ 4 → (l ≡ 3 → n ≡ slot_of page → ⊥) → (l ≡ 4 → n / 512 ≡ slot_of page → ⊥) → reach new root l n ≡ reach old root l n
  slot_outside l n le a b =
      slot_others old new root (above page 2) (slot_of page % 512) (top table) (omega arith) size met same alone l n le
      (λ x y. a x (y ∙ slot_place page)) (λ x y. b x (y ∙ slot_place page))

  pub slot_still : (n : ℕ) → (n ≡ slot_of page → ⊥) → large_of new root n ≡ large_of old root n
  slot_still n ne = slot_larges old new root (above page 2) (slot_of page % 512) (top table) (omega arith) size met same alone n (λ e. ne (e ∙ slot_place page))

  -- the pages of the slot now
  pub slot_inside : (n : ℕ) → n / 512 ≡ slot_of page → reach new root 4 n ≡ step new 3 (top made) (n % 512)
  slot_inside n e = reach_last new root n (top made) (ap (reach new root 3) e ∙ slot_table)

  pub slot_kept : (n : ℕ) → n / 512 ≡ slot_of page → n % 512 < keep → reach new root 4 n ≡ Some (page_in (n % 512) large)
  slot_kept n e lt =
      slot_inside n e
      ∙ step_page new made (n % 512) (large.frame + n % 512) (rights_of large) (omega arith) (let b = below in omega arith) (page_words (n % 512) lt)

  -- an entry of the table that maps a page
  pub slot_plain : (i : ℕ) → i < keep → has_bit (word_at new made i) 0 ≡ true → IsPlain new 3 (word_at new made i)
  slot_plain i lo =
      let e = page_words i lo in
      rw e (λ _. plain_page new (large.frame + i) (rights_of large) (omega arith) (let b = below in omega arith))
