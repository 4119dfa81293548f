-- Where the walk to a page ends.
use Rattle.std.proofs.Common.{◌≡◌, ℕ, ◌+◌, ◌%◌, ◌<◌, true, List, Some, None, refl, sym, ap, ◌∙◌, ◌⊎◌, inl, inr, arith, false}
use Rattle.paging_core.specs.Missing.{missing_of}
use Rattle.paging_core.specs.Prefix.{prefix_of}
use Rattle.paging_core.specs.Tables.{missing_at}
use Rattle.paging_core.specs.Walk.{Place, step, next_from, large_step, page_or, reach, walk_of, mapped_place, top}
use Rattle.paging_core.specs.WalkEnd.{IsEntryOf, IsWalkEnd, IsEndFrom}
use Rattle.paging_core.specs.declared.page_walk.Mapped.{Mapped}
use Rattle.paging_core.specs.declared.walk_end.WalkEnd.{WalkEnd}
use Rattle.paging_core.specs.declared.walk_end.WalkEnd.TheVariants.{Entry, Large, Missing}
use Rattle.paging_core.proofs.Counts.{missing_one}
use Rattle.paging_core.proofs.LastEntry.{some_or_none}
use Rattle.paging_core.proofs.Prefixes.{reach_prefix, reach_root, none_more, walk_split, walk_stops}

-- a step to the next table
pub next_met : (words : List ℕ) (root page level index : ℕ) (at : Place) → level < 3 → reach words root level (prefix_of page level) ≡ Some at →
    index ≡ prefix_of page (level + 1) % 512 → reach words root (level + 1) (prefix_of page (level + 1)) ≡ step words level at index
next_met words root page level index at lt met ix =
    reach_prefix words root page level lt
    ∙ (ap (λ o. next_from words level o (prefix_of page (level + 1) % 512)) met ∙ ap (step words level at) (sym ix))

-- the first step, from the root with all rights
pub first_met : (words : List ℕ) (root page index : ℕ) (full : Mapped) → full ≡ record { frame = root; write = true; user = true; fetch = true; through = false; uncached = false; global = false } →
    index ≡ prefix_of page 1 % 512 → reach words root 1 (prefix_of page 1) ≡ step words 0 (mapped_place full) index
first_met words root page index full e ix =
    next_met words root page 0 index (top root) (omega arith) (reach_root words root page) ix ∙ ap (λ (m : Mapped). step words 0 (mapped_place m) index) (sym e)

pub stops_first : (words : List ℕ) (root page : ℕ) → reach words root 1 (prefix_of page 1) ≡ None → IsWalkEnd words root page (Missing 3)
stops_first words root page n1 =
    let n2 : reach words root 2 (prefix_of page 2) ≡ None = none_more words root page 1 (omega arith) n1 in
    let n3 : reach words root 3 (prefix_of page 3) ≡ None = none_more words root page 2 (omega arith) n2 in
    let a : missing_at words root page 1 ≡ 1 = rw n1 refl in
    let b : missing_at words root page 2 ≡ 1 = rw n2 refl in
    let c : missing_at words root page 3 ≡ 1 = rw n3 refl in
    let m = missing_one words root page in
    (n3, walk_stops words root page n2, omega arith)

pub stops_second : (words : List ℕ) (root page : ℕ) (upper : Place) → reach words root 1 (prefix_of page 1) ≡ Some upper →
    reach words root 2 (prefix_of page 2) ≡ None → IsWalkEnd words root page (Missing 2)
stops_second words root page upper met n2 =
    let n3 : reach words root 3 (prefix_of page 3) ≡ None = none_more words root page 2 (omega arith) n2 in
    let a : missing_at words root page 1 ≡ 0 = rw met refl in
    let b : missing_at words root page 2 ≡ 1 = rw n2 refl in
    let c : missing_at words root page 3 ≡ 1 = rw n3 refl in
    let m = missing_one words root page in
    (n3, walk_stops words root page n2, omega arith)

module _ (words : List ℕ) (root page third last : ℕ) (at : Place)
    (met : reach words root 2 (prefix_of page 2) ≡ Some at)
    (tx : third ≡ prefix_of page 3 % 512)
    (lx : last ≡ prefix_of page 4 % 512) where
  third_met : reach words root 3 (prefix_of page 3) ≡ step words 2 at third
  third_met = next_met words root page 2 third at (omega arith) met tx

  walked : walk_of words root page ≡ page_or (large_step words at third) last (next_from words 3 (step words 2 at third) last)
  walked = walk_split words root page at third last met tx lx

  one_missing : reach words root 3 (prefix_of page 3) ≡ None → 1 ≡ missing_of words root page 1
  one_missing n3 = go (some_or_none (reach words root 1 (prefix_of page 1)))
    where
      go : ((m : Place) × (reach words root 1 (prefix_of page 1) ≡ Some m)) ⊎ (reach words root 1 (prefix_of page 1) ≡ None) → 1 ≡ missing_of words root page 1
      go (inl p) =
          let a : missing_at words root page 1 ≡ 0 = rw p.1 refl in
          let b : missing_at words root page 2 ≡ 0 = rw met refl in
          let c : missing_at words root page 3 ≡ 1 = rw n3 refl in
          let m = missing_one words root page in
          omega arith
      go (inr n1) =
          let n2 : reach words root 2 (prefix_of page 2) ≡ None = none_more words root page 1 (omega arith) n1 in
          let z : Some at ≡ None = sym met ∙ n2 in absurd (cc)

  pub ends_from : (end : WalkEnd) → IsEndFrom words at third last end → IsWalkEnd words root page end
  ends_from (Entry entry leads) is = (
    go (some_or_none (step words 2 at third)),
    is.3
        ∙ sym (walked ∙ ap (λ o. page_or o last (next_from words 3 (step words 2 at third) last)) is.2),
  )
    where
      go : ((m : Place) × (step words 2 at third ≡ Some m)) ⊎ (step words 2 at third ≡ None) → IsEntryOf words root page entry.table entry.index
      go (inl p) =
          let h : Some p.0.frame ≡ Some entry.table = rw p.1 at is.0 in
          record { met = p.0; reached = third_met ∙ p.1; in_table = cc; at_index = is.1 ∙ lx }
      go (inr none) = let h : None ≡ Some entry.table = rw none at is.0 in absurd (cc)
  ends_from (Large mapped) is =
      (third_met ∙ is.0, walked ∙ (ap (λ o. page_or (large_step words at third) last (next_from words 3 o last)) is.0 ∙ is.1))
  ends_from (Missing tables) is =
      let n3 = third_met ∙ is.0 in
      (n3, walked ∙ rw (is.1, is.0) refl, is.2 ∙ one_missing n3)
