-- The entry of a page whose slot has a table.
use Rattle.std.proofs.Common.{◌≡◌, ℕ, ◌+◌, ◌-◌, ◌≤◌, Bool, List, Some, None, refl, sym, ◌∙◌, ◌⊎◌, inl, inr, arith}
use Rattle.paging_core.specs.Area.{Area, Whole, Part}
use Rattle.paging_core.specs.Missing.{missing_of}
use Rattle.paging_core.specs.Prefix.{prefix_of}
use Rattle.paging_core.specs.PageChanges.{IsFrameOf, IsLastEntry}
use Rattle.paging_core.specs.Tables.{IsPrepared, missing_at}
use Rattle.paging_core.specs.Tree.{IsUnmet}
use Rattle.paging_core.specs.Walk.{Place, reach}
use Rattle.paging_core.specs.WalkEnd.{IsEntryOf}
use Rattle.paging_core.proofs.Counts.{missing_one}
use Rattle.paging_core.proofs.LastEntry.{some_or_none}
use Rattle.paging_core.proofs.Prefixes.{none_below}

-- a walk that meets the last table meets those above it
met_above : (words : List ℕ) (root page level : ℕ) (met : Place) → level ≤ 3 → reach words root 3 (prefix_of page 3) ≡ Some met →
    reach words root level (prefix_of page level) ≡ None → ⊥
met_above words root page level met le is none =
    let z : level + (3 - level) ≡ 3 = omega arith in
    let h = none_below words root page level (3 - level) (omega arith) none in
    let x : reach words root 3 (prefix_of page 3) ≡ None = rw z at h in
    let y : Some met ≡ None = sym is ∙ x in
    absurd (cc)

pub none_missing : (words : List ℕ) (root page : ℕ) (met : Place) → reach words root 3 (prefix_of page 3) ≡ Some met → missing_of words root page 1 ≡ 0
none_missing words root page met is =
    let m = missing_one words root page in
    let a = one 1 (omega arith) (some_or_none (reach words root 1 (prefix_of page 1))) in
    let b = one 2 (omega arith) (some_or_none (reach words root 2 (prefix_of page 2))) in
    let c = one 3 (omega arith) (some_or_none (reach words root 3 (prefix_of page 3))) in
    omega arith
  where
    one : (l : ℕ) → l ≤ 3 → ((m : Place) × (reach words root l (prefix_of page l) ≡ Some m)) ⊎ (reach words root l (prefix_of page l) ≡ None) →
        missing_at words root page l ≡ 0
    one l le (inl p) = rw p.1 refl
    one l le (inr none) = absurd (met_above words root page l met le is none)

-- nothing is to be made for the page
pub prepared_all : (words : List ℕ) (free : List Bool) (root page : ℕ) (met : Place) → reach words root 3 (prefix_of page 3) ≡ Some met →
    IsPrepared words words free free root page 3
prepared_all words free root page met is = record {
  size = refl;
  flags = refl;
  others = λ l n le ne. refl;
  larges = λ n. refl;
  stayed = λ l m le here. here;
  made = λ l m le none here. absurd (cc);
  fewer = λ f e. e;
  lowest = λ f g was now other. absurd (cc);
  kept = λ f e ne. e;
  count = let z = none_missing words root page met is in let m = missing_one words root page in omega arith;
  words = λ f i li ne. refl;
  old_table = λ l f i lt here li ne. refl;
  old_entry = λ l f next lt here on. refl;
  blank = λ l f i le none here li ne. absurd (cc);
  table_word = λ l f made lt here none now. absurd (cc);
}

pub as_last_entry : (words : List ℕ) (root page table index frame : ℕ) → IsEntryOf words root page table index → IsFrameOf words root page frame →
    IsLastEntry words root page table index frame
as_last_entry words root page table index frame entry leads = record {
  met = entry.met;
  place = leads.place;
  reached = entry.reached;
  found = leads.found;
  in_table = entry.in_table;
  at_index = entry.at_index;
  to_frame = leads.to_frame;
}

-- a frame that in the whole memory is no table's and no page's may be mapped
pub unmet_in : (area : Area) (words : List ℕ) (root frame : ℕ) →
    (area ≡ Whole → (l n : ℕ) (b : Place) → l ≤ 4 → reach words root l n ≡ Some b → b.frame ≡ frame → ⊥) → IsUnmet area words root frame
unmet_in Whole words root frame h = h refl
unmet_in (Part first end) words root frame h = tt

pub unmet_moved : (area area' : Area) (words : List ℕ) (root frame : ℕ) → area' ≡ area → IsUnmet area words root frame → IsUnmet area' words root frame
unmet_moved area area' words root frame e unmet = rw e unmet

pub as_entry : (words : List ℕ) (root page table index frame : ℕ) → IsLastEntry words root page table index frame → IsEntryOf words root page table index
as_entry words root page table index frame entry = record { met = entry.met; reached = entry.reached; in_table = entry.in_table; at_index = entry.at_index }

pub as_frame : (words : List ℕ) (root page table index frame : ℕ) → IsLastEntry words root page table index frame → IsFrameOf words root page frame
as_frame words root page table index frame entry = record { place = entry.place; found = entry.found; to_frame = entry.to_frame }
