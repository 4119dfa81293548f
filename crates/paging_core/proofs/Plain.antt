-- The entries that are written are plain.
use Rattle.std.proofs.Common.{◌≡◌, ℕ, ◌+◌, ◌%◌, ◌^◌, ◌<◌, Bool, true, false, not, ◌&&◌, cond, eqb, ltb, List, length, refl, arith}
use Rattle.std.proofs.lemmas.Bool.{lt-ltb}
use Rattle.std.proofs.lemmas.Bool.Decides.{nat_tests}
use Rattle.paging_core.specs.Memory.{frame_count}
use Rattle.paging_core.specs.Entry.{has_bit, table_entry, page_entry, large_entry}
use Rattle.paging_core.specs.Walk.{is_run}
use Rattle.paging_core.specs.Plain.{IsPlain, maps_page, marked}
use Rattle.paging_core.specs.declared.page_table.PageBits.{PageBits}
use Rattle.paging_core.proofs.PageWords.{IsPageWord, page_bits, large_bits}

pub plain_size : (old new : List ℕ) (level entry : ℕ) → length new ≡ length old → IsPlain old level entry → IsPlain new level entry
plain_size old new level entry size p = record {
  frame = rw size p.frame;
  run = λ e. rw size (p.run e);
  large = p.large;
  accessed = p.accessed;
  dirty = p.dirty;
  cached = p.cached;
  local = p.local;
  low = p.low;
  high = p.high;
}

-- a word that stays is still plain, if the memory has as many words
pub plain_kept : (old new : List ℕ) (level was now : ℕ) → length new ≡ length old → now ≡ was → (has_bit was 0 ≡ true → IsPlain old level was) →
    has_bit now 0 ≡ true → IsPlain new level now
plain_kept old new level was now size e p = rw e (λ h. plain_size old new level was size (p h))

-- an entry of 0 is not present
pub plain_zero : (words : List ℕ) (level entry : ℕ) → entry ≡ 0 → has_bit entry 0 ≡ true → IsPlain words level entry
plain_zero words level entry e present = absurd (let h : has_bit 0 0 ≡ true = rw e at present in cc)

pub plain_table : (words : List ℕ) (level frame : ℕ) → level < 3 → frame < 2 ^ 40 → frame < frame_count words → IsPlain words level (table_entry frame)
plain_table words level frame lt small within = record {
  frame = omega arith;
  run = λ e. absurd (let z = seven in cc);
  large = λ e. absurd (let z = seven in cc);
  accessed = grind (arith, nat_tests);
  dirty = λ e. absurd (let z = seven in let l : eqb level 3 ≡ false = grind (arith, nat_tests) in
      let f : maps_page level (table_entry frame) ≡ false = rw (l, z) refl in cc);
  cached = λ _. omega arith;
  local = λ _. grind (arith, nat_tests);
  low = omega arith;
  high = omega arith;
}
  where
    seven : has_bit (table_entry frame) 7 ≡ false
    seven = grind (arith, nat_tests)

pub plain_page : (words : List ℕ) (frame : ℕ) (rights : PageBits) → frame < 2 ^ 40 → frame < frame_count words → IsPlain words 3 (page_entry frame rights)
plain_page words frame rights small within = record {
  frame = rw is.names within;
  run = λ x. absurd (let z = is.bit_7 in cc);
  large = λ x. absurd (let z = is.bit_7 in cc);
  accessed = is.accessed;
  dirty = λ _. is.dirty;
  cached = λ none. absurd (let h : true ≡ false = none in cc);
  local = λ none. absurd (let h : true ≡ false = none in cc);
  low = is.low;
  high = is.high;
}
  where
    is : IsPageWord (page_entry frame rights) frame rights false
    is = page_bits frame small rights

pub plain_large : (words : List ℕ) (frame : ℕ) (rights : PageBits) → frame < 2 ^ 40 → frame % 512 ≡ 0 → frame + 511 < frame_count words →
    IsPlain words 2 (large_entry frame rights)
plain_large words frame rights small aligned within = record {
  frame = rw is.names (omega arith);
  run = λ _. rw is.names run;
  large = λ _. refl;
  accessed = is.accessed;
  dirty = λ _. is.dirty;
  cached = λ none. absurd (not_table none);
  local = λ none. absurd (not_table none);
  low = is.low;
  high = is.high;
}
  where
    is : IsPageWord (large_entry frame rights) frame rights true
    is = large_bits frame small rights

    run : is_run words frame ≡ true
    run = let p : ltb (frame + 511) (frame_count words) ≡ true = lt-ltb (frame + 511) (frame_count words) within in rw (aligned, p) refl

    not_table : maps_page 2 (large_entry frame rights) ≡ false → ⊥
    not_table none = let z = is.bit_7 in let h : maps_page 2 (large_entry frame rights) ≡ true = rw z refl in cc

-- a walk by a plain entry leaves it as it was
pub unmarked : (words : List ℕ) (level entry : ℕ) (writes : Bool) → IsPlain words level entry → marked writes level entry ≡ entry
unmarked words level entry writes p =
    let a = p.accessed in
    let d : cond {A = ℕ} (writes && (maps_page level entry && not (has_bit entry 6))) (2 ^ 6) 0 ≡ 0 = go writes (maps_page level entry) refl in
    rw (a, d) (omega arith)
  where
    go : (w m : Bool) → maps_page level entry ≡ m → cond {A = ℕ} (w && (m && not (has_bit entry 6))) (2 ^ 6) 0 ≡ 0
    go false m e = refl
    go true false e = refl
    go true true e = let d = p.dirty e in rw d refl
