-- A range is mapped in ascending order, a slot or a page at a time.
use Rattle.std.proofs.Common.{◌≡◌, ℕ, zero, suc, ◌+◌, ◌-◌, ◌*◌, ◌/◌, ◌%◌, ◌^◌, ◌<◌, ◌≤◌, Bool, true, false, cond, Option, Some, None, refl, sym, ap, ◌∙◌, ◌⊎◌, inl, inr, arith}
use Rattle.std.proofs.lemmas.Bool.{cases_Bool, cases_eq, cases_lt}
use Rattle.std.proofs.lemmas.Bool.Decides.{nat_tests}
use Rattle.std.specs.Prelude.{is_none, ◌==◌, ◌&&◌, nat_le, IsTrue}
use Rattle.paging_core.specs.Address.{is_canonical, IsCanonicalRange}
use Rattle.paging_core.specs.Large.{slot_of, missing_above, IsSlotEmpty, IsLargeAdded}
use Rattle.paging_core.specs.Mapping.{IsPageAdded}
use Rattle.paging_core.specs.Missing.{missing_of}
use Rattle.paging_core.specs.Pool.{free_count}
use Rattle.paging_core.specs.Prefix.{prefix_of}
use Rattle.paging_core.specs.Walk.{Place, reach, large_of, walk_of, place_with}
use Rattle.paging_core.specs.declared.page_table.PageBits.{PageBits}
use Rattle.paging_core.proofs.Counts.{absent}
use Rattle.paging_core.proofs.LastEntry.{some_or_none}
use Rattle.paging_core.proofs.Prefixes.{walk_reach, walk_stops, none_more, small_page}
use Rattle.paging_core.proofs.Ranges.{page_canonical, same_number}
use Rattle.paging_core.proofs.Reach.{reach_none}
use Rattle.kernel_tables.specs.Changes.{ChangesOnly, IsMappedInARow}
use Rattle.kernel_tables.specs.Flush.{page_alone, pages_of_slot, pages_of_range}
use Rattle.kernel_tables.specs.Ranges.{lies_whole, becomes_large, tables_wanted, AreSlotsLarge}
use Rattle.kernel_tables.specs.Words.{KeepsOtherWords}
use Rattle.kernel_tables.proofs.KeptWords.{words_same, words_then, alone_within, slot_within}
use Rattle.kernel_tables.specs.TableState.{TableState, leads, IsSamePlace}
use Rattle.kernel_tables.proofs.Changed.{same_place, page_others, slot_others, range_only}
use Rattle.kernel_tables.proofs.RangeCounts.{Spanned, spanned, absent_alike, row_less, room_above, room_page, missing_after}

-- the slot becomes large
pub record Becomes (state : TableState) (page pages frame slot : ℕ) : Type 0 where
  pub from : page ≤ 512 * slot
  pub to : 512 * slot + 512 ≤ page + pages
  pub aligned : page % 512 ≡ frame % 512
  pub no_table : reach state.words state.root 3 (slot_of slot) ≡ None

all_three : (a b c : Bool) → (a && (b && c)) ≡ true → (a ≡ true) × (b ≡ true) × (c ≡ true)
all_three false b c e = absurd (cc)
all_three true false c e = absurd (cc)
all_three true true false e = absurd (cc)
all_three true true true e = (refl, refl, refl)

all_four : (a b c d : Bool) → (a && (b && (c && d))) ≡ true → (a ≡ true) × (b ≡ true) × (c ≡ true) × (d ≡ true)
all_four false b c d e = absurd (cc)
all_four true false c d e = absurd (cc)
all_four true true false d e = absurd (cc)
all_four true true true false e = absurd (cc)
all_four true true true true e = (refl, refl, refl, refl)

none_is : (o : Option Place) → is_none o ≡ true → o ≡ None
none_is None e = refl
none_is (Some x) e = absurd (cc)

pub becomes : (state : TableState) (page pages frame slot : ℕ) → becomes_large state page pages frame slot ≡ true → Becomes state page pages frame slot
becomes state page pages frame slot e =
    let f = all_three (lies_whole page pages slot) (page % 512 == frame % 512) (is_none (reach state.words state.root 3 (slot_of slot))) e in
    let a = f.0 in
    let b = f.1 in
    record {
      from = grind (arith, nat_tests);
      to = grind (arith, nat_tests);
      aligned = grind (arith, nat_tests);
      no_table = none_is (reach state.words state.root 3 (slot_of slot)) f.2;
    }

pub becomes_is : (state : TableState) (page pages frame slot : ℕ) → Becomes state page pages frame slot → becomes_large state page pages frame slot ≡ true
becomes_is state page pages frame slot b =
    let f = b.from in
    let t = b.to in
    let al = b.aligned in
    let x : nat_le page (512 * slot) ≡ true = grind (arith, nat_tests) in
    let y : nat_le (512 * slot + 512) (page + pages) ≡ true = grind (arith, nat_tests) in
    let z : (page % 512 == frame % 512) ≡ true = grind (arith, nat_tests) in
    rw (x, y, z, b.no_table) refl

-- the first `done` pages of the range are mapped
pub record IsMappedTo (old now : TableState) (page pages frame done : ℕ) (rights : PageBits) : Type 0 where
  pub place : IsSamePlace old now
  pub within : done ≤ pages
  pub mapped : (k : ℕ) → k < done → leads now (page + k) ≡ Some (place_with (frame + k) rights)
  pub elsewhere : (other : ℕ) → IsTrue (is_canonical (other * 4096)) → ((k : ℕ) → k < done → other ≡ page + k → ⊥) → leads now other ≡ leads old other
  -- a slot that becomes large has no table still, and no table is gone
  pub no_table : (slot : ℕ) → Becomes old page pages frame slot → reach now.words old.root 3 (slot_of slot) ≡ None
  pub tables : (l n : ℕ) (met : Place) → l < 4 → reach old.words old.root l n ≡ Some met → reach now.words old.root l n ≡ Some met
  -- such a slot is mapped as a whole
  pub whole : (slot : ℕ) → Becomes old page pages frame slot → 512 * slot < page + done → 512 * slot + 512 ≤ page + done
  pub large : (slot : ℕ) → Becomes old page pages frame slot → 512 * slot + 512 ≤ page + done →
      large_of now.words old.root (slot_of slot) ≡ Some (place_with (frame + (512 * slot - page)) rights)
  pub small : (n : ℕ) → ((slot : ℕ) → Becomes old page pages frame slot → 512 * slot + 512 ≤ page + done → n ≡ slot_of slot → ⊥) →
      large_of now.words old.root n ≡ large_of old.words old.root n
  pub count : free_count now.free + missing_of old.words old.root page pages ≡ free_count old.free + missing_of now.words old.root page pages
  -- the words beside the entries of the range
  pub words : KeepsOtherWords (pages_of_range page pages) old now

pub mapped_start : (old : TableState) (page pages frame : ℕ) (rights : PageBits) → IsMappedTo old old page pages frame 0 rights
mapped_start old page pages frame rights = record {
  place = record { root = refl; area = refl; size = refl; shared = refl };
  within = omega arith;
  mapped = λ k lt. absurd (omega arith);
  elsewhere = λ other canonical out. refl;
  no_table = λ slot b. b.no_table;
  tables = λ l n met lt is. is;
  whole = λ slot b lt. let f = b.from in absurd (omega arith);
  large = λ slot b le. let f = b.from in absurd (omega arith);
  small = λ n out. refl;
  count = refl;
  words = words_same (pages_of_range page pages) old;
}

-- the slots of one range have different prefixes
pub slots_apart : (page pages a b : ℕ) → IsCanonicalRange page pages → page < 512 * a + 512 → 512 * a < page + pages →
    page < 512 * b + 512 → 512 * b < page + pages →
    slot_of a ≡ slot_of b → a ≡ b
slots_apart page pages a b range al ah bl bh e =
    let some : 0 < pages = range.some in
    let half : (page + pages - 1) / 2 ^ 35 ≡ page / 2 ^ 35 = range.one_half in
    omega arith

module _ (old now : TableState) (page pages frame done : ℕ) (rights : PageBits)
    (range : IsCanonicalRange page pages)
    (before : IsMappedTo old now page pages frame done rights)
    (more : done < pages) where
  -- if the test for such a slot holds, it becomes large
  pub begins : ((page + done) % 512 == 0 && ((frame + done) % 512 == 0 &&
      (nat_le 512 (pages - done) && is_none (reach now.words now.root 3 (slot_of ((page + done) / 512)))))) ≡ true →
      Becomes old page pages frame ((page + done) / 512)
  begins e =
      let f = all_four ((page + done) % 512 == 0) ((frame + done) % 512 == 0) (nat_le 512 (pages - done))
      (is_none (reach now.words now.root 3 (slot_of ((page + done) / 512)))) e in
      let a = f.0 in
      let b = f.1 in
      let c = f.2 in
      let at : (page + done) % 512 ≡ 0 = grind (arith, nat_tests) in
      let to : (frame + done) % 512 ≡ 0 = grind (arith, nat_tests) in
      let fits : 512 ≤ pages - done = grind (arith, nat_tests) in
      let none : reach now.words old.root 3 (slot_of ((page + done) / 512)) ≡ None =
      sym (ap (λ r. reach now.words r 3 (slot_of ((page + done) / 512))) before.place.root)
      ∙ none_is (reach now.words now.root 3 (slot_of ((page + done) / 512))) f.3 in
      record {
        from = omega arith;
        to = omega arith;
        aligned = omega arith;
        no_table = go none (some_or_none (reach old.words old.root 3 (slot_of ((page + done) / 512))));
      }
    where
      go : reach now.words old.root 3 (slot_of ((page + done) / 512)) ≡ None →
          ((x : Place) × (reach old.words old.root 3 (slot_of ((page + done) / 512)) ≡ Some x)) ⊎ (reach old.words old.root
          3 (slot_of ((page + done) / 512)) ≡ None) →
          reach old.words old.root 3 (slot_of ((page + done) / 512)) ≡ None
      go none (inr x) = x
      go none (inl x) = let t = before.tables 3 (slot_of ((page + done) / 512)) x.0 (omega arith) x.1 in absurd (cc)

  pub begins_at : ((page + done) % 512 == 0 && ((frame + done) % 512 == 0 &&
      (nat_le 512 (pages - done) && is_none (reach now.words now.root 3 (slot_of ((page + done) / 512)))))) ≡ true →
      ((page + done) % 512 ≡ 0) × ((frame + done) % 512 ≡ 0) × (done + 512 ≤ pages)
  begins_at e =
      let f = all_four ((page + done) % 512 == 0) ((frame + done) % 512 == 0) (nat_le 512 (pages - done))
      (is_none (reach now.words now.root 3 (slot_of ((page + done) / 512)))) e in
      let a = f.0 in
      let b = f.1 in
      let c = f.2 in
      let fits : 512 ≤ pages - done = grind (arith, nat_tests) in
      (grind (arith, nat_tests), grind (arith, nat_tests), omega arith)

  -- and if it fails, the page's slot does not
  pub single : ((page + done) % 512 == 0 && ((frame + done) % 512 == 0 &&
      (nat_le 512 (pages - done) && is_none (reach now.words now.root 3 (slot_of ((page + done) / 512)))))) ≡ false →
      Becomes old page pages frame ((page + done) / 512) → ⊥
  single e b =
      let w = before.whole ((page + done) / 512) b in
      let at : (page + done) % 512 ≡ 0 = go (cases_eq ((page + done) % 512) 0) in
      let f = b.from in
      let t = b.to in
      let al = b.aligned in
      let x : ((page + done) % 512 == 0) ≡ true = grind (arith, nat_tests) in
      let to : (frame + done) % 512 ≡ 0 = omega arith in
      let y : ((frame + done) % 512 == 0) ≡ true = grind (arith, nat_tests) in
      let fits : 512 ≤ pages - done = omega arith in
      let z : nat_le 512 (pages - done) ≡ true = grind (arith, nat_tests) in
      let none : reach now.words now.root 3 (slot_of ((page + done) / 512)) ≡ None =
      ap (λ r. reach now.words r 3 (slot_of ((page + done) / 512))) before.place.root ∙ before.no_table ((page + done) / 512) b in
      let all : ((page + done) % 512 == 0 && ((frame + done) % 512 == 0 &&
      (nat_le 512 (pages - done) && is_none (reach now.words now.root 3 (slot_of ((page + done) / 512)))))) ≡ true =
      rw (x, y, z, none) refl in
      let c : true ≡ false = sym all ∙ e in absurd (cc)
    where
      go : ((page + done) % 512 ≡ 0) ⊎ ((page + done) % 512 ≡ 0 → ⊥) → (page + done) % 512 ≡ 0
      go (inl x) = x
      go (inr ne) = let w = before.whole ((page + done) / 512) b (omega arith) in absurd (omega arith)

  -- ---- what the next step needs

  fresh : (k : ℕ) → done ≤ k → k < pages → leads now (page + k) ≡ leads old (page + k)
  fresh k lo lt = before.elsewhere (page + k) (page_canonical page pages k range lt) (λ j lj e. omega arith)

  -- the free frames suffice for what the range misses but for the slots that become large
  spare : (s : Spanned page pages frame) → tables_wanted old page pages frame ≤ free_count old.free →
      missing_of now.words old.root page pages ≤ free_count now.free + absent now.words old.root 3 s.p s.m
  spare s room =
      let c = before.count in
      let n = s.counts old in
      let a : absent now.words old.root 3 s.p s.m ≡ absent old.words old.root 3 s.p s.m =
      absent_alike old.words now.words old.root 3 s.m s.p (λ n lo hi.
      alike n lo hi (some_or_none (reach old.words old.root 3 n))) in
      omega arith
    where
      alike : (n : ℕ) → s.p ≤ n → n < s.p + s.m → ((x : Place) × (reach old.words old.root 3 n ≡ Some x)) ⊎ (reach old.words old.root 3 n ≡ None) →
          is_none (reach now.words old.root 3 n) ≡ is_none (reach old.words old.root 3 n)
      alike n lo hi (inl x) = rw (before.tables 3 n x.0 (omega arith) x.1, x.1) refl
      alike n lo hi (inr none) =
          let q = s.is.each n lo hi in
          let b : Becomes old page pages frame q.0 = record { from = q.2; to = q.3; aligned = q.4; no_table = ap (reach old.words old.root 3) q.1 ∙ none } in
          rw (sym (ap (reach now.words old.root 3) q.1) ∙ before.no_table q.0 b, none) refl

  pub page_unmapped : leads old (page + done) ≡ None → leads now (page + done) ≡ None
  page_unmapped none = fresh done (omega arith) more ∙ none

  pub page_room : tables_wanted old page pages frame ≤ free_count old.free → (Becomes old page pages frame ((page + done) / 512) → ⊥) →
      missing_of now.words now.root (page + done) 1 ≤ free_count now.free
  page_room room not =
      let s = spanned page pages frame range in
      let r = spare s room in
      let p = room_page now.words old.root page pages frame s.p s.m range s.is done more
      (λ lo hi. there s lo hi (some_or_none (reach now.words old.root 3 (prefix_of (page + done) 3)))) in
      rw before.place.root (omega arith)
    where
      there : (s : Spanned page pages frame) → s.p ≤ prefix_of (page + done) 3 → prefix_of (page + done) 3 < s.p + s.m →
          ((x : Place) × (reach now.words old.root 3 (prefix_of (page + done) 3) ≡ Some x)) ⊎ (reach now.words old.root 3 (prefix_of (page + done) 3) ≡ None) →
          is_none (reach now.words old.root 3 (prefix_of (page + done) 3)) ≡ false
      there s lo hi (inl x) = rw x.1 refl
      there s lo hi (inr none) =
          let q = s.is.each (prefix_of (page + done) 3) lo hi in
          let i = q.2 in
          let j = q.3 in
          let e : (page + done) / 512 ≡ q.0 = slots_apart page pages ((page + done) / 512) q.0 range (omega arith)
          (omega arith) (omega arith) (omega arith) (sym here ∙ sym q.1) in
          absurd (not (record {
            from = rw e i;
            to = rw e j;
            aligned = q.4;
            no_table =
                old_none (some_or_none (reach old.words old.root 3 (slot_of ((page + done) / 512))));
          }))
        where
          here : prefix_of (page + done) 3 ≡ slot_of ((page + done) / 512)
          here = omega arith

          old_none : ((x : Place) × (reach old.words old.root 3 (slot_of ((page + done) / 512)) ≡ Some x)) ⊎ (reach
              old.words old.root 3 (slot_of ((page + done) / 512)) ≡ None) →
              reach old.words old.root 3 (slot_of ((page + done) / 512)) ≡ None
          old_none (inr x) = x
          old_none (inl x) =
              let t = before.tables 3 (slot_of ((page + done) / 512)) x.0 (omega arith) x.1 in
              let u = ap (reach now.words old.root 3) (sym here) ∙ none in
              absurd (cc)

  pub slot_empty : Becomes old page pages frame ((page + done) / 512) → (page + done) % 512 ≡ 0 → ((k : ℕ) → k < pages → leads old (page + k) ≡ None) →
      IsSlotEmpty now.words now.root ((page + done) / 512)
  slot_empty b first unmapped = record {
    unmapped = λ k lt.
        let t = b.to in
        let e : 512 * ((page + done) / 512) + k ≡ page + (done + k) = omega arith in
        ap (leads now) e ∙ (fresh (done + k) (omega arith) (omega arith) ∙ unmapped (done + k) (omega arith));
    no_table = ap (λ r. reach now.words r 3 (slot_of ((page + done) / 512))) before.place.root ∙ before.no_table ((page + done) / 512) b;
  }

  pub slot_room : tables_wanted old page pages frame ≤ free_count old.free → (page + done) % 512 ≡ 0 →
      missing_above now.words now.root ((page + done) / 512) ≤ free_count now.free
  slot_room room first =
      let s = spanned page pages frame range in
      let r = spare s room in
      let p = room_above now.words old.root page pages frame s.p s.m range s.is done more in
      let e : 512 * ((page + done) / 512) ≡ page + done = omega arith in
      rw (before.place.root, e) (omega arith)

  -- ---- the next step

  module _ (new : TableState) where
    pub page_next : (Becomes old page pages frame ((page + done) / 512) → ⊥) → ChangesOnly (page_alone (page + done)) now new →
        IsPageAdded now.words new.words now.free new.free now.root (page + done) (frame + done) rights →
        missing_of new.words new.root page pages + missing_of now.words now.root (page + done) 1 ≡ missing_of now.words now.root page pages →
        KeepsOtherWords (page_alone (page + done)) now new → IsMappedTo old new page pages frame (done + 1) rights
    page_next not only was missing words =
        let added : IsPageAdded now.words new.words now.free new.free old.root (page + done) (frame + done) rights = rw before.place.root at was in
        record {
          place = same_place old now new before.place only.place;
          within = omega arith;
          words = words_then before.words words (λ l n met lt is. rw before.place.root (before.tables l n met lt is)) only.tables (λ other e. e)
              (alone_within page pages (page + done) (omega arith) (omega arith));
          mapped = λ k lt. mapped k lt (cases_lt k done);
          elsewhere = λ other canonical out.
              page_others only other canonical (λ e. out done (omega arith) e) ∙ before.elsewhere other canonical (λ k lt e. out k (omega arith) e);
          no_table = λ slot b.
              let f = b.from in
              let t = b.to in
              added.others 3 (slot_of slot) (omega arith)
              (λ e.
              let same : (page + done) / 512 ≡ slot = slots_apart page pages ((page + done) / 512) slot range (omega arith)
              (omega arith) (omega arith) (omega arith)
              (let h : slot_of ((page + done) / 512) ≡ prefix_of (page + done) 3 = omega arith in h ∙ sym e) in
              not (rw same b))
              ∙ before.no_table slot b;
          tables = λ l n met lt is. added.stayed l n met lt (before.tables l n met lt is);
          whole = λ slot b lt. whole slot b (cases_eq (512 * slot) (page + done)) lt;
          large = λ slot b le.
              added.larges (slot_of slot) ∙ before.large slot b (past slot b le);
          small = λ n out. added.larges n ∙ before.small n (λ slot b le e. out slot b (omega (arith, le)) e);
          count =
              let c = added.count in
              let d = before.count in
              let m : missing_of new.words old.root page pages + missing_of now.words old.root (page + done) 1 ≡ missing_of now.words old.root page pages =
              rw (only.place.root ∙ before.place.root, before.place.root) at missing in
              omega arith;
        }
      where
        mapped : (k : ℕ) → k < done + 1 → (k < done) ⊎ (done ≤ k) → leads new (page + k) ≡ Some
            (place_with (frame + k) rights)
        mapped k lt (inl x) = page_others only (page + k) (page_canonical page pages k range (omega arith)) (λ e. omega arith) ∙ before.mapped k x
        mapped k lt (inr x) =
            let e : k ≡ done = omega arith in
            rw (e, only.place.root) was.there

        whole : (slot : ℕ) → Becomes old page pages frame slot → (512 * slot ≡ page + done) ⊎ (512 * slot ≡ page + done →
            ⊥) → 512 * slot < page + (done + 1) → 512 * slot + 512 ≤ page + (done + 1)
        whole slot b (inl x) lt = let e : (page + done) / 512 ≡ slot = omega arith in absurd (not (rw e b))
        whole slot b (inr x) lt = let w = before.whole slot b (omega arith) in omega arith

        past : (slot : ℕ) → Becomes old page pages frame slot → 512 * slot + 512 ≤ page + (done + 1) → 512 * slot + 512 ≤ page + done
        past slot b le = go (cases_eq (512 * slot + 511) (page + done))
          where
            go : (512 * slot + 511 ≡ page + done) ⊎ (512 * slot + 511 ≡ page + done → ⊥) → 512 * slot + 512 ≤ page + done
            go (inl x) = let e : (page + done) / 512 ≡ slot = omega arith in absurd (not (rw e b))
            go (inr x) = omega arith

    pub slot_next : (run : ℕ) → 512 * run ≡ frame + done → Becomes old page pages frame ((page + done) / 512) → (page + done) % 512 ≡ 0 →
        ChangesOnly (pages_of_slot ((page + done) / 512)) now new →
        IsLargeAdded now.words new.words now.free new.free now.root ((page + done) / 512) run rights →
        missing_of new.words new.root page pages + missing_above now.words now.root ((page + done) / 512) ≡ missing_of now.words now.root page pages →
        KeepsOtherWords (pages_of_slot ((page + done) / 512)) now new → IsMappedTo old new page pages frame (done + 512) rights
    slot_next run frames mine first only was missing words =
        let added : IsLargeAdded now.words new.words now.free new.free old.root ((page + done) / 512) run rights = rw before.place.root at was in
        let to = mine.to in
        record {
          place = same_place old now new before.place only.place;
          within = omega arith;
          words = words_then before.words words (λ l n met lt is. rw before.place.root (before.tables l n met lt is)) only.tables (λ other e. e)
              (slot_within page pages ((page + done) / 512) (omega arith) (omega arith));
          mapped = λ k lt. mapped k lt (cases_lt k done);
          elsewhere = λ other canonical out.
              slot_others only other canonical (λ e. out (other - page) (omega arith) (omega arith))
              ∙ before.elsewhere other canonical (λ k lt e. out k (omega arith) e);
          no_table = λ slot b. added.others 3 (slot_of slot) (omega arith) (λ l e. absurd (omega arith)) (λ l e. absurd (omega arith)) ∙ before.no_table slot b;
          tables = λ l n met lt is. added.stayed l n met (omega arith) (before.tables l n met lt is);
          whole = λ slot b lt. whole slot b (cases_lt (512 * slot) (page + done)) lt;
          large = λ slot b le. large added slot b (cases_eq slot ((page + done) / 512)) le;
          small = λ n out.
              added.larges n (λ e. out ((page + done) / 512) mine (omega arith) e) ∙ before.small n (λ slot b le e. out slot b (omega (arith, le)) e);
          count =
              let c = added.count in
              let d = before.count in
              let m : missing_of new.words old.root page pages + missing_above now.words old.root
              ((page + done) / 512) ≡ missing_of now.words old.root page pages =
              rw (only.place.root ∙ before.place.root, before.place.root) at missing in
              omega arith;
        }
      where
        mapped : (k : ℕ) → k < done + 512 → (k < done) ⊎ (done ≤ k) → leads new (page + k) ≡ Some (place_with (frame + k) rights)
        mapped k lt (inl x) =
            let t = mine.to in
            slot_others only (page + k) (page_canonical page pages k range (omega arith)) (λ e. omega arith) ∙ before.mapped k x
        mapped k lt (inr x) =
            let t = was.there (k - done) (omega arith) in
            let p : page + k ≡ 512 * ((page + done) / 512) + (k - done) = omega arith in
            let f : frame + k ≡ 512 * run + (k - done) = omega arith in
            rw (p, f, only.place.root) t

        whole : (slot : ℕ) → Becomes old page pages frame slot → (512 * slot < page + done) ⊎ (page + done ≤ 512 * slot) →
            512 * slot < page + (done + 512) → 512 * slot + 512 ≤ page + (done + 512)
        whole slot b (inl x) lt = let w = before.whole slot b x in omega arith
        whole slot b (inr x) lt = omega arith

        large : IsLargeAdded now.words new.words now.free new.free old.root ((page + done) / 512) run rights → (slot : ℕ) → Becomes old page pages frame slot →
            (slot ≡ (page + done) / 512) ⊎ (slot ≡ (page + done) / 512 → ⊥) → 512 * slot + 512 ≤ page + (done + 512) →
            large_of new.words old.root (slot_of slot) ≡ Some (place_with (frame + (512 * slot - page)) rights)
        large added slot b (inl e) le =
            let f : frame + (512 * slot - page) ≡ 512 * run = let o = mine.from in omega arith in
            rw f (ap (λ s. large_of new.words old.root (slot_of s)) e ∙ added.large)
        large added slot b (inr ne) le =
            let f = b.from in
            let t = b.to in
            let to = mine.to in
            let from = mine.from in
            added.larges (slot_of slot)
            (λ e. ne (slots_apart page pages slot ((page + done) / 512) range (omega arith) (omega arith) (omega arith) (omega arith) e))
            ∙ before.large slot b (omega arith)

-- ---- the end: all pages are mapped

some_not_none : (o : Option Place) (x : Place) → o ≡ Some x → o ≡ None → ⊥
some_not_none o x a b = absurd (cc)

there_of : (o : Option Place) → (o ≡ None → ⊥) → is_none o ≡ false
there_of None h = absurd (h refl)
there_of (Some x) h = refl

mapped_free : (old now : TableState) (page pages frame : ℕ) (rights : PageBits) → IsCanonicalRange page pages →
    ((k : ℕ) → k < pages → leads old (page + k) ≡ None) → IsMappedTo old now page pages frame pages rights →
    free_count now.free + tables_wanted old page pages frame ≡ free_count old.free
mapped_free old now page pages frame rights range unmapped all =
    let s = spanned page pages frame range in
    let n = s.counts old in
    let r = row_less old.words old.root page pages frame s.p s.m range s.is in
    let m = missing_after now.words old.root page pages frame s.p s.m range s.is
    (λ k l lk pos lt out. there_of (reach now.words old.root l (prefix_of (page + k) l))
    (λ none. there s k l lk pos lt out none)) in
    let a : absent now.words old.root 3 s.p s.m ≡ absent old.words old.root 3 s.p s.m =
    absent_alike old.words now.words old.root 3 s.m s.p (λ n lo hi. alike s n lo hi
    (some_or_none (reach old.words old.root 3 n))) in
    let c = all.count in
    omega arith
  where
    alike : (s : Spanned page pages frame) (n : ℕ) → s.p ≤ n → n < s.p + s.m →
        ((x : Place) × (reach old.words old.root 3 n ≡ Some x)) ⊎ (reach old.words old.root 3 n ≡ None) →
        is_none (reach now.words old.root 3 n) ≡ is_none (reach old.words old.root 3 n)
    alike s n lo hi (inl x) = rw (all.tables 3 n x.0 (omega arith) x.1, x.1) refl
    alike s n lo hi (inr none) =
        let q = s.is.each n lo hi in
        let b : Becomes old page pages frame q.0 = record { from = q.2; to = q.3; aligned = q.4; no_table = ap (reach old.words old.root 3) q.1 ∙ none } in
        rw (sym (ap (reach now.words old.root 3) q.1) ∙ all.no_table q.0 b, none) refl

    is_mapped : (k : ℕ) → k < pages → walk_of now.words old.root (page + k) ≡ Some (place_with (frame + k) rights)
    is_mapped k lk = sym (ap (λ r. walk_of now.words r (page + k)) all.place.root) ∙ all.mapped k lk

    unmapped_at : (k : ℕ) → k < pages → walk_of now.words old.root (page + k) ≡ None → ⊥
    unmapped_at k lk none = some_not_none (walk_of now.words old.root (page + k)) (place_with (frame + k) rights) (is_mapped k lk) none

    two : (k : ℕ) → k < pages → reach now.words old.root 2 (prefix_of (page + k) 2) ≡ None → ⊥
    two k lk none = unmapped_at k lk (walk_stops now.words old.root (page + k) none)

    there : (s : Spanned page pages frame) (k l : ℕ) → k < pages → 0 < l → l < 4 →
        (l ≡ 3 → s.p ≤ prefix_of (page + k) 3 → prefix_of (page + k) 3 < s.p + s.m → ⊥) →
        reach now.words old.root l (prefix_of (page + k) l) ≡ None → ⊥
    there s k zero lk pos lt out none = absurd (omega arith)
    there s k (suc zero) lk pos lt out none = two k lk (none_more now.words old.root (page + k) 1 (omega arith) none)
    there s k (suc (suc zero)) lk pos lt out none = two k lk none
    there s k (suc (suc (suc zero))) lk pos lt out none =
        let was = small_page old.words old.root (page + k) (sym (walk_reach old.words old.root (page + k)) ∙ unmapped k lk) in
        let small : large_of now.words old.root (prefix_of (page + k) 3) ≡ None =
        all.small (prefix_of (page + k) 3)
        (λ slot b le e. let i = s.is.inside slot b.from b.to b.aligned in let lo = i.0 in let hi = i.1 in out refl (omega arith) (omega arith)) ∙ was in
        let up : prefix_of (page + k) 4 / 512 ≡ prefix_of (page + k) 3 = omega arith in
        unmapped_at k lk (walk_reach now.words old.root (page + k) ∙ reach_none now.words old.root (prefix_of (page + k) 4) (rw up none) (rw up small))
    there s k (suc (suc (suc (suc l)))) lk pos lt out none = absurd (omega arith)

mapped_large : (old now : TableState) (page pages frame : ℕ) (rights : PageBits) → IsCanonicalRange page pages →
    IsMappedTo old now page pages frame pages rights →
    AreSlotsLarge old now page pages frame rights
mapped_large old now page pages frame rights range all = λ slot canonical.
    rw all.place.root (go slot canonical (cases_Bool (becomes_large old page pages frame slot)))
  where
    go : (slot : ℕ) → IsTrue (is_canonical (512 * slot * 4096)) → (becomes_large old page pages frame
        slot ≡ true) ⊎ (becomes_large old page pages frame slot ≡ false) →
        large_of now.words old.root (slot_of slot)
        ≡ cond (becomes_large old page pages frame slot) (Some (place_with (frame + (512 * slot - page)) rights)) (large_of old.words old.root (slot_of slot))
    go slot canonical (inl e) = let b = becomes old page pages frame slot e in rw e (all.large slot b b.to)
    go slot canonical (inr e) =
        rw e
        (all.small (slot_of slot)
        (λ other b le same.
        let f = b.from in
        let t = b.to in
        let at : page + (512 * other - page) ≡ 512 * other = omega arith in
        let there : IsTrue (is_canonical (512 * other * 4096)) = rw at at (page_canonical page pages (512 * other - page) range (omega arith)) in
        let n : 512 * slot ≡ 512 * other = same_number (512 * slot) (512 * other) canonical there (omega arith) in
        let o : slot ≡ other = omega arith in
        let large = becomes_is old page pages frame slot (rw o b) in
        let z : true ≡ false = sym large ∙ e in absurd (cc)))

-- only pages of the range are changed, and no table is gone
pub mapped_only : (old now : TableState) (page pages frame : ℕ) (rights : PageBits) →
    IsMappedTo old now page pages frame pages rights → ChangesOnly (pages_of_range page pages) old now
mapped_only old now page pages frame rights all = range_only page pages all.place
    (λ l n met lt is. ap (λ r. reach now.words r l n) all.place.root ∙ all.tables l n met lt is) all.elsewhere

pub mapped_range : (old now : TableState) (page pages frame : ℕ) (rights : PageBits) → IsCanonicalRange page pages →
    ((k : ℕ) → k < pages → leads old (page + k) ≡ None) →
    IsMappedTo old now page pages frame pages rights → IsMappedInARow old now page pages frame rights
mapped_range old now page pages frame rights range unmapped all = record {
  mapped = all.mapped;
  free = mapped_free old now page pages frame rights range unmapped all;
  large = mapped_large old now page pages frame rights range all;
  words = all.words;
}
