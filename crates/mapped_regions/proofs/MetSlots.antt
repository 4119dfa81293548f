-- The steps of a walk that finds a page, one by one, and what stays of slots that walks met.
use Rattle.std.proofs.Common.{◌≡◌, ℕ, suc, ◌+◌, ◌*◌, ◌/◌, ◌%◌, ◌^◌, ◌<◌, ◌≤◌, ◌⊎◌, inl, inr, cond, eqb, Bool, true, false, not, ◌&&◌, List, set, Option, Some, None, refl, sym, ap, subst, ◌∙◌, get_or, unwrap_or, arith}
use Rattle.std.specs.Prelude.{IsTrue, IsSome, IfSome}
use Rattle.std.specs.Option.{option_map}
use Rattle.paging_core.specs.Address.{is_canonical}
use Rattle.paging_core.specs.Entry.{frame_of, has_bit}
use Rattle.paging_core.specs.Prefix.{prefix_of}
use Rattle.paging_core.specs.Memory.{word_at, frame_count, AreWordsWritten}
use Rattle.paging_core.specs.Walk.{Place, is_present, ends_walk, is_run, named, top, step, large_step, large_from, large_of, reach, next_from, walk_of}
use Rattle.paging_core.proofs.Made.{reach_below, large_below}
use Rattle.paging_core.proofs.Prefixes.{walk_reach}
use Rattle.paging_core.proofs.Reach.{reach_zero, reach_suc, large_is, large_none, either_way}
use Rattle.page_ranges.specs.RangeUnmapping.{cuts_large_page}
use Rattle.page_ranges.proofs.Unmapped.{cut_or_not}
use Rattle.mapped_regions.specs.declared.met_slots.Met.{Met}
use Rattle.mapped_regions.specs.declared.met_slots.MetSlots.{MetSlots}
use Rattle.mapped_regions.specs.MetSlots.{IsPage, IsTable, IsLargePage, ArePagesMet, AreTablesMet, AreLargePagesMet, AreMet, LeadsTo}

-- the frame of a place that is found
found_frame : (o : Option Place) (to : Place) → o ≡ Some to → unwrap_or (option_map (λ (place : Place). place.frame) o) 0 ≡ to.frame
found_frame o to e = ap (λ (o : Option Place). unwrap_or (option_map (λ (place : Place). place.frame) o) 0) e

-- the step to a place, from the place before it
record IsStepTo (words : List ℕ) (root level number : ℕ) (to : Place) : Type 0 where
  from : Place
  met : reach words root level (number / 512) ≡ Some from
  names : to.frame ≡ frame_of (word_at words from.frame (number % 512))
  goes_on : ends_walk level (word_at words from.frame (number % 512)) ≡ false

entry_names : (words : List ℕ) (level index : ℕ) (from to : Place) → step words level from index ≡ Some to →
    (to.frame ≡ frame_of (word_at words from.frame index)) × (ends_walk level (word_at words from.frame index) ≡ false)
unfolding step
entry_names words level index from to is = go (word_at words from.frame index)
    (is_present words (word_at words from.frame index)) (ends_walk level (word_at words from.frame index)) is
  where
    go : (entry : ℕ) (b e : Bool) → cond (b && not e) (Some (named from entry)) None ≡ Some to → (to.frame ≡ frame_of entry) × (e ≡ false)
    go entry true false e = (sym (found_frame (Some (named from entry)) to e), refl)
    go entry true true e = absurd (cc)
    go entry false b e = absurd (cc)

large_names : (words : List ℕ) (index : ℕ) (from to : Place) → large_step words from index ≡ Some to →
    (to.frame ≡ frame_of (word_at words from.frame index)) × (has_bit (word_at words from.frame index) 7 ≡ true)
unfolding large_step
large_names words index from to is = go (word_at words from.frame index) (is_present words (word_at words from.frame index))
    (has_bit (word_at words from.frame index) 7) (is_run words (frame_of (word_at words from.frame index))) is
  where
    go : (entry : ℕ) (b h r : Bool) → cond (b && (h && r)) (Some (named from entry)) None ≡ Some to → (to.frame ≡ frame_of entry) × (h ≡ true)
    go entry true true true e = (sym (found_frame (Some (named from entry)) to e), refl)
    go entry true true false e = absurd (cc)
    go entry true false r e = absurd (cc)
    go entry false h r e = absurd (cc)

step_to : (words : List ℕ) (root level number : ℕ) (to : Place) → level < 3 →
    reach words root (suc level) number ≡ Some to → IsStepTo words root level number to
step_to words root level number to low is = go (reach words root level (number / 512)) refl (sym (reach_suc words root level number low) ∙ is)
  where
    go : (o : Option Place) → reach words root level (number / 512) ≡ o → next_from words level o (number % 512) ≡ Some to → IsStepTo words root level number to
    go None met e = absurd (cc)
    go (Some from) met e = let n = entry_names words level (number % 512) from to e in record { from = from; met = met; names = n.0; goes_on = n.1 }

-- the first step is from the root
root_is : (words : List ℕ) (root number : ℕ) (from : Place) → reach words root 0 number ≡ Some from → from.frame ≡ root
root_is words root number from is = go (eqb number 0) (sym (reach_zero words root number) ∙ is)
  where
    go : (b : Bool) → cond b (Some (top root)) None ≡ Some from → from.frame ≡ root
    go true e = sym (found_frame (Some (top root)) from e)
    go false e = absurd (cc)

-- the entry of the third step
abbrev third_entry : List ℕ → ℕ → ℕ → ℕ
third_entry words second page = word_at words second (page * 4096 / 2 ^ 21 % 512)

-- the walk goes on from a second place through a table
pub record GoesByTable (words : List ℕ) (root page second frame : ℕ) : Type 0 where
  pub last : Place
  pub met : reach words root 3 (prefix_of page 3) ≡ Some last
  pub last_is : last.frame ≡ frame_of (third_entry words second page)
  pub small : has_bit (third_entry words second page) 7 ≡ false
  pub last_below : last.frame < frame_count words
  pub frame_is : frame ≡ frame_of (word_at words last.frame (page % 512))

-- or ends there, in a large page
pub record EndsInLargePage (words : List ℕ) (root page second frame : ℕ) : Type 0 where
  pub large : Place
  pub met : large_of words root (prefix_of page 3) ≡ Some large
  pub large_frame : large.frame ≡ frame_of (third_entry words second page)
  pub bit : has_bit (third_entry words second page) 7 ≡ true
  pub frame_is : frame ≡ large.frame + page % 512

-- what the walk to a page that is mapped passes
pub record IsPassed (words : List ℕ) (root page : ℕ) : Type 0 where
  pub third : Place
  pub second : Place
  pub place : Place
  pub third_is : third.frame ≡ frame_of (word_at words root (page * 4096 / 2 ^ 39 % 512))
  pub second_is : second.frame ≡ frame_of (word_at words third.frame (page * 4096 / 2 ^ 30 % 512))
  pub found : walk_of words root page ≡ Some place
  pub third_below : third.frame < frame_count words
  pub second_below : second.frame < frame_count words
  pub place_below : place.frame < frame_count words
  pub way : GoesByTable words root page second.frame place.frame ⊎ EndsInLargePage words root page second.frame place.frame

pub passed : (words : List ℕ) (root page : ℕ) → root < frame_count words → IsSome (walk_of words root page) → IsPassed words root page
unfolding walk_of
passed words root page within some = go (walk_of words root page) refl some
  where
    i1 : page % 2 ^ 36 / 512 / 512 / 512 % 512 ≡ page * 4096 / 2 ^ 39 % 512
    i1 = omega arith

    i2 : page % 2 ^ 36 / 512 / 512 % 512 ≡ page * 4096 / 2 ^ 30 % 512
    i2 = omega arith

    i3 : page % 2 ^ 36 / 512 % 512 ≡ page * 4096 / 2 ^ 21 % 512
    i3 = omega arith

    i4 : page % 2 ^ 36 % 512 ≡ page % 512
    i4 = omega arith

    below : (second place : Place) → walk_of words root page ≡ Some place → reach words root 2 (page % 2 ^ 36 / 512 / 512) ≡ Some second →
        GoesByTable words root page second.frame place.frame ⊎ EndsInLargePage words root page second.frame place.frame → IsPassed words root page
    below second place found met way =
        let s2 = step_to words root 1 (page % 2 ^ 36 / 512 / 512) second (omega arith) met in
        let s1 = step_to words root 0 (page % 2 ^ 36 / 512 / 512 / 512) s2.from (omega arith) s2.met in
        let top = root_is words root (page % 2 ^ 36 / 512 / 512 / 512 / 512) s1.from s1.met in
        record {
          third = s2.from;
          second = second;
          place = place;
          third_is = s1.names ∙ (ap (λ f. frame_of (word_at words f (page % 2 ^ 36 / 512 / 512 / 512 % 512))) top
              ∙ ap (λ i. frame_of (word_at words root i)) i1);
          second_is = s2.names ∙ ap (λ i. frame_of (word_at words s2.from.frame i)) i2;
          found = found;
          third_below = reach_below words root 1 (page % 2 ^ 36 / 512 / 512 / 512) s2.from (omega arith) within s2.met;
          second_below = reach_below words root 2 (page % 2 ^ 36 / 512 / 512) second (omega arith) within met;
          place_below = reach_below words root 4 (page % 2 ^ 36) place (omega arith) within found;
          way = way;
        }

    in_large : (place large : Place) → walk_of words root page ≡ Some place → large_of words root (page % 2 ^ 36 / 512) ≡ Some large →
        place.frame ≡ large.frame + page % 2 ^ 36 % 512 → IsPassed words root page
    in_large place large found met is = by (reach words root 2 (page % 2 ^ 36 / 512 / 512)) refl (sym (large_is words root (page % 2 ^ 36 / 512)) ∙ met)
      where
        by : (o : Option Place) → reach words root 2 (page % 2 ^ 36 / 512 / 512) ≡ o →
            large_from words o (page % 2 ^ 36 / 512 % 512) ≡ Some large → IsPassed words root page
        by None at e = absurd (cc)
        by (Some second) at e =
            let n = large_names words (page % 2 ^ 36 / 512 % 512) second large e in
            below second place found at
            (inr (record {
              large = large;
              met = met;
              large_frame = n.0 ∙ ap (λ i. frame_of (word_at words second.frame i)) i3;
              bit = subst (λ i. has_bit (word_at words second.frame i) 7 ≡ true) i3 n.1;
              frame_is = is ∙ ap (λ i. large.frame + i) i4;
            }))

    at : (place : Place) → walk_of words root page ≡ Some place → IsPassed words root page
    at place found = elim (either_way words root (page % 2 ^ 36) place found) [
      | inl e ↦ (
          let n4 = entry_names words 3 (page % 2 ^ 36 % 512) e.table place e.led in
          let s3 = step_to words root 2 (page % 2 ^ 36 / 512) e.table (omega arith) e.met in
          below s3.from place found s3.met
          (inl (record {
            last = e.table;
            met = e.met;
            last_is = s3.names ∙ ap (λ i. frame_of (word_at words s3.from.frame i)) i3;
            small = subst (λ i. has_bit (word_at words s3.from.frame i) 7 ≡ false) i3 s3.goes_on;
            last_below = reach_below words root 3 (page % 2 ^ 36 / 512) e.table (omega arith) within e.met;
            frame_is = n4.0 ∙ ap (λ i. frame_of (word_at words e.table.frame i)) i4;
          })))
      | inr l ↦ in_large place l.large found l.met (ap (λ (p : Place). p.frame) l.is)
    ]

    go : (o : Option Place) → walk_of words root page ≡ o → IsSome o → IsPassed words root page
    go None is none = absurd (cc)
    go (Some place) is some = at place is

-- a frame that is named where the walk passes is the one that it passes
pub third_named : (words : List ℕ) (root page index entry frame : ℕ) (w : IsPassed words root page) →
    index ≡ page * 4096 / 2 ^ 39 % 512 → entry ≡ word_at words root index → frame ≡ frame_of entry → w.third.frame ≡ frame
third_named words root page index entry frame w at is names = w.third_is
    ∙ (sym (ap (λ i. frame_of (word_at words root i)) at) ∙ (sym (ap frame_of is) ∙ sym names))

pub second_named : (words : List ℕ) (root page table index entry frame : ℕ) (w : IsPassed words root page) →
    w.third.frame ≡ table → index ≡ page * 4096 / 2 ^ 30 % 512 → entry ≡ word_at words table index →
    frame ≡ frame_of entry →
    w.second.frame ≡ frame
second_named words root page table index entry frame w from at is names =
    w.second_is ∙ (ap (λ t. frame_of (word_at words t (page * 4096 / 2 ^ 30 % 512))) from
    ∙ (sym (ap (λ i. frame_of (word_at words table i)) at) ∙ (sym (ap frame_of is) ∙ sym names)))

-- the entry of the third step, as it was read
entry_is : (words : List ℕ) (root page table index entry : ℕ) (w : IsPassed words root page) → w.second.frame ≡ table →
    index ≡ page * 4096 / 2 ^ 21 % 512 → entry ≡ word_at words table index →
    entry ≡ third_entry words w.second.frame page
entry_is words root page table index entry w from at is = is ∙ (ap (word_at words table) at ∙ ap (λ t. third_entry words t page) (sym from))

-- without bit 7 it names the table of the slot, and with it the large page
pub names_table : (words : List ℕ) (root page table index entry frame : ℕ) (w : IsPassed words root page) →
    w.second.frame ≡ table → index ≡ page * 4096 / 2 ^ 21 % 512 → entry ≡ word_at words table index →
    has_bit entry 7 ≡ false → frame ≡ frame_of entry → IsTable words root (prefix_of page 3) frame
names_table words root page table index entry frame w from at is small names =
    let same = entry_is words root page table index entry w from at is in
    elim w.way [
      | inl t ↦ ap (option_map (λ (place : Place). place.frame)) t.met ∙ ap Some (t.last_is ∙ (ap frame_of (sym same) ∙ sym names))
      | inr l ↦ absurd (let big : has_bit entry 7 ≡ true = ap (λ e. has_bit e 7) same ∙ l.bit in let no : true ≡ false = sym big ∙ small in cc)
    ]

pub names_large : (words : List ℕ) (root page table index entry frame : ℕ) (w : IsPassed words root page) →
    w.second.frame ≡ table → index ≡ page * 4096 / 2 ^ 21 % 512 → entry ≡ word_at words table index →
    has_bit entry 7 ≡ true → frame ≡ frame_of entry → IsLargePage words root (prefix_of page 3) frame
names_large words root page table index entry frame w from at is big names =
    let same = entry_is words root page table index entry w from at is in
    elim w.way [
      | inl t ↦ absurd (let small : has_bit entry 7 ≡ false = ap (λ e. has_bit e 7) same ∙ t.small in let no : true ≡ false = sym big ∙ small in cc)
      | inr l ↦ ap (option_map (λ (place : Place). place.frame)) l.met ∙ ap Some (l.large_frame ∙ (ap frame_of (sym same) ∙ sym names))
    ]

-- the frame of the page, by the table of its slot
pub record IsEntryOf (words : List ℕ) (table page frame : ℕ) : Type 0 where
  pub below : table < frame_count words
  pub frame_is : frame ≡ frame_of (word_at words table (page % 512))

pub by_table : (words : List ℕ) (root page table : ℕ) (w : IsPassed words root page) →
    IsTable words root (prefix_of page 3) table → IsEntryOf words table page w.place.frame
by_table words root page table w is = elim w.way [
  | inl t ↦ (
      let e : Some t.last.frame ≡ Some table = sym (ap (option_map (λ (place : Place). place.frame)) t.met) ∙ is in
      let same : t.last.frame ≡ table = ap (λ (o : Option ℕ). unwrap_or o 0) e in
      record { below = subst (λ f. f < frame_count words) same t.last_below; frame_is = t.frame_is ∙ ap (λ f. frame_of (word_at words f (page % 512))) same })
  | inr l ↦ absurd (
      let none = large_none words root (prefix_of page 3) l.large l.met in
      let no : None ≡ Some table = sym (ap (option_map (λ (place : Place). place.frame)) none) ∙ is in cc)
]

-- and by its large page
pub record IsPageOf (page first frame : ℕ) : Type 0 where
  pub fits : first + page % 512 < 2 ^ 40
  pub frame_is : frame ≡ first + page % 512

pub by_large : (words : List ℕ) (root page first : ℕ) (w : IsPassed words root page) →
    IsLargePage words root (prefix_of page 3) first → IsPageOf page first w.place.frame
by_large words root page first w is = elim w.way [
  | inl t ↦ absurd (go (large_of words root (prefix_of page 3)) refl is t.last t.met)
  | inr l ↦ (
      let e : Some l.large.frame ≡ Some first = sym (ap (option_map (λ (place : Place). place.frame)) l.met) ∙ is in
      let same : l.large.frame ≡ first = ap (λ (o : Option ℕ). unwrap_or o 0) e in
      let whole = (large_below words root (prefix_of page 3) l.large l.met).0 in
      let field = l.large_frame in
      record { fits = omega arith; frame_is = l.frame_is ∙ ap (λ f. f + page % 512) same })
]
  where
    go : (o : Option Place) → large_of words root (prefix_of page 3) ≡ o →
        option_map (λ (place : Place). place.frame) o ≡ Some first → (last : Place) →
        reach words root 3 (prefix_of page 3) ≡ Some last → ⊥
    go None at is last met = let no : None ≡ Some first = is in cc
    go (Some large) at is last met = let none = large_none words root (prefix_of page 3) large at in let no : None ≡ Some last = sym none ∙ met in cc

-- ---- what is kept of slots

some_stays : (old new : Option Place) (frame : ℕ) → ((place : Place) → old ≡ Some place → new ≡ Some place) →
    option_map (λ (place : Place). place.frame) old ≡ Some frame →
    option_map (λ (place : Place). place.frame) new ≡ Some frame
some_stays None new frame stay is = absurd (let no : None ≡ Some frame = is in cc)
some_stays (Some place) new frame stay is = ap (option_map (λ (place : Place). place.frame)) (stay place refl) ∙ is

-- tables are still kept if tables stay
pub tables_stay : (old new : List ℕ) (root : ℕ) (slots : List Met) →
    ((number : ℕ) (met : Place) → reach old root 3 number ≡ Some met → reach new root 3 number ≡ Some met) →
    AreTablesMet old root slots → AreTablesMet new root slots
tables_stay old new root slots tables are = λ k d less some.
    let met = get_or slots k d in
    some_stays (reach old root 3 met.number) (reach new root 3 met.number) met.frame (tables met.number) (are k d less some)

-- and what is kept of pages and of large pages too, if these stay
pub met_stay : (old new : List ℕ) (root : ℕ) (slots : MetSlots) →
    ((l number : ℕ) (met : Place) → l ≤ 4 → reach old root l number ≡ Some met → reach new root l number ≡ Some met) →
    ((number : ℕ) (large : Place) → large_of old root number ≡ Some large → large_of new root number ≡ Some large) →
    AreMet old root slots → AreMet new root slots
met_stay old new root slots steps larges are = (
  tables_stay old new root slots.tables
      (λ number met is. steps 3 number met (omega arith) is) are.0,
  larges_stay,
  pages_stay,
)
  where
    larges_stay : AreLargePagesMet new root slots.large_pages
    larges_stay = λ k d less some.
        let met = get_or slots.large_pages k d in
        some_stays (large_of old root met.number) (large_of new root met.number) met.frame (larges met.number) (are.1 k d less some)

    pages_stay : ArePagesMet new root slots.pages
    pages_stay = λ k d less some.
        let met = get_or slots.pages k d in
        some_stays (walk_of old root met.number) (walk_of new root met.number) met.frame
        (λ place is. walk_reach new root met.number ∙ steps 4 (prefix_of met.number 4) place (omega arith)
        (sym (walk_reach old root met.number) ∙ is)) (are.2 k d less some)

-- a page that is kept: the walk to it finds its frame
pub kept_frame : (words : List ℕ) (root page frame : ℕ) → root < frame_count words → IsSome (walk_of words root page) →
    IsPage words root page frame → LeadsTo words root page frame
kept_frame words root page frame within some is =
    let w = passed words root page within some in
    let same : Some w.place.frame ≡ Some frame = sym (ap (option_map (λ (place : Place). place.frame)) w.found) ∙ is in
    let to : w.place.frame ≡ frame = ap (λ o. unwrap_or o 0) same in
    record { place = w.place; found = w.found; to_frame = to; below = subst (λ f. f < frame_count words) to w.place_below }

pub found_frame_kept : (words : List ℕ) (root page number frame : ℕ) (o : Option ℕ) → root < frame_count words →
    IsSome (walk_of words root page) → number ≡ page →
    IfSome o (IsPage words root number) → o ≡ Some frame → LeadsTo words root page frame
found_frame_kept words root page number frame None within some same is e = absurd (cc)
found_frame_kept words root page number frame (Some x) within some same is e =
    let to : x ≡ frame = ap (λ o. unwrap_or o 0) e in
    kept_frame words root page frame within some (subst (λ f. IsPage words root page f) to (subst (λ n. IsPage words root n x) same is))

-- if pages are cut, tables stay: a large page that leaves its slot to a table had none before
pub cut_stay : (old new : List ℕ) (root first : ℕ) (slots : List Met) →
    ((l number : ℕ) → l ≡ 3 → (l ≡ 3 → number ≡ prefix_of first 3 → cuts_large_page old root first ≡ false) →
    reach new root l number ≡ reach old root l number) →
    AreTablesMet old root slots → AreTablesMet new root slots
cut_stay old new root first slots same = tables_stay old new root slots (λ number met is. same 3 number refl (λ e at. not_cut number met is at) ∙ is)
  where
    not_cut : (number : ℕ) (met : Place) → reach old root 3 number ≡ Some met → number ≡ prefix_of first 3 → cuts_large_page old root first ≡ false
    not_cut number met is at = elim (cut_or_not old root first) [
      | inr none ↦ none
      | inl cut ↦ absurd (
          let none = large_none old root (prefix_of first 3) cut.0 cut.1.there in
          let no : None ≡ Some met = sym (ap (reach old root 3) at ∙ none) ∙ is in cc)
    ]

-- ---- words at a frame that was found

pub frame_at : (words : List ℕ) (root at address page frame : ℕ) → page ≡ address / 4096 → address ≡ at →
    LeadsTo words root page frame → LeadsTo words root (at / 4096) frame
frame_at words root at address page frame page_is address_is f = subst (λ p. LeadsTo words root p frame) (page_is ∙ ap (λ a. a / 4096) address_is) f

pub set_at : (old new : List ℕ) (root at index frame value : ℕ) (f : LeadsTo old root (at / 4096) frame) →
    index ≡ at % 4096 / 8 → new ≡ set old (512 * frame + index) value →
    new ≡ set old (512 * f.place.frame + at % 4096 / 8) value
set_at old new root at index frame value f index_is put =
    put ∙ (ap (λ i. set old (512 * frame + i) value) index_is ∙ ap (λ n. set old (512 * n + at % 4096 / 8) value) (sym f.to_frame))

pub put_at : (old new : List ℕ) (root at index frame : ℕ) (words : List ℕ) (f : LeadsTo old root (at / 4096) frame) →
    index ≡ at % 4096 / 8 → AreWordsWritten old new frame index words →
    AreWordsWritten old new f.place.frame (at % 4096 / 8) words
put_at old new root at index frame words f index_is put =
    subst (λ i. AreWordsWritten old new f.place.frame i words) index_is (subst (λ n. AreWordsWritten old new n index words) (sym f.to_frame) put)

pub page_canonical : (at : ℕ) → IsTrue (is_canonical at) → IsTrue (is_canonical (at / 4096 * 4096))
page_canonical at canonical = let same : at / 4096 * 4096 / 2 ^ 47 ≡ at / 2 ^ 47 = omega arith in rw same canonical
