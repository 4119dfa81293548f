-- Over plain entries a processor's walk is `walk_of`.
use Rattle.std.proofs.Common.{◌≡◌, ℕ, ◌+◌, ◌*◌, ◌/◌, ◌%◌, ◌^◌, ◌<◌, ◌≤◌, Bool, true, false, not, ◌&&◌, ◌||◌, cond, eqb, ltb, List, Option, Some, None, refl, sym, ap, ◌∙◌, ◌⊎◌, inl, inr, arith}
use Rattle.std.proofs.Math.Nat.{div-eq_of_lt}
use Rattle.std.proofs.lemmas.Bool.{lt-ltb, eqb-true, and_parts}
use Rattle.std.proofs.lemmas.Bool.Decides.{nat_tests}
use Rattle.paging_core.specs.Memory.{word_at, frame_count}
use Rattle.paging_core.specs.Entry.{has_bit, frame_of}
use Rattle.paging_core.specs.Walk.{Place, step, large_step, large_from, next_from, reach, walk_of, page_or, named, top, is_present, is_run, ends_walk}
use Rattle.paging_core.specs.ProcessorWalk.{Outcome, AtPage, has_reserved, past, within, processor_walk, page_of, is_refused}
use Rattle.paging_core.specs.Plain.{IsPlain, ArePlain, maps_page, pat_of}
use Rattle.paging_core.specs.Laws.{WalkStepsByIndices, ProcessorsWalkAlike, NoEntryHasPat}
use Rattle.paging_core.proofs.Reach.{reach_zero, reach_suc, reach_is, large_is, either_way, ByEntry, InLarge}
use Rattle.paging_core.proofs.Made.{step_below, large_below}

-- the walk by the page's four indices
pub walk_steps : WalkStepsByIndices
unfolding walk_of
walk_steps words root page =
    let a : page % 2 ^ 36 / 512 / 512 / 512 / 512 ≡ 0 = omega arith in
    let b : page % 2 ^ 36 / 512 / 512 / 512 % 512 ≡ page / 2 ^ 27 % 512 = omega arith in
    let d : page % 2 ^ 36 / 512 / 512 % 512 ≡ page / 2 ^ 18 % 512 = omega arith in
    let e : page % 2 ^ 36 / 512 % 512 ≡ page / 2 ^ 9 % 512 = omega arith in
    let f : page % 2 ^ 36 % 512 ≡ page % 512 = omega arith in
    rw (
      reach_is words root (page % 2 ^ 36),
      large_is words root (page % 2 ^ 36 / 512),
      reach_suc words root 2 (page % 2 ^ 36 / 512) (omega arith),
      reach_suc words root 1 (page % 2 ^ 36 / 512 / 512) (omega arith),
      reach_suc words root 0 (page % 2 ^ 36 / 512 / 512 / 512) (omega arith),
      reach_zero words root (page % 2 ^ 36 / 512 / 512 / 512 / 512),
      a,
      b,
      d,
      e,
      f,
    ) refl

-- a walk ends at this page or finds none, and no reserved bit ends it
abbrev EndsAt : Outcome → Option Place → Type 0
EndsAt outcome page = (page_of outcome ≡ page) × (is_refused outcome ≡ false)

-- the first frame of a large page
aligned : (words : List ℕ) (f : ℕ) → is_run words f ≡ true → f % 512 ≡ 0
aligned words f e = eqb-true (f % 512) 0 (and_parts (eqb (f % 512) 0) (ltb (f + 511) (frame_count words)) e).0

-- the tests of each step
abbrev odd : ℕ → Bool → Bool → Bool → Bool
odd entry first second third = first && (has_bit entry 7 || has_bit entry 8) || second && (has_bit entry 7 && not (eqb (entry % 2 ^ 30 / 2 ^ 13) 0))
    || third && (has_bit entry 7 && not (eqb (entry % 2 ^ 21 / 2 ^ 13) 0))

none_odd : (entry : ℕ) → has_bit entry 7 ≡ false → (first second third : Bool) → (first ≡ true → has_bit entry 8 ≡ false) → odd entry first second third ≡ false
none_odd entry e true true true local = rw (e, local refl) refl
none_odd entry e true true false local = rw (e, local refl) refl
none_odd entry e true false true local = rw (e, local refl) refl
none_odd entry e true false false local = rw (e, local refl) refl
none_odd entry e false true true _ = rw e refl
none_odd entry e false true false _ = rw e refl
none_odd entry e false false true _ = rw e refl
none_odd entry e false false false _ = refl

-- a plain entry has no reserved bit
unreserved : (words : List ℕ) (width level entry : ℕ) → 4096 * frame_count words ≤ 2 ^ width → IsPlain words level entry →
    has_reserved width level entry ≡ false
unreserved words width level entry reaches p =
    let address : frame_of entry * 2 ^ 12 / 2 ^ width ≡ 0 = div-eq_of_lt (let f = p.frame in omega arith) in
    rw address (bits (has_bit entry 7) refl)
  where
    bits : (h : Bool) → has_bit entry 7 ≡ h → odd entry (eqb level 0) (eqb level 1) (eqb level 2) ≡ false
    bits false e =
        none_odd entry e (eqb level 0) (eqb level 1) (eqb level 2)
        (λ first. let l : level ≡ 0 = eqb-true level 0 first in p.local (rw (l, e) refl))
    bits true e =
        let s : level ≡ 2 = p.large e in
        let a : frame_of entry % 512 ≡ 0 = aligned words (frame_of entry) (p.run e) in
        let z : entry % 2 ^ 21 / 2 ^ 13 ≡ 0 = omega arith in
        rw (e, s, z) refl

module _ (words : List ℕ) (width page : ℕ)
    (reaches : 4096 * frame_count words ≤ 2 ^ width) where
  there : (w level : ℕ) → IsPlain words level w → ltb (frame_of w) (frame_count words) ≡ true
  there w level p = lt-ltb (frame_of w) (frame_count words) p.frame

  -- the first two steps: `end` is where the walk ends from what they lead to
  early : (level : ℕ) (at : Place) (w : ℕ) (onward : Outcome) (end : Option Place → Option Place) → level < 2 → (has_bit w 0 ≡ true → IsPlain words level w) →
      end None ≡ None → (has_bit w 0 ≡ true → EndsAt onward (end (Some (named at w)))) →
      EndsAt (past width level w onward) (end (cond (is_present words w && not (ends_walk level w)) (Some (named at w)) None))
  early level at w onward end lt plain none there_on = go (has_bit w 0) refl
    where
      go : (b : Bool) → has_bit w 0 ≡ b → EndsAt (past width level w onward)
          (end (cond (is_present words w && not (ends_walk level w)) (Some (named at w)) None))
      go false e = rw e (sym none, refl)
      go true e =
          let r = unreserved words width level w reaches (plain e) in
          let f = there w level (plain e) in
          let l : eqb level 2 ≡ false = grind (arith, nat_tests) in
          rw (e, r, f, l) (there_on e)

  -- the third
  third : (at : Place) (w : ℕ) (onward : Outcome) → (has_bit w 0 ≡ true → IsPlain words 2 w) →
      (has_bit w 0 ≡ true → has_bit w 7 ≡ false → EndsAt onward (step words 3 (named at w) (page % 512))) →
      EndsAt (past width 2 w (cond (has_bit w 7) (AtPage (within (2 ^ 9) page (named at w))) onward))
      (page_or (cond (is_present words w && (has_bit w 7 && is_run words (frame_of w))) (Some (named at w)) None) (page % 512)
      (next_from words 3 (cond (is_present words w && not (ends_walk 2 w)) (Some (named at w)) None) (page % 512)))
  third at w onward plain there_on = go (has_bit w 0) refl (has_bit w 7) refl
    where
      go : (b : Bool) → has_bit w 0 ≡ b → (h : Bool) → has_bit w 7 ≡ h →
          EndsAt (past width 2 w (cond (has_bit w 7) (AtPage (within (2 ^ 9) page (named at w))) onward))
          (page_or (cond (is_present words w && (has_bit w 7 && is_run words (frame_of w))) (Some (named at w)) None) (page % 512)
          (next_from words 3 (cond (is_present words w && not (ends_walk 2 w)) (Some (named at w)) None) (page % 512)))
      go false e h k = rw e (refl, refl)
      go true e false k =
          let r = unreserved words width 2 w reaches (plain e) in
          let f = there w 2 (plain e) in
          rw (e, r, f, k) (there_on e k)
      go true e true k =
          let r = unreserved words width 2 w reaches (plain e) in
          let f = there w 2 (plain e) in
          let u : is_run words (frame_of w) ≡ true = (plain e).run k in
          let a = aligned words (frame_of w) u in
          let s : frame_of w / 2 ^ 9 * 2 ^ 9 + page % 2 ^ 9 ≡ frame_of w + page % 512 = omega arith in
          rw (e, r, f, k, u, s) (refl, refl)

  -- the fourth
  fourth : (at : Place) (w : ℕ) → (has_bit w 0 ≡ true → IsPlain words 3 w) →
      EndsAt (past width 3 w (AtPage (named at w))) (cond (is_present words w && not (ends_walk 3 w)) (Some (named at w)) None)
  fourth at w plain = go (has_bit w 0) refl
    where
      go : (b : Bool) → has_bit w 0 ≡ b → EndsAt (past width 3 w (AtPage (named at w)))
          (cond (is_present words w && not (ends_walk 3 w)) (Some (named at w)) None)
      go false e = rw e (refl, refl)
      go true e =
          let r = unreserved words width 3 w reaches (plain e) in
          let f = there w 3 (plain e) in
          rw (e, r, f) (refl, refl)

  -- a table that an entry names
  goes_on : (level : ℕ) (at : Place) (i : ℕ) → IsPlain words level (word_at words at.frame i) → has_bit (word_at words at.frame i) 0 ≡ true →
      (level ≡ 2 → has_bit (word_at words at.frame i) 7 ≡ false) → step words level at i ≡ Some (named at (word_at words at.frame i))
  unfolding step
  goes_on level at i plain present small = go (eqb level 2) refl
    where
      f : ltb (frame_of (word_at words at.frame i)) (frame_count words) ≡ true
      f = there (word_at words at.frame i) level plain

      go : (b : Bool) → eqb level 2 ≡ b →
          cond (is_present words (word_at words at.frame i) && not (ends_walk level (word_at words at.frame i)))
          (Some (named at (word_at words at.frame i))) None
          ≡ Some (named at (word_at words at.frame i))
      go false e = rw (present, f, e) refl
      go true e = let s = small (eqb-true level 2 e) in rw (present, f, e, s) refl

-- bit 7 of a plain entry is not set but in the third step
not_large : (words : List ℕ) (level entry : ℕ) → IsPlain words level entry → (level ≡ 2 → ⊥) → has_bit entry 7 ≡ false
not_large words level entry p ne = go (has_bit entry 7) refl
  where
    go : (b : Bool) → has_bit entry 7 ≡ b → has_bit entry 7 ≡ false
    go false e = e
    go true e = absurd (ne (p.large e))

module _ (words : List ℕ) (root page width : ℕ)
    (plain : ArePlain words root)
    (reaches : 4096 * frame_count words ≤ 2 ^ width) where
  -- the entries that a processor reads, and where they lead
  abbrev pub first : ℕ
  first = word_at words root (page / 2 ^ 27 % 512)

  abbrev pub to_first : Place
  to_first = named (top root) first

  abbrev pub second : ℕ
  second = word_at words to_first.frame (page / 2 ^ 18 % 512)

  abbrev pub to_second : Place
  to_second = named to_first second

  abbrev pub third_entry : ℕ
  third_entry = word_at words to_second.frame (page / 2 ^ 9 % 512)

  abbrev pub to_third : Place
  to_third = named to_second third_entry

  abbrev pub fourth_entry : ℕ
  fourth_entry = word_at words to_third.frame (page % 512)

  -- the tables on the way are met, and so their entries are plain
  pub root_met : reach words root 0 0 ≡ Some (top root)
  root_met = reach_zero words root 0

  plain_first : has_bit first 0 ≡ true → IsPlain words 0 first
  plain_first = plain.each 0 0 (page / 2 ^ 27 % 512) (top root) (omega arith) (omega arith) root_met

  pub first_met : has_bit first 0 ≡ true → reach words root 1 (page / 2 ^ 27 % 512) ≡ Some to_first
  first_met e =
      let q : page / 2 ^ 27 % 512 / 512 ≡ 0 = omega arith in
      let r : page / 2 ^ 27 % 512 % 512 ≡ page / 2 ^ 27 % 512 = omega arith in
      reach_suc words root 0 (page / 2 ^ 27 % 512) (omega arith)
      ∙ rw (q, r, root_met) (goes_on words width page reaches 0 (top root) (page / 2 ^ 27 % 512) (plain_first e) e (λ z. absurd (omega (arith, z))))

  plain_second : has_bit first 0 ≡ true → has_bit second 0 ≡ true → IsPlain words 1 second
  plain_second e = plain.each 1 (page / 2 ^ 27 % 512) (page / 2 ^ 18 % 512) to_first (omega arith) (omega arith) (first_met e)

  pub second_met : has_bit first 0 ≡ true → has_bit second 0 ≡ true → reach words root 2 (page / 2 ^ 18 % 2 ^ 18) ≡ Some to_second
  second_met e f =
      let q : page / 2 ^ 18 % 2 ^ 18 / 512 ≡ page / 2 ^ 27 % 512 = omega arith in
      let r : page / 2 ^ 18 % 2 ^ 18 % 512 ≡ page / 2 ^ 18 % 512 = omega arith in
      let m = first_met e in
      reach_suc words root 1 (page / 2 ^ 18 % 2 ^ 18) (omega arith)
      ∙ rw (q, r, m) (goes_on words width page reaches 1 to_first (page / 2 ^ 18 % 512) (plain_second e f) f (λ z. absurd (omega (arith, z))))

  plain_third : has_bit first 0 ≡ true → has_bit second 0 ≡ true → has_bit third_entry 0 ≡ true → IsPlain words 2 third_entry
  plain_third e f = plain.each 2 (page / 2 ^ 18 % 2 ^ 18) (page / 2 ^ 9 % 512) to_second (omega arith) (omega arith) (second_met e f)

  pub third_met : has_bit first 0 ≡ true → has_bit second 0 ≡ true → has_bit third_entry 0 ≡ true → has_bit third_entry 7 ≡ false →
      reach words root 3 (page / 2 ^ 9 % 2 ^ 27) ≡ Some to_third
  third_met e f g h =
      let q : page / 2 ^ 9 % 2 ^ 27 / 512 ≡ page / 2 ^ 18 % 2 ^ 18 = omega arith in
      let r : page / 2 ^ 9 % 2 ^ 27 % 512 ≡ page / 2 ^ 9 % 512 = omega arith in
      let m = second_met e f in
      reach_suc words root 2 (page / 2 ^ 9 % 2 ^ 27) (omega arith)
      ∙ rw (q, r, m) (goes_on words width page reaches 2 to_second (page / 2 ^ 9 % 512) (plain_third e f g) g (λ z. h))

  plain_fourth : has_bit first 0 ≡ true → has_bit second 0 ≡ true → has_bit third_entry 0 ≡ true → has_bit third_entry 7 ≡ false →
      has_bit fourth_entry 0 ≡ true → IsPlain words 3 fourth_entry
  plain_fourth e f g h = plain.each 3 (page / 2 ^ 9 % 2 ^ 27) (page % 512) to_third (omega arith) (omega arith) (third_met e f g h)

  -- the walk, from its last step to the first
  from_fourth : has_bit first 0 ≡ true → has_bit second 0 ≡ true → has_bit third_entry 0 ≡ true → has_bit third_entry 7 ≡ false →
      EndsAt (past width 3 fourth_entry (AtPage (named to_third fourth_entry))) (step words 3 to_third (page % 512))
  unfolding step
  from_fourth e f g h = fourth words width page reaches to_third fourth_entry (plain_fourth e f g h)

  abbrev from_third : Outcome
  from_third = past width 2 third_entry (cond (has_bit third_entry 7) (AtPage (within (2 ^ 9) page to_third))
      (past width 3 fourth_entry (AtPage (named to_third fourth_entry))))

  third_ends : has_bit first 0 ≡ true → has_bit second 0 ≡ true →
      EndsAt from_third (page_or (large_step words to_second (page / 2 ^ 9 % 512)) (page % 512)
      (next_from words 3 (step words 2 to_second (page / 2 ^ 9 % 512)) (page % 512)))
  unfolding step large_step
  third_ends e f = third words width page reaches to_second third_entry
      (past width 3 fourth_entry (AtPage (named to_third fourth_entry))) (plain_third e f) (from_fourth e f)

  -- where the walk ends from what its second step leads to
  abbrev from_there : Option Place → Option Place
  from_there o = page_or (large_from words o (page / 2 ^ 9 % 512)) (page % 512) (next_from words 3 (next_from words 2 o (page / 2 ^ 9 % 512)) (page % 512))

  abbrev from_second : Outcome
  from_second = past width 1 second (cond (has_bit second 7) (AtPage (within (2 ^ 18) page to_second)) from_third)

  second_ends : has_bit first 0 ≡ true → EndsAt from_second (from_there (step words 1 to_first (page / 2 ^ 18 % 512)))
  unfolding step
  second_ends e =
      early words width page reaches 1 to_first second (cond (has_bit second 7) (AtPage (within (2 ^ 18) page to_second))
      from_third) from_there (omega arith) (plain_second e) refl
      (λ f. let h = not_large words 1 second (plain_second e f) (λ z. absurd (omega (arith, z))) in rw h (third_ends e f))

  first_ends : EndsAt (past width 0 first from_second) (from_there (next_from words 1 (step words 0 (top root) (page / 2 ^ 27 % 512)) (page / 2 ^ 18 % 512)))
  unfolding step
  first_ends =
      early words width page reaches 0 (top root) first from_second (λ o.
      from_there (next_from words 1 o (page / 2 ^ 18 % 512))) (omega arith) plain_first refl second_ends

ends_alike : (words : List ℕ) (root page width : ℕ) → ArePlain words root → 4096 * frame_count words ≤ 2 ^ width →
    EndsAt (processor_walk width words root page) (walk_of words root page)
unfolding processor_walk
ends_alike words root page width plain reaches =
    let e = first_ends words root page width plain reaches in
    (e.0 ∙ sym (walk_steps words root page), e.1)

-- the frame of a page that the walk finds lies in the memory
walk_below : (words : List ℕ) (root page : ℕ) (place : Place) → walk_of words root page ≡ Some place → place.frame < frame_count words
unfolding walk_of
walk_below words root page place found = way (either_way words root (page % 2 ^ 36) place found)
  where
    way : ByEntry words root (page % 2 ^ 36) place ⊎ InLarge words root (page % 2 ^ 36) place → place.frame < frame_count words
    way (inl x) = step_below words 3 x.table place (page % 2 ^ 36 % 512) x.led
    way (inr x) =
        let run = large_below words root (page % 2 ^ 36 / 512) x.large x.met in
        let frame : place.frame ≡ x.large.frame + page % 2 ^ 36 % 512 = ap (λ p. p.frame) x.is in
        omega arith

pub walks_alike : ProcessorsWalkAlike
walks_alike words root page width plain reaches =
    let e = ends_alike words root page width plain reaches in
    (e.0, e.1, λ place ends. walk_below words root page place (sym e.0 ∙ ap page_of ends))

-- an entry that maps a page has no PAT bit
no_pat : (words : List ℕ) (level entry : ℕ) → IsPlain words level entry → maps_page level entry ≡ true → pat_of level entry ≡ false
no_pat words level entry p maps = go (eqb level 3) refl
  where
    go : (b : Bool) → eqb level 3 ≡ b → pat_of level entry ≡ false
    go true e =
        let l : level ≡ 3 = eqb-true level 3 e in
        rw e (not_large words level entry p (λ z. absurd (omega (arith, l, z))))
    go false e =
        let h : has_bit entry 7 ≡ true = rw e at maps in
        let a : frame_of entry % 512 ≡ 0 = aligned words (frame_of entry) (p.run h) in
        let b : has_bit entry 12 ≡ false = grind (arith, nat_tests) in
        rw e b

pub none_has_pat : NoEntryHasPat
none_has_pat words root level number index table plain lt li met present maps =
    no_pat words level (word_at words table.frame index) (plain.each level number index table lt li met present) maps
