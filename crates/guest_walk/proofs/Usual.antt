-- With no-execute on and bit 8 reserved the walk is the processor's.
use Rattle.std.proofs.Common.{◌≡◌, ℕ, ◌+◌, ◌/◌, ◌%◌, ◌^◌, Bool, true, false, not, ◌&&◌, ◌||◌, cond, List, refl, sym, ap, ◌∙◌}
use Rattle.paging_core.specs.Memory.{word_at}
use Rattle.paging_core.specs.Entry.{has_bit}
use Rattle.paging_core.specs.Walk.{Place, named}
use Rattle.paging_core.specs.ProcessorWalk as plain
use Rattle.paging_core.specs.ProcessorWalk.{Outcome, past, has_reserved, within, processor_walk}
use Rattle.guest_walk.specs.Mode.{entry_seen, has_reserved_in}
use Rattle.guest_walk.specs.GuestWalk.{Ending, NotPresent, Reserved, AtPage, Finding, led, found_within, found_root, past_in, read_at, by_fourth, by_third, by_second, by_first, guest_walk, outcome_of}
use Rattle.guest_walk.specs.Laws.{WalksAsTheProcessor, PermitsAsTheProcessor}
use Rattle.guest_walk.specs.declared.mode.Mode.{Mode}

-- what is told of a choice is the choice of what is told
of_choice : (b : Bool) (x y : Ending) → outcome_of (cond b x y) ≡ cond b (outcome_of x) (outcome_of y)
of_choice false x y = refl
of_choice true x y = refl

module _ (mode : Mode) (width : ℕ) (words : List ℕ) (page : ℕ)
    (no_execute : mode.no_execute ≡ true) (reserved : mode.ignores_bit_8 ≡ false) where
  past_same : (step entry : ℕ) (onward : Ending) → outcome_of (past_in mode width step entry onward) ≡ past width step entry (outcome_of onward)
  past_same step entry onward =
      rw no_execute
      (of_choice (not (has_bit entry 0)) (NotPresent step) (cond (has_reserved width step entry) (Reserved step) onward)
      ∙ ap (cond (not (has_bit entry 0)) (plain.NotPresent step)) (of_choice (has_reserved width step entry) (Reserved step) onward))

  read_same : (step frame : ℕ) → read_at mode words step frame page ≡ word_at words frame (plain.index_of step page)
  read_same step frame = rw reserved refl

  fourth : (from : Finding) (entry : ℕ) → outcome_of (by_fourth mode width from entry) ≡ plain.by_fourth width from.place entry
  fourth from entry = past_same 3 entry (AtPage 3 (led from entry))

  third : (from : Finding) (entry : ℕ) → outcome_of (by_third mode width words page from entry) ≡ plain.by_third width words page from.place entry
  third from entry =
      let to = led from entry in
      let large = AtPage 2 (found_within (2 ^ 9) page to) in
      let onward = by_fourth mode width to (read_at mode words 3 to.place.frame page) in
      past_same 2 entry (cond (has_bit entry 7) large onward)
      ∙ ap (past width 2 entry)
      (of_choice (has_bit entry 7) large onward
      ∙ ap (cond (has_bit entry 7) (outcome_of large))
      (fourth to (read_at mode words 3 to.place.frame page) ∙ ap (plain.by_fourth width to.place) (read_same 3 to.place.frame)))

  second : (from : Finding) (entry : ℕ) → outcome_of (by_second mode width words page from entry) ≡ plain.by_second width words page from.place entry
  second from entry =
      let to = led from entry in
      let large = AtPage 1 (found_within (2 ^ 18) page to) in
      let onward = by_third mode width words page to (read_at mode words 2 to.place.frame page) in
      past_same 1 entry (cond (has_bit entry 7) large onward)
      ∙ ap (past width 1 entry)
      (of_choice (has_bit entry 7) large onward
      ∙ ap (cond (has_bit entry 7) (outcome_of large))
      (third to (read_at mode words 2 to.place.frame page) ∙ ap (plain.by_third width words page to.place) (read_same 2 to.place.frame)))

  first : (from : Finding) (entry : ℕ) → outcome_of (by_first mode width words page from entry) ≡ plain.by_first width words page from.place entry
  first from entry =
      let to = led from entry in
      past_same 0 entry (by_second mode width words page to (read_at mode words 1 to.place.frame page))
      ∙ ap (past width 0 entry)
      (second to (read_at mode words 1 to.place.frame page) ∙ ap (plain.by_second width words page to.place) (read_same 1 to.place.frame))

  whole : (root : ℕ) → outcome_of (guest_walk mode width words root page) ≡ processor_walk width words root page
  unfolding guest_walk processor_walk
  whole root = first (found_root root) (read_at mode words 0 root page) ∙ ap (plain.by_first width words page (found_root root).place) (read_same 0 root)

pub walks_alike : WalksAsTheProcessor
walks_alike mode width words root page no_execute reserved = whole mode width words page no_execute reserved root
