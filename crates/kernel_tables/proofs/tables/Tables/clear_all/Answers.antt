use Rattle.std.proofs.Common.{◌≡◌, ◌+◌, ◌/◌, None, sym, ap, ◌∙◌, arith}
use Rattle.paging_core.specs.Large.{slot_of}
use Rattle.paging_core.specs.Walk.{large_of}
use Rattle.std.specs.Prelude.{IsSome}
use Rattle.kernel_tables.specs.Changes.{IsEntryCleared}
use Rattle.kernel_tables.proofs.RangeTests.{is_there, if_there, is_nothing}
use Rattle.kernel_tables.proofs.RangeChanged.{IsChangedTo, changed_start, still, page_changed, slot_changed, only_range, gone_all, gone_large, is_hole}
use Rattle.kernel_tables.proofs.tables.Tables.clear_all.Goals as goal
use Rattle.kernel_tables.proofs.tables.Tables.clear_all.Goals.{After-slot_at, After-loop-done}

pub loop-done-init : goal.loop-done-init
loop-done-init c = changed_start c.args.self.now c.args.page c.args.pages (λ was. None) c.requires.within

-- the large page of the next page, which has no entry of its own
large : (c : goal.After-slot_at) → IsSome (large_of c.loop-done.self.words c.loop-done.self.root (slot_of ((c.args.page + c.loop-done.done) / 512)))
large c =
    rw c.after-at.ensures at (c.clear_entry.ensures.none (is_nothing c.clear_entry.result (sym c.is_some.ensures ∙ c.if-is_some.false)) (rw (
      c.after-at.ensures,
      still c.args.self.now c.loop-done.self c.args.page c.args.pages c.loop-done.done (λ was. None)
          c.requires.range c.loop-done.invariant c.loop-done-test.true c.loop-done.done (omega arith) c.loop-done-test.true,
    ) (c.requires.mapped c.loop-done.done c.loop-done-test.true)))

pub clear_slot-requires : goal.clear_slot-requires
clear_slot-requires c = rw (
  c.clear_entry.ensures.same (is_nothing c.clear_entry.result
      (sym c.is_some.ensures ∙ c.if-is_some.false)),
  c.slot_at.ensures,
  c.after-at.ensures,
) (large c)

pub loop-done-preserved-then-is_some : goal.loop-done-preserved-then-is_some
loop-done-preserved-then-is_some c =
    let a = c.after-at.ensures in
    let alone = (c.clear_entry.ensures.some (is_there c.clear_entry.result (sym c.is_some.ensures ∙ c.if-is_some.true))).1 in
    let cleared = if_there c.clear_entry.result (IsEntryCleared c.loop-done.self c.clear_entry.new.self c.after-at.result) (sym c.is_some.ensures ∙ c.if-is_some.true) c.clear_entry.ensures.cleared in
    let entry = cleared.1 in
    page_changed c.args.self.now c.loop-done.self c.args.page c.args.pages c.loop-done.done (λ was. None) c.requires.range
    c.loop-done.invariant c.loop-done-test.true
    c.clear_entry.new.self entry.free
    (λ some. is_hole (large_of c.loop-done.self.words c.loop-done.self.root (slot_of ((c.args.page + c.loop-done.done) / 512))) (rw a at alone) some)
    (rw a at entry.only) (λ was is. rw a at entry.unmapped) entry.larges (rw a at entry.words)

pub loop-done-preserved : goal.loop-done-preserved
loop-done-preserved c =
    let e : c.slot_at.result ≡ (c.args.page + c.loop-done.done) / 512 = c.slot_at.ensures ∙ ap (λ n. n / 512) c.after-at.ensures in
    let s = c.clear_entry.ensures.same (is_nothing c.clear_entry.result (sym c.is_some.ensures ∙ c.if-is_some.false)) in
    slot_changed c.args.self.now c.loop-done.self c.args.page c.args.pages c.loop-done.done (λ was. None) c.requires.range
    c.loop-done.invariant c.loop-done-test.true
    c.clear_slot.new.self (rw s at c.clear_slot.ensures.free) (large (goal.at.loop-done-preserved c).After-slot_at) (rw (s, e) at c.clear_slot.ensures.only)
    (λ k was lt is. rw e at (c.clear_slot.ensures.unmapped k lt)) (rw (s, e) at c.clear_slot.ensures.larges)
    (λ was is. rw e at c.clear_slot.ensures.gone) (rw (s, e) at c.clear_slot.ensures.words)

all : (c : goal.After-loop-done) → IsChangedTo c.args.self.now c.loop-done.self c.args.page c.args.pages c.args.pages (λ was. None)
all c =
    let w = c.loop-done.invariant.within in
    let d : c.loop-done.done ≡ c.args.pages = omega (arith, w, c.loop-done-test.false) in
    rw d at c.loop-done.invariant

pub returns-clause-only : goal.returns-clause-only
returns-clause-only c = only_range c.args.self.now c.loop-done.self c.args.page c.args.pages (λ was. None) (all (goal.at.returns-clause-only c).After-loop-done)

pub returns-clause-large : goal.returns-clause-large
returns-clause-large c = gone_large c.args.self.now c.loop-done.self c.args.page c.args.pages (all (goal.at.returns-clause-large c).After-loop-done)

pub returns-clause-unmapped : goal.returns-clause-unmapped
returns-clause-unmapped c = gone_all c.args.self.now c.loop-done.self c.args.page c.args.pages c.requires.mapped
    (all (goal.at.returns-clause-unmapped c).After-loop-done)

pub returns-clause-words : goal.returns-clause-words
returns-clause-words c = c.loop-done.invariant.words
