use Rattle.std.proofs.Common.{◌≡◌, ◌+◌, ◌*◌, ◌/◌, Some, ap, ◌∙◌, arith, ℕ, ◌<◌, ◌≤◌, false}
use Rattle.paging_core.specs.Large.{slot_of}
use Rattle.paging_core.specs.Walk.{large_of, place_with}
use Rattle.kernel_tables.specs.TableState.{leads, gives_area}
use Rattle.std.specs.Prelude.{IsSome}
use Rattle.kernel_tables.specs.Grants.{given_by, user_of}
use Rattle.kernel_tables.proofs.RangeChanged.{IsChangedTo, changed_start, still, still_open, begins_there, page_changed, slot_changed, only_range, granted_all, granted_large, told, is_hole}
use Rattle.kernel_tables.proofs.tables.Tables.grant_all.Goals as goal
use Rattle.kernel_tables.proofs.tables.Tables.grant_all.Goals.{After-slot_at, After-loop-done}

pub loop-done-init : goal.loop-done-init
loop-done-init c = changed_start c.args.self.now c.args.page c.args.pages (λ was. Some (place_with was.frame (given_by c.args.grant was))) c.requires.whole.within

-- users would not reach the area by a page that is still to be changed
open_at : (c : goal.After-slot_at) (k : ℕ) → c.loop-done.done ≤ k → k < c.args.pages → gives_area c.loop-done.self (c.args.page + k) (user_of c.args.grant) ≡ false
open_at c k lo lt =
    still_open c.args.self.now c.loop-done.self (c.args.page + k) (user_of c.args.grant) c.loop-done.invariant.place.area
    (still c.args.self.now c.loop-done.self c.args.page c.args.pages c.loop-done.done (λ was. Some (place_with was.frame (given_by c.args.grant was)))
    c.requires.whole.range c.loop-done.invariant c.loop-done-test.true k lo lt) (c.requires.hidden k lt)

-- the large page of the next page, which has no entry of its own
large : (c : goal.After-slot_at) → IsSome (large_of c.loop-done.self.words c.loop-done.self.root (slot_of ((c.args.page + c.loop-done.done) / 512)))
large c =
    rw c.after-at.ensures at (c.grant_entry.ensures.none c.if-grant_entry.false (rw (
      c.after-at.ensures,
      still c.args.self.now c.loop-done.self c.args.page c.args.pages c.loop-done.done (λ was. Some (place_with was.frame (given_by c.args.grant was)))
          c.requires.whole.range c.loop-done.invariant c.loop-done-test.true c.loop-done.done (omega arith) c.loop-done-test.true,
    ) (c.requires.whole.mapped c.loop-done.done c.loop-done-test.true)) (rw c.after-at.ensures (open_at c c.loop-done.done (omega arith) c.loop-done-test.true)))

pub grant_slot-requires-clause-hidden : goal.grant_slot-requires-clause-hidden
grant_slot-requires-clause-hidden c = λ k lt.
    let at = (goal.at.grant_slot-requires-clause-hidden c).After-slot_at in
    let b = begins_there c.args.self.now c.loop-done.self c.args.page c.args.pages c.loop-done.done
    (λ was. Some (place_with was.frame (given_by c.args.grant was))) c.requires.whole.range c.loop-done.invariant c.loop-done-test.true (large at) in
    let first = b.0 in
    let fits = b.1 in
    let s = c.slot_at.ensures in
    let a = c.after-at.ensures in
    let e : c.args.page + (c.loop-done.done + k) ≡ 512 * c.slot_at.result + k = omega (arith, first, s, a) in
    rw (c.grant_entry.ensures.same c.if-grant_entry.false, ← e) (open_at at (c.loop-done.done + k) (omega arith) (omega (arith, fits, lt)))

pub grant_slot-requires-clause-large : goal.grant_slot-requires-clause-large
grant_slot-requires-clause-large c = rw (c.grant_entry.ensures.same c.if-grant_entry.false, c.slot_at.ensures, c.after-at.ensures) (large c)

pub loop-done-preserved-then-grant_entry : goal.loop-done-preserved-then-grant_entry
loop-done-preserved-then-grant_entry c =
    let a = c.after-at.ensures in
    let alone = (c.grant_entry.ensures.some c.if-grant_entry.true).1 in
    let entry = c.grant_entry.ensures.granted c.if-grant_entry.true in
    page_changed c.args.self.now c.loop-done.self c.args.page c.args.pages c.loop-done.done
    (λ was. Some (place_with was.frame (given_by c.args.grant was))) c.requires.whole.range c.loop-done.invariant c.loop-done-test.true
    c.grant_entry.new.self entry.free
    (λ some. is_hole (large_of c.loop-done.self.words c.loop-done.self.root (slot_of ((c.args.page + c.loop-done.done) / 512))) (rw a at alone) some)
    (rw a at entry.only) (λ was is. rw a at (told (leads c.loop-done.self c.after-at.result)
    (λ was. leads c.grant_entry.new.self c.after-at.result ≡ Some (place_with was.frame (given_by c.args.grant was)))
    was entry.granted (rw a is))) entry.larges (rw a at entry.words)

pub loop-done-preserved : goal.loop-done-preserved
loop-done-preserved c =
    let e : c.slot_at.result ≡ (c.args.page + c.loop-done.done) / 512 = c.slot_at.ensures ∙ ap (λ n. n / 512) c.after-at.ensures in
    let s = c.grant_entry.ensures.same c.if-grant_entry.false in
    slot_changed c.args.self.now c.loop-done.self c.args.page c.args.pages c.loop-done.done
    (λ was. Some (place_with was.frame (given_by c.args.grant was))) c.requires.whole.range c.loop-done.invariant c.loop-done-test.true
    c.grant_slot.new.self (rw s at c.grant_slot.ensures.free) (large (goal.at.loop-done-preserved c).After-slot_at) (rw (s, e) at c.grant_slot.ensures.only)
    (λ k was lt is. rw e at (told (leads c.loop-done.self (512 * c.slot_at.result + k))
    (λ was. leads c.grant_slot.new.self (512 * c.slot_at.result + k) ≡ Some (place_with was.frame (given_by c.args.grant was)))
    was (rw s at (c.grant_slot.ensures.granted k lt)) (rw e is))) (rw (s, e) at c.grant_slot.ensures.larges)
    (λ was is. rw e at (told (large_of c.loop-done.self.words c.loop-done.self.root (slot_of c.slot_at.result))
    (λ was. large_of c.grant_slot.new.self.words c.grant_slot.new.self.root (slot_of c.slot_at.result) ≡ Some (place_with was.frame (given_by c.args.grant was)))
    was (rw s at c.grant_slot.ensures.large) (rw e is))) (rw (s, e) at c.grant_slot.ensures.words)

all : (c : goal.After-loop-done) → IsChangedTo c.args.self.now c.loop-done.self c.args.page c.args.pages c.args.pages
    (λ was. Some (place_with was.frame (given_by c.args.grant was)))
all c =
    let w = c.loop-done.invariant.within in
    let d : c.loop-done.done ≡ c.args.pages = omega (arith, w, c.loop-done-test.false) in
    rw d at c.loop-done.invariant

pub returns-clause-only : goal.returns-clause-only
returns-clause-only c = only_range c.args.self.now c.loop-done.self c.args.page c.args.pages
    (λ was. Some (place_with was.frame (given_by c.args.grant was))) (all (goal.at.returns-clause-only c).After-loop-done)

pub returns-clause-large : goal.returns-clause-large
returns-clause-large c = granted_large c.args.self.now c.loop-done.self c.args.page c.args.pages (given_by c.args.grant) c.requires.whole.within
    (all (goal.at.returns-clause-large c).After-loop-done)

pub returns-clause-granted : goal.returns-clause-granted
returns-clause-granted c = granted_all c.args.self.now c.loop-done.self c.args.page c.args.pages (given_by c.args.grant)
    c.requires.whole.mapped (all (goal.at.returns-clause-granted c).After-loop-done)

pub returns-clause-words : goal.returns-clause-words
returns-clause-words c = c.loop-done.invariant.words
