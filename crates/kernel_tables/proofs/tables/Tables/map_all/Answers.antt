use Rattle.std.proofs.Common.{◌≡◌, ◌+◌, ◌*◌, ◌/◌, sym, ap, ◌∙◌, arith}
use Rattle.kernel_tables.specs.TableState.{limit_of}
use Rattle.kernel_tables.proofs.LargePages.{row_outside, row_part}
use Rattle.kernel_tables.proofs.RangeMapped.{IsMappedTo, mapped_start, begins, begins_at, single, page_unmapped, page_room, slot_empty, slot_room, page_next, slot_next, mapped_only, mapped_range}
use Rattle.kernel_tables.proofs.tables.Tables.map_all.Goals as goal
use Rattle.kernel_tables.proofs.tables.Tables.map_all.Goals.{After-loop-done}

pub loop-done-init : goal.loop-done-init
loop-done-init c = mapped_start c.args.self.now c.args.page c.args.pages c.args.frame c.args.bits

pub loop-done-preserved-then-begins_large : goal.loop-done-preserved-then-begins_large
loop-done-preserved-then-begins_large c =
    let a = c.after-at.ensures in
    let yes' = sym (rw (c.after-at.ensures, c.after-to.ensures) at c.begins_large.ensures) ∙ c.if-begins_large.true in
    let b = begins c.args.self.now c.loop-done.self c.args.page c.args.pages c.args.frame c.loop-done.done c.args.bits
    c.requires.mappable.range c.loop-done.invariant c.loop-done-test.true yes' in
    let f = begins_at c.args.self.now c.loop-done.self c.args.page c.args.pages c.args.frame c.loop-done.done c.args.bits
    c.requires.mappable.range c.loop-done.invariant c.loop-done-test.true yes' in
    let at = f.1 in
    let to = c.after-to.ensures in
    let s = c.start_address.ensures in
    let r = c.containing_address-run.ensures in
    let e : c.slot_at.result ≡ (c.args.page + c.loop-done.done) / 512 = c.slot_at.ensures ∙ ap (λ n. n / 512) a in
    let from = b.from in
    let ends = b.to in
    slot_next c.args.self.now c.loop-done.self c.args.page c.args.pages c.args.frame c.loop-done.done c.args.bits
    c.requires.mappable.range c.loop-done.invariant c.loop-done-test.true
    c.add_large.new.self c.containing_address-run.result (omega (arith, at, to, s, r)) b f.0
    (rw e at c.add_large.ensures.only) (rw e at c.add_large.ensures.added)
    (rw e at (c.add_large.ensures.missing c.args.page c.args.pages c.requires.mappable.range (rw e from) (rw e ends))) (rw e at c.add_large.ensures.words)

pub loop-done-preserved : goal.loop-done-preserved
loop-done-preserved c =
    let a = c.after-at.ensures in
    let no' = sym (rw (c.after-at.ensures, c.after-to.ensures) at c.begins_large.ensures) ∙ c.if-begins_large.false in
    page_next c.args.self.now c.loop-done.self c.args.page c.args.pages c.args.frame c.loop-done.done c.args.bits
    c.requires.mappable.range c.loop-done.invariant c.loop-done-test.true
    c.add_page.new.self
    (single c.args.self.now c.loop-done.self c.args.page c.args.pages c.args.frame c.loop-done.done c.args.bits
    c.requires.mappable.range c.loop-done.invariant c.loop-done-test.true no')
    (rw a at c.add_page.ensures.only) (rw (a, c.after-to.ensures) at c.add_page.ensures.added)
    (rw a at (c.add_page.ensures.missing c.args.page c.args.pages c.requires.mappable.range (omega (arith, a)) (omega (arith, a, c.loop-done-test.true)))) (rw a at c.add_page.ensures.words)

all : (c : goal.After-loop-done) → IsMappedTo c.args.self.now c.loop-done.self c.args.page c.args.pages c.args.frame c.args.pages c.args.bits
all c =
    let w = c.loop-done.invariant.within in
    let d : c.loop-done.done ≡ c.args.pages = omega (arith, w, c.loop-done-test.false) in
    rw d at c.loop-done.invariant

pub returns-clause-only : goal.returns-clause-only
returns-clause-only c = mapped_only c.args.self.now c.loop-done.self c.args.page c.args.pages c.args.frame c.args.bits
    (all (goal.at.returns-clause-only c).After-loop-done)

pub returns-clause-mapped : goal.returns-clause-mapped
returns-clause-mapped c =
    mapped_range c.args.self.now c.loop-done.self c.args.page c.args.pages c.args.frame c.args.bits c.requires.mappable.range
    c.requires.mappable.unmapped (all (goal.at.returns-clause-mapped c).After-loop-done)

pub add_large-requires : goal.add_large-requires
add_large-requires c =
    let yes' = sym (rw (c.after-at.ensures, c.after-to.ensures) at c.begins_large.ensures) ∙ c.if-begins_large.true in
    let b = begins c.args.self.now c.loop-done.self c.args.page c.args.pages c.args.frame c.loop-done.done c.args.bits
    c.requires.mappable.range c.loop-done.invariant c.loop-done-test.true yes' in
    let f = begins_at c.args.self.now c.loop-done.self c.args.page c.args.pages c.args.frame c.loop-done.done c.args.bits
    c.requires.mappable.range c.loop-done.invariant c.loop-done-test.true yes' in
    let l : limit_of c.loop-done.self ≡ limit_of c.args.self.now = ap (λ n. n / 512) c.loop-done.invariant.place.size in
    let below = c.requires.mappable.below in
    let fits = f.2 in
    let at = f.1 in
    let to = c.after-to.ensures in
    let s = c.start_address.ensures in
    let r = c.containing_address-run.ensures in
    record {
      empty = rw (c.slot_at.ensures, c.after-at.ensures)
          (slot_empty c.args.self.now c.loop-done.self c.args.page c.args.pages c.args.frame c.loop-done.done c.args.bits
          c.requires.mappable.range c.loop-done.invariant c.loop-done-test.true b f.0 c.requires.mappable.unmapped);
      below = omega arith;
      outside = λ kept. rw c.loop-done.invariant.place.area
          (row_part c.args.self.now.area c.args.frame c.args.pages (512 * c.containing_address-run.result) 512 (c.requires.mappable.outside (rw c.loop-done.invariant.place.shared at kept))
          (omega arith) (omega arith));
      room = rw (c.slot_at.ensures, c.after-at.ensures)
          (slot_room c.args.self.now c.loop-done.self c.args.page c.args.pages c.args.frame c.loop-done.done c.args.bits
          c.requires.mappable.range c.loop-done.invariant c.loop-done-test.true c.requires.mappable.room f.0);
    }

pub add_page-requires : goal.add_page-requires
add_page-requires c =
    let no' = sym (rw (c.after-at.ensures, c.after-to.ensures) at c.begins_large.ensures) ∙ c.if-begins_large.false in
    let l : limit_of c.loop-done.self ≡ limit_of c.args.self.now = ap (λ n. n / 512) c.loop-done.invariant.place.size in
    record {
      unmapped = rw c.after-at.ensures
          (page_unmapped c.args.self.now c.loop-done.self c.args.page c.args.pages c.args.frame c.loop-done.done c.args.bits
          c.requires.mappable.range c.loop-done.invariant c.loop-done-test.true
          (c.requires.mappable.unmapped c.loop-done.done c.loop-done-test.true));
      below = omega (arith, l, c.requires.mappable.below, c.loop-done-test.true, c.after-to.ensures);
      outside = λ kept. rw (c.loop-done.invariant.place.area, c.after-to.ensures)
          (row_outside c.args.self.now.area c.args.frame c.args.pages (c.requires.mappable.outside (rw c.loop-done.invariant.place.shared at kept)) c.loop-done.done c.loop-done-test.true);
      room = rw c.after-at.ensures
          (page_room c.args.self.now c.loop-done.self c.args.page c.args.pages c.args.frame c.loop-done.done c.args.bits
          c.requires.mappable.range c.loop-done.invariant c.loop-done-test.true c.requires.mappable.room
          (single c.args.self.now c.loop-done.self c.args.page c.args.pages c.args.frame c.loop-done.done c.args.bits
          c.requires.mappable.range c.loop-done.invariant c.loop-done-test.true no'));
    }
