use Rattle.std.proofs.Common.{rules, ◌≡◌, ◌+◌, ◌/◌, ◌%◌, ◌<◌, ◌≤◌, not, sym, ap, ◌∙◌, arith}
use Rattle.paging_core.specs.Walk.{large_of}
use Rattle.paging_core.specs.Large.{slot_of}
use Rattle.page_ranges.proofs.Found.{none_of, some_of}
use Rattle.page_ranges.proofs.GapLoop.{gaps_start, gap_unmapped, gap_room, gap_next, gap_skip, range_mapped, mapped_elsewhere, mapped_zeros, mapped_bytes}
use Rattle.page_ranges.proofs.mapping.map_pages.Goals as goal
use Rattle.page_ranges.proofs.mapping.map_pages.Goals.{then-is_none, else-is_none}

pub loop-done-init : goal.loop-done-init
loop-done-init c = gaps_start c.map_slots-stop.new.frames c.map_slots-stop.new.pool c.args.root c.args.first c.args.pages
    c.args.rights c.map_slots-stop.ensures.added.pages_added.tree

pub map_range-requires-clause-mappable : goal.map_range-requires-clause-mappable
map_range-requires-clause-mappable c =
    let p = c.after-page.ensures in
    let n = c.number.ensures.value in
    let m = c.min-count.ensures in
    let t = c.loop-done-test.true in
    let some : 0 < c.min-count.result = omega arith in
    let inside : c.loop-done.done + c.min-count.result ≤ c.args.pages = omega arith in
    let one_slot : (c.args.first + c.loop-done.done) % 512 + c.min-count.result ≤ 512 = omega arith in
    let here : large_of c.loop-done.frames c.args.root (slot_of c.slot_at.result) ≡ large_of c.loop-done.frames c.args.root
    (slot_of ((c.args.first + c.loop-done.done) / 512)) =
    ap (λ s. large_of c.loop-done.frames c.args.root (slot_of s)) (c.slot_at.ensures ∙ ap (λ q. q / 512) p) in
    let small = sym here ∙ none_of c.large_page.result (large_of c.loop-done.frames c.args.root (slot_of c.slot_at.result))
    c.large_page.ensures (c.is_none.ensures ∙ ap not c.if-is_none.true) in
    record {
      range = search rules;
      unmapped = rw p
          (gap_unmapped c.args.frames.now c.map_slots-stop.new.frames c.loop-done.frames c.args.pool.now c.map_slots-stop.new.pool
          c.loop-done.pool c.args.root c.args.first c.args.pages
          c.map_slots-stop.result c.loop-done.done c.min-count.result c.args.rights c.requires.mappable.range c.requires.standing.known
          c.requires.mappable.unmapped c.requires.mappable.room c.map_slots-stop.ensures.added c.loop-done.invariant
          some inside one_slot small);
      room = rw p
          (gap_room c.args.frames.now c.map_slots-stop.new.frames c.loop-done.frames c.args.pool.now c.map_slots-stop.new.pool
          c.loop-done.pool c.args.root c.args.first c.args.pages
          c.map_slots-stop.result c.loop-done.done c.min-count.result c.args.rights c.requires.mappable.range c.requires.standing.known
          c.requires.mappable.unmapped c.requires.mappable.room c.map_slots-stop.ensures.added c.loop-done.invariant
          some inside one_slot small);
    }

pub loop-done-preserved : goal.loop-done-preserved
loop-done-preserved c =
    let p = c.after-page.ensures in
    let n = c.number.ensures.value in
    let m = c.min-count.ensures in
    let t = c.loop-done-test.true in
    let some : 0 < c.min-count.result = omega arith in
    let inside : c.loop-done.done + c.min-count.result ≤ c.args.pages = omega arith in
    let one_slot : (c.args.first + c.loop-done.done) % 512 + c.min-count.result ≤ 512 = omega arith in
    let here : large_of c.loop-done.frames c.args.root (slot_of c.slot_at.result) ≡ large_of c.loop-done.frames c.args.root
    (slot_of ((c.args.first + c.loop-done.done) / 512)) =
    ap (λ s. large_of c.loop-done.frames c.args.root (slot_of s)) (c.slot_at.ensures ∙ ap (λ q. q / 512) p) in
    elim c.if-is_none.branch [
      | then-is_none w ↦
          let small = sym here ∙ none_of c.large_page.result (large_of c.loop-done.frames c.args.root
          (slot_of c.slot_at.result)) c.large_page.ensures (c.is_none.ensures ∙ ap not w.if-is_none.true) in
          rw (w.frames-is, w.pool-is)
          (gap_next c.args.frames.now c.map_slots-stop.new.frames c.loop-done.frames c.args.pool.now
          c.map_slots-stop.new.pool c.loop-done.pool c.args.root c.args.first c.args.pages
          c.map_slots-stop.result c.loop-done.done c.min-count.result c.args.rights c.requires.mappable.range c.requires.standing.known
          c.requires.mappable.unmapped c.requires.mappable.room c.map_slots-stop.ensures.added c.loop-done.invariant
          some inside one_slot small
          w.map_range.new.frames w.map_range.new.pool (rw p at w.map_range.ensures.added))
      | else-is_none w ↦
          let large = rw here at (some_of c.large_page.result (large_of c.loop-done.frames c.args.root
          (slot_of c.slot_at.result)) c.large_page.ensures (c.is_none.ensures ∙ ap not w.if-is_none.false)) in
          rw (w.frames-is, w.pool-is)
          (gap_skip c.args.frames.now c.map_slots-stop.new.frames c.loop-done.frames c.args.pool.now
          c.map_slots-stop.new.pool c.loop-done.pool c.args.root c.args.first c.args.pages
          c.map_slots-stop.result c.loop-done.done c.min-count.result c.args.rights c.requires.mappable.range c.requires.standing.known
          c.requires.mappable.unmapped c.requires.mappable.room c.map_slots-stop.ensures.added c.loop-done.invariant
          some inside one_slot large)
    ]

pub returns-clause-mapped : goal.returns-clause-mapped
returns-clause-mapped c =
    range_mapped c.args.frames.now c.map_slots-stop.new.frames c.loop-done.frames c.args.pool.now c.map_slots-stop.new.pool
    c.loop-done.pool c.args.root c.args.first c.args.pages
    c.map_slots-stop.result c.loop-done.done c.args.rights c.requires.mappable.range c.requires.mappable.unmapped
    c.map_slots-stop.ensures.added c.map_slots-stop.ensures.full c.loop-done.invariant (omega arith)

pub returns-clause-clear : goal.returns-clause-clear
returns-clause-clear c = record {
  elsewhere = mapped_elsewhere c.args.frames.now c.map_slots-stop.new.frames c.loop-done.frames c.args.pool.now
      c.map_slots-stop.new.pool c.loop-done.pool c.args.root c.args.first c.args.pages
      c.map_slots-stop.result c.loop-done.done c.args.rights c.requires.mappable.range c.requires.mappable.unmapped
      c.map_slots-stop.ensures.added c.map_slots-stop.ensures.full c.loop-done.invariant (omega arith);
  zeros = mapped_zeros c.args.frames.now c.map_slots-stop.new.frames c.loop-done.frames c.args.pool.now c.map_slots-stop.new.pool
      c.loop-done.pool c.args.root c.args.first c.args.pages
      c.map_slots-stop.result c.loop-done.done c.args.rights c.requires.mappable.range c.requires.mappable.unmapped
      c.map_slots-stop.ensures.added c.map_slots-stop.ensures.full c.loop-done.invariant (omega arith);
  bytes = mapped_bytes c.args.frames.now c.map_slots-stop.new.frames c.loop-done.frames c.args.pool.now c.map_slots-stop.new.pool
      c.loop-done.pool c.args.root c.args.first c.args.pages
      c.map_slots-stop.result c.loop-done.done c.args.rights c.requires.mappable.range c.requires.mappable.unmapped
      c.map_slots-stop.ensures.added c.map_slots-stop.ensures.full c.loop-done.invariant (omega arith);
}
