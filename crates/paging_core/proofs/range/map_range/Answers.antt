use Rattle.std.proofs.Common.{◌∙◌, ◌/◌, ◌%◌, refl, ap, arith}
use Rattle.paging_core.specs.Area.{Whole}
use Rattle.paging_core.specs.Memory.{frame_count}
use Rattle.paging_core.specs.Walk.{walk_of}
use Rattle.paging_core.proofs.Areas.{free_stays}
use Rattle.paging_core.proofs.Ranges.{page_canonical}
use Rattle.paging_core.proofs.PageChanged.{some_place}
use Rattle.paging_core.proofs.PageWritten.{same_byte}
use Rattle.paging_core.proofs.RangeAdded.{range_start, next_room, next_unmapped, range_more, range_elsewhere, range_zeros}
use Rattle.paging_core.proofs.range.map_range.Goals as goal

pub loop-step-init : goal.loop-step-init
loop-step-init c = range_start c.args.frames.now c.args.pool.now c.args.root c.args.first c.args.rights c.requires.standing.tree

pub after-requires : goal.after-requires
after-requires c = page_canonical c.args.first c.args.pages c.loop-step.step c.requires.mappable.range (omega arith)

pub map_new_page-requires-clause-standing : goal.map_new_page-requires-clause-standing
map_new_page-requires-clause-standing c =
    let s = c.loop-step.invariant.size in
    record {
      rooted = omega (arith, c.requires.standing.rooted);
      tree = c.loop-step.invariant.tree;
      known = free_stays Whole c.args.pool.now c.loop-step.pool (frame_count c.args.frames.now) (frame_count c.loop-step.frames)
          c.requires.standing.known (omega arith) c.loop-step.invariant.fewer;
    }

pub map_new_page-requires-clause-unmapped : goal.map_new_page-requires-clause-unmapped
map_new_page-requires-clause-unmapped c =
    ap (walk_of c.loop-step.frames c.args.root) c.after.ensures
    ∙ next_unmapped c.args.frames.now c.loop-step.frames c.args.pool.now c.loop-step.pool c.args.root c.args.first c.args.pages c.loop-step.step c.args.rights
    c.requires.mappable.range c.loop-step-test.true c.loop-step.invariant (c.requires.mappable.unmapped c.loop-step.step c.loop-step-test.true)

pub map_new_page-requires-clause-room : goal.map_new_page-requires-clause-room
map_new_page-requires-clause-room c =
    rw c.after.ensures
    (next_room c.args.frames.now c.loop-step.frames c.args.pool.now c.loop-step.pool c.args.root c.args.first c.args.pages c.loop-step.step c.args.rights
    c.requires.mappable.range c.loop-step-test.true c.loop-step.invariant c.requires.mappable.room)

pub loop-step-preserved : goal.loop-step-preserved
loop-step-preserved c =
    range_more c.args.frames.now c.loop-step.frames c.args.pool.now c.loop-step.pool c.args.root c.args.first c.args.pages c.loop-step.step c.args.rights
    c.requires.mappable.range c.loop-step-test.true c.loop-step.invariant
    c.map_new_page.new.frames c.map_new_page.new.pool (rw c.after.ensures at c.map_new_page.ensures)

pub returns-clause-clear : goal.returns-clause-clear
returns-clause-clear c = record {
  elsewhere =
      range_elsewhere c.args.frames.now c.loop-step.frames c.args.pool.now c.loop-step.pool c.args.root c.args.first c.args.pages
      c.loop-step.step c.args.rights c.requires.mappable.range (omega arith) c.loop-step.invariant;
  zeros =
      range_zeros c.args.frames.now c.loop-step.frames c.args.pool.now c.loop-step.pool c.args.root c.args.first c.args.pages
      c.loop-step.step c.args.rights c.requires.mappable.range (omega arith) c.loop-step.invariant;
  bytes = λ address some.
      let p = some_place (walk_of c.args.frames.now c.args.root (address / 4096)) some in
      same_byte c.args.frames.now c.loop-step.frames c.args.root address p.0 p.0 p.1
      (c.loop-step.invariant.pages_stay (address / 4096) p.0 p.1) refl
      (c.loop-step.invariant.bytes_stay (address / 4096) p.0 (address % 4096 / 8) p.1 (omega arith));
}
