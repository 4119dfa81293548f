use Rattle.std.proofs.Common.{rules, ◌≡◌, ◌≤◌, arith}
use Rattle.page_ranges.specs.RangeUnmapping.{AreUnmapped}
use Rattle.page_ranges.proofs.Unmapped.{unmapped_tree, unmapped_known, unmapped_gone, unmapped_elsewhere, unmapped_bytes}
use Rattle.page_ranges.proofs.UnmapSteps.{so_far_none, step_tree, step_mapped, step_ends, step_next}
use Rattle.page_ranges.proofs.unmapping.unmap_pages.Goals as goal

pub loop-done-init : goal.loop-done-init
loop-done-init c = so_far_none c.args.frames.now c.args.pool.now c.args.root c.args.first c.args.pages

pub unmap_piece-requires-clause-standing : goal.unmap_piece-requires-clause-standing
unmap_piece-requires-clause-standing c =
    let p = c.after-page.ensures in
    let n = c.number.ensures.value in
    let m = c.min-count.ensures in
    let t = c.loop-done-test.true in
    record {
      tree = step_tree c.args.frames.now c.loop-done.frames c.args.pool.now c.loop-done.pool c.args.root c.args.first c.args.pages c.loop-done.done c.min-count.result
          c.requires.unmappable.rooted c.requires.standing.flags c.requires.unmappable.range c.requires.standing.tree c.requires.unmappable.mapped c.requires.unmappable.ends
          c.loop-done.invariant (omega arith) (omega arith) (λ lt. omega arith);
      flags = search rules;
    }

pub unmap_piece-requires-clause-unmappable : goal.unmap_piece-requires-clause-unmappable
unmap_piece-requires-clause-unmappable c =
    let p = c.after-page.ensures in
    let n = c.number.ensures.value in
    let m = c.min-count.ensures in
    let t = c.loop-done-test.true in
    record {
      rooted = search rules;
      range = search rules;
      mapped = rw p
          (step_mapped c.args.frames.now c.loop-done.frames c.args.pool.now c.loop-done.pool c.args.root c.args.first c.args.pages c.loop-done.done c.min-count.result
          c.requires.unmappable.rooted c.requires.standing.flags c.requires.unmappable.range c.requires.standing.tree c.requires.unmappable.mapped c.requires.unmappable.ends
          c.loop-done.invariant (omega arith) (omega arith) (λ lt. omega arith));
      ends = rw p
          (step_ends c.args.frames.now c.loop-done.frames c.args.pool.now c.loop-done.pool c.args.root c.args.first c.args.pages c.loop-done.done c.min-count.result
          c.requires.unmappable.rooted c.requires.standing.flags c.requires.unmappable.range c.requires.standing.tree c.requires.unmappable.mapped c.requires.unmappable.ends
          c.loop-done.invariant (omega arith) (omega arith) (λ lt. omega arith));
    }

pub loop-done-preserved : goal.loop-done-preserved
loop-done-preserved c =
    let p = c.after-page.ensures in
    let n = c.number.ensures.value in
    let m = c.min-count.ensures in
    let t = c.loop-done-test.true in
    step_next c.args.frames.now c.loop-done.frames c.args.pool.now c.loop-done.pool c.args.root c.args.first c.args.pages c.loop-done.done c.min-count.result
    c.requires.unmappable.rooted c.requires.standing.flags c.requires.unmappable.range c.requires.standing.tree c.requires.unmappable.mapped c.requires.unmappable.ends
    c.loop-done.invariant (omega arith) (omega arith) (λ lt. omega arith)
    c.unmap_piece.new.frames c.unmap_piece.new.pool (rw p at c.unmap_piece.ensures)

-- all of the range is unmapped
all : (c : goal.After-loop-done) → c.args.pages ≤ c.loop-done.done →
    AreUnmapped c.args.frames.now c.loop-done.frames c.args.pool.now c.loop-done.pool c.args.root c.args.first c.args.pages
all c le =
    let i = c.loop-done.invariant.inside in
    let s = c.requires.unmappable.range.some in
    let e : c.loop-done.done ≡ c.args.pages = omega arith in
    rw e at (c.loop-done.invariant.unmapped (omega arith))

pub returns-clause-unmapped : goal.returns-clause-unmapped
returns-clause-unmapped c = all c (omega arith)

pub returns-clause-tree : goal.returns-clause-tree
returns-clause-tree c =
    unmapped_tree c.args.frames.now c.loop-done.frames c.args.pool.now c.loop-done.pool c.args.root c.args.first c.args.pages
    c.requires.unmappable.range.some c.requires.standing.tree (all c (omega arith)) c.requires.unmappable.range

pub returns-clause-known : goal.returns-clause-known
returns-clause-known c =
    unmapped_known c.args.frames.now c.loop-done.frames c.args.pool.now c.loop-done.pool c.args.root c.args.first c.args.pages
    c.requires.unmappable.range.some c.requires.standing.tree (all c (omega arith)) c.requires.unmappable.rooted

pub returns-clause-gone : goal.returns-clause-gone
returns-clause-gone c = record {
  unmapped = unmapped_gone c.args.frames.now c.loop-done.frames c.args.pool.now c.loop-done.pool c.args.root c.args.first c.args.pages
      c.requires.unmappable.range.some c.requires.standing.tree (all c (omega arith)) c.requires.unmappable.range;
  elsewhere = unmapped_elsewhere c.args.frames.now c.loop-done.frames c.args.pool.now c.loop-done.pool c.args.root c.args.first c.args.pages
      c.requires.unmappable.range.some c.requires.standing.tree (all c (omega arith)) c.requires.unmappable.range;
  bytes = unmapped_bytes c.args.frames.now c.loop-done.frames c.args.pool.now c.loop-done.pool c.args.root c.args.first c.args.pages
      c.requires.unmappable.range.some c.requires.standing.tree (all c (omega arith));
}
