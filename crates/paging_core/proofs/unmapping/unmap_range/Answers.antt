use Rattle.std.proofs.Common.{◌≡◌, ◌∙◌, ◌+◌, ◌/◌, sym, ap, arith}
use Rattle.paging_core.specs.Pool.{free_count}
use Rattle.paging_core.specs.Prefix.{prefix_of}
use Rattle.paging_core.specs.Walk.{walk_of}
use Rattle.paging_core.specs.PageChanges.{removal, among, only}
use Rattle.paging_core.proofs.Given.{given_count}
use Rattle.paging_core.proofs.PageChanged.{removal_keeps, some_place, bytes_stay}
use Rattle.paging_core.proofs.RangeChanged.{next_mapped, next_both, next_apart, range_leads, range_rest, among_none}
use Rattle.paging_core.proofs.Freed.{freed_tree, freed_one, freed_more, none_freed, freed_known, next_root, next_out}
use Rattle.paging_core.proofs.unmapping.unmap_range.Goals as goal

pub loop-step-init : goal.loop-step-init
loop-step-init c = record {
  freed = none_freed c.args.frames.now c.args.pool.now c.args.root (among c.args.first 0)
      (among_none c.args.first);
  count = omega arith;
}

pub unmap_page-frame-requires-clause-page : goal.unmap_page-frame-requires-clause-page
unmap_page-frame-requires-clause-page c = record {
  rooted = let s = c.loop-step.invariant.freed.removed.size in omega (arith, c.requires.pages.rooted);
  mapped = rw (
    c.after.ensures,
    next_mapped c.args.frames.now c.loop-step.frames c.args.root c.args.first c.args.pages c.loop-step.step removal
        c.requires.pages.range c.loop-step.invariant.freed.removed c.loop-step-test.true,
  )
      (c.requires.pages.mapped c.loop-step.step c.loop-step-test.true);
  small = rw (
    c.after.ensures,
    c.loop-step.invariant.freed.removed.stayed 3 (prefix_of (c.args.first + c.loop-step.step) 3) (omega arith) (λ e. absurd (omega arith)),
  )
      (c.requires.pages.small c.loop-step.step c.loop-step-test.true);
}

pub deallocate_frame-requires : goal.deallocate_frame-requires
deallocate_frame-requires c =
    let r = c.unmap_page-frame.ensures.cleared.removed in
    next_out c.args.frames.now c.loop-step.frames c.args.pool.now c.loop-step.pool c.args.root c.after.result
    c.unmap_page-frame.result (among c.args.first c.loop-step.step) r.place
    c.requires.pages.rooted c.requires.standing.flags c.requires.standing.tree c.loop-step.invariant.freed r.was (rw r.was at c.unmap_page-frame.ensures.frame)

pub loop-step-preserved : goal.loop-step-preserved
loop-step-preserved c =
    let r = c.unmap_page-frame.ensures.cleared.removed in
    let is : c.unmap_page-frame.result ≡ r.place.frame = rw r.was at c.unmap_page-frame.ensures.frame in
    let out =
    next_out c.args.frames.now c.loop-step.frames c.args.pool.now c.loop-step.pool c.args.root c.after.result
    c.unmap_page-frame.result (among c.args.first c.loop-step.step) r.place
    c.requires.pages.rooted c.requires.standing.flags c.requires.standing.tree c.loop-step.invariant.freed r.was is in
    let one = freed_one c.loop-step.frames c.unmap_page-frame.new.frames c.loop-step.pool c.deallocate_frame.new.self
    c.args.root c.after.result c.unmap_page-frame.result
    (next_root c.args.frames.now c.loop-step.frames c.args.pool.now c.loop-step.pool c.args.root c.after.result
    c.unmap_page-frame.result (among c.args.first c.loop-step.step) r.place
    c.requires.pages.rooted c.requires.standing.flags c.requires.standing.tree c.loop-step.invariant.freed r.was is)
    (freed_tree c.args.frames.now c.loop-step.frames c.args.pool.now c.loop-step.pool c.args.root
    (among c.args.first c.loop-step.step) c.loop-step.invariant.freed c.requires.standing.tree)
    r (sym is) out c.deallocate_frame.ensures in
    record {
      freed =
          freed_more c.args.frames.now c.loop-step.frames c.unmap_page-frame.new.frames c.args.pool.now c.loop-step.pool c.deallocate_frame.new.self c.args.root
          (among c.args.first c.loop-step.step) (only (c.args.first + c.loop-step.step)) (among c.args.first (c.loop-step.step + 1))
          c.requires.standing.tree c.loop-step.invariant.freed (rw c.after.ensures at one)
          (next_both c.args.frames.now c.loop-step.frames c.args.root c.args.first c.args.pages c.loop-step.step removal
          c.requires.pages.range c.loop-step.invariant.freed.removed c.loop-step-test.true)
          (next_apart c.args.frames.now c.loop-step.frames c.args.root c.args.first c.args.pages c.loop-step.step removal
          c.requires.pages.range c.loop-step.invariant.freed.removed c.loop-step-test.true);
      count =
          let a = c.loop-step.invariant.count in
          let b = ap free_count c.deallocate_frame.ensures ∙ given_count c.loop-step.pool c.unmap_page-frame.result out in
          omega arith;
    }

pub returns-clause-tree : goal.returns-clause-tree
returns-clause-tree c =
    freed_tree c.args.frames.now c.loop-step.frames c.args.pool.now c.loop-step.pool c.args.root
    (among c.args.first c.loop-step.step) c.loop-step.invariant.freed c.requires.standing.tree

pub returns-clause-known : goal.returns-clause-known
returns-clause-known c =
    freed_known c.args.frames.now c.loop-step.frames c.args.pool.now c.loop-step.pool c.args.root
    (among c.args.first c.loop-step.step) c.requires.pages.rooted c.loop-step.invariant.freed

pub returns-clause-gone : goal.returns-clause-gone
returns-clause-gone c =
    let old = c.args.frames.now in
    let new = c.loop-step.frames in
    let removed = c.loop-step.invariant.freed.removed in
    record {
      unmapped = λ k lt.
          let p = some_place (walk_of old c.args.root (c.args.first + k)) (c.requires.pages.mapped k lt) in
          range_leads old new c.args.root c.args.first c.args.pages c.loop-step.step removal c.requires.pages.range removed (omega arith) k (omega arith) p.0 p.1;
      elsewhere = range_rest old new c.args.root c.args.first c.args.pages c.loop-step.step removal c.requires.pages.range removed (omega arith);
      bytes = λ address is.
          let p = some_place (walk_of new c.args.root (address / 4096)) is in
          bytes_stay old new c.args.root removal (among c.args.first c.loop-step.step) removed removal_keeps c.args.pool.now c.requires.standing.tree address p.0 p.1 tt;
    }
