use Rattle.std.proofs.Common.{◌≡◌, ◌+◌, ◌∙◌, refl, arith}
use Rattle.paging_core.specs.Prefix.{prefix_of}
use Rattle.paging_core.specs.Walk.{walk_of}
use Rattle.paging_core.specs.PageChanges.{regrant, among}
use Rattle.paging_core.proofs.Areas.{tree_moved}
use Rattle.paging_core.proofs.Ranges.{page_canonical}
use Rattle.paging_core.proofs.PageChanged.{regrant_keeps, some_place, changed_tree, regranted_bytes}
use Rattle.paging_core.proofs.RangeChanged.{range_begun, next_mapped, next_changed, range_leads, range_rest}
use Rattle.paging_core.proofs.protecting.protect_range.Goals as goal

pub loop-step-init : goal.loop-step-init
loop-step-init g c = record { area = refl; changed = range_begun (g.M.PhysicalMemory.words c.args.frames.now) c.args.root c.args.first (regrant c.args.rights) }

pub after-requires : goal.after-requires
after-requires g c = page_canonical c.args.first c.args.pages c.loop-step.step c.requires.pages.range (omega arith)

pub protect_page-requires-clause-page : goal.protect_page-requires-clause-page
protect_page-requires-clause-page g c = record {
  rooted = let s = c.loop-step.invariant.changed.size in omega (arith, c.requires.pages.rooted);
  mapped = rw (
    c.after.ensures,
    next_mapped (g.M.PhysicalMemory.words c.args.frames.now) (g.M.PhysicalMemory.words c.loop-step.frames) c.args.root
        c.args.first c.args.pages c.loop-step.step (regrant c.args.rights)
        c.requires.pages.range c.loop-step.invariant.changed c.loop-step-test.true,
  )
      (c.requires.pages.mapped c.loop-step.step c.loop-step-test.true);
  small = rw (
    c.after.ensures,
    c.loop-step.invariant.changed.stayed 3 (prefix_of (c.args.first + c.loop-step.step) 3) (omega arith) (λ e. absurd (omega arith)),
  )
      (c.requires.pages.small c.loop-step.step c.loop-step-test.true);
}

pub loop-step-preserved : goal.loop-step-preserved
loop-step-preserved g c =
    let t = changed_tree (g.M.PhysicalMemory.words c.args.frames.now) (g.M.PhysicalMemory.words c.loop-step.frames)
    c.args.root (regrant c.args.rights) (among c.args.first c.loop-step.step) c.loop-step.invariant.changed
    (regrant_keeps c.args.rights) c.requires.tree.0 c.requires.tree.1 in
    let still = tree_moved (g.M.PhysicalMemory.area c.args.frames.now) (g.M.PhysicalMemory.area c.loop-step.frames)
    (g.M.PhysicalMemory.words c.loop-step.frames) c.args.root c.requires.tree.0 c.loop-step.invariant.area t in
    record {
      area = c.protect_page.ensures.granted.same_area ∙ c.loop-step.invariant.area;
      changed = next_changed (g.M.PhysicalMemory.words c.args.frames.now) (g.M.PhysicalMemory.words c.loop-step.frames)
          c.args.root c.args.first c.args.pages c.loop-step.step (regrant c.args.rights)
          c.requires.pages.range c.loop-step.invariant.changed c.loop-step-test.true
          (g.M.PhysicalMemory.words c.protect_page.new.frames) c.requires.tree.0 c.requires.tree.1
          (rw c.after.ensures at (c.protect_page.ensures.granted.granted c.requires.tree.0 still).pages);
    }

pub returns-clause-tree : goal.returns-clause-tree
returns-clause-tree g c = λ free tree.
    tree_moved (g.M.PhysicalMemory.area c.args.frames.now) (g.M.PhysicalMemory.area c.loop-step.frames)
    (g.M.PhysicalMemory.words c.loop-step.frames) c.args.root free c.loop-step.invariant.area
    (changed_tree (g.M.PhysicalMemory.words c.args.frames.now) (g.M.PhysicalMemory.words c.loop-step.frames) c.args.root
    (regrant c.args.rights) (among c.args.first c.loop-step.step) c.loop-step.invariant.changed
    (regrant_keeps c.args.rights) free tree)

pub protect_page-requires-clause-seen : goal.protect_page-requires-clause-seen
protect_page-requires-clause-seen g c = λ now changed.
    c.requires.seen (g.M.PhysicalMemory.words c.loop-step.frames) now c.loop-step.step c.loop-step-test.true
    c.loop-step.invariant.changed (rw c.after.ensures at changed)

pub returns-clause-granted : goal.returns-clause-granted
returns-clause-granted g c =
    let old = g.M.PhysicalMemory.words c.args.frames.now in
    let new = g.M.PhysicalMemory.words c.loop-step.frames in
    let changed = c.loop-step.invariant.changed in
    record {
      granted = λ k lt.
          let p = some_place (walk_of old c.args.root (c.args.first + k)) (c.requires.pages.mapped k lt) in
          rw p.1
          (range_leads old new c.args.root c.args.first c.args.pages c.loop-step.step (regrant c.args.rights) c.requires.pages.range
          changed (omega arith) k (omega arith) p.0 p.1);
      elsewhere = range_rest old new c.args.root c.args.first c.args.pages c.loop-step.step (regrant c.args.rights) c.requires.pages.range
          changed (omega arith);
      bytes = regranted_bytes old new c.args.root c.args.rights (among c.args.first c.loop-step.step) c.requires.tree.0 changed c.requires.tree.1;
    }

pub returns-clause-changed : goal.returns-clause-changed
returns-clause-changed g c =
    let d : c.loop-step.step ≡ c.args.pages = omega (arith, c.loop-step-test.false, c.loop-step.auto.step-end) in rw d at c.loop-step.invariant.changed
