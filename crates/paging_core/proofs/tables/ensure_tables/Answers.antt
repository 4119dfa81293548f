use Rattle.std.proofs.Common.{◌≡◌, ◌∙◌, ◌+◌, arith, refl, ap, None}
use Rattle.paging_core.specs.Area.{in_area}
use Rattle.paging_core.specs.Memory.{frame_count}
use Rattle.paging_core.specs.Walk.{step, top}
use Rattle.paging_core.proofs.Areas.{tree_moved, known_moved}
use Rattle.paging_core.proofs.Prefixes.{reach_root}
use Rattle.paging_core.proofs.Prepare.{prepared_start, table_below, table_inside, known_mid, room_for, ensured_more}
use Rattle.paging_core.proofs.Moments.{still_then, still_prepared, still_free}
use Rattle.paging_core.proofs.tables.ensure_tables.Goals as goal

pub loop-level-init : goal.loop-level-init
loop-level-init g c = record {
  area = refl;
  tree = c.requires.standing.tree;
  met = reach_root (g.M.PhysicalMemory.words c.args.frames.now) c.args.root c.args.page;
  prepared = prepared_start (g.M.PhysicalMemory.words c.args.frames.now) (g.P.TableFrames.free c.args.pool.now) c.args.root c.args.page;
}

pub ensure_table-table-requires-clause-ready : goal.ensure_table-table-requires-clause-ready
ensure_table-table-requires-clause-ready g c = record {
  entry = record {
    inside = ap (λ a. in_area a c.loop-level.table) c.loop-level.invariant.area
        ∙ table_inside (g.M.PhysicalMemory.words c.args.frames.now) (g.M.PhysicalMemory.words c.loop-level.frames)
        (g.P.TableFrames.free c.args.pool.now) (g.P.TableFrames.free c.loop-level.pool) c.args.root c.args.page
        c.loop-level.level c.loop-level.table c.index_after.result
        c.requires.standing.rooted c.requires.standing.known (omega arith) c.index_after.ensures.value c.loop-level.invariant.tree
        c.loop-level.invariant.met c.loop-level.invariant.prepared (λ e. c.requires.small (omega arith));
    below = table_below (g.M.PhysicalMemory.words c.args.frames.now) (g.M.PhysicalMemory.words c.loop-level.frames)
        (g.P.TableFrames.free c.args.pool.now) (g.P.TableFrames.free c.loop-level.pool) c.args.root c.args.page
        c.loop-level.level c.loop-level.table c.index_after.result
        c.requires.standing.rooted c.requires.standing.known (omega arith) c.index_after.ensures.value c.loop-level.invariant.tree
        c.loop-level.invariant.met c.loop-level.invariant.prepared (λ e. c.requires.small (omega arith));
    bounded = c.index_after.ensures.bounded;
  };
  known = known_moved (g.M.PhysicalMemory.area c.args.frames.now) (g.M.PhysicalMemory.area c.loop-level.frames)
      (g.P.TableFrames.free c.loop-level.pool) (frame_count (g.M.PhysicalMemory.words c.loop-level.frames))
      c.loop-level.invariant.area
      (known_mid (g.M.PhysicalMemory.words c.args.frames.now) (g.M.PhysicalMemory.words c.loop-level.frames)
      (g.P.TableFrames.free c.args.pool.now) (g.P.TableFrames.free c.loop-level.pool) c.args.root c.args.page
      c.loop-level.level c.loop-level.table c.index_after.result
      c.requires.standing.rooted c.requires.standing.known (omega arith) c.index_after.ensures.value c.loop-level.invariant.tree
      c.loop-level.invariant.met c.loop-level.invariant.prepared (λ e. c.requires.small (omega arith)));
  before = λ now frame was_free only.
      c.requires.seen now
      (still_then (g.M.PhysicalMemory.words c.args.frames.now) (g.M.PhysicalMemory.words c.loop-level.frames) now c.args.root
      (still_prepared (g.M.PhysicalMemory.words c.args.frames.now) (g.M.PhysicalMemory.words c.loop-level.frames) c.args.root
      c.args.page c.loop-level.level (g.P.TableFrames.free c.args.pool.now) (g.P.TableFrames.free c.loop-level.pool)
      (omega (arith, c.requires.levels)) c.loop-level.invariant.tree c.loop-level.invariant.prepared)
      (still_free (g.M.PhysicalMemory.words c.loop-level.frames) now c.args.root (g.P.TableFrames.free c.loop-level.pool)
      frame c.loop-level.invariant.tree was_free only));
}

pub ensure_table-table-requires-clause-room : goal.ensure_table-table-requires-clause-room
ensure_table-table-requires-clause-room g c =
    room_for (g.M.PhysicalMemory.words c.args.frames.now) (g.M.PhysicalMemory.words c.loop-level.frames)
    (g.P.TableFrames.free c.args.pool.now) (g.P.TableFrames.free c.loop-level.pool) c.args.root c.args.page
    c.loop-level.level c.loop-level.table c.index_after.result
    c.requires.standing.rooted c.requires.standing.known (omega arith) c.index_after.ensures.value c.loop-level.invariant.tree
    c.loop-level.invariant.met c.loop-level.invariant.prepared (λ e. c.requires.small (omega arith))
    c.args.levels (omega arith) c.requires.levels c.requires.room

pub loop-level-preserved : goal.loop-level-preserved
loop-level-preserved g c =
    let s = ensured_more (g.M.PhysicalMemory.words c.args.frames.now) (g.M.PhysicalMemory.words c.loop-level.frames)
    (g.P.TableFrames.free c.args.pool.now) (g.P.TableFrames.free c.loop-level.pool) c.args.root c.args.page
    c.loop-level.level c.loop-level.table c.index_after.result
    c.requires.standing.rooted c.requires.standing.known (omega arith) c.index_after.ensures.value c.loop-level.invariant.tree
    c.loop-level.invariant.met c.loop-level.invariant.prepared (λ e. c.requires.small (omega arith))
    (g.M.PhysicalMemory.words c.ensure_table-table.new.frames) (g.P.TableFrames.free c.ensure_table-table.new.pool) c.ensure_table-table.result
    (step (g.M.PhysicalMemory.words c.loop-level.frames) c.loop-level.level (top c.loop-level.table) c.index_after.result)
    refl c.ensure_table-table.ensures.ensured in
    record { area = c.ensure_table-table.ensures.area ∙ c.loop-level.invariant.area; tree = s.tree_on; met = s.met_on; prepared = s.prepared_on }

pub returns-clause-prepared : goal.returns-clause-prepared
returns-clause-prepared g c =
    let e : c.loop-level.level ≡ c.args.levels = omega (arith, c.loop-level-test.false, c.loop-level.auto.level-end) in
    rw (← e) c.loop-level.invariant.prepared

pub returns-clause-tree : goal.returns-clause-tree
returns-clause-tree g c =
    tree_moved (g.M.PhysicalMemory.area c.args.frames.now) (g.M.PhysicalMemory.area c.loop-level.frames)
    (g.M.PhysicalMemory.words c.loop-level.frames) c.args.root (g.P.TableFrames.free c.loop-level.pool)
    c.loop-level.invariant.area c.loop-level.invariant.tree

pub ensure_table-table-requires-clause-seen : goal.ensure_table-table-requires-clause-seen
ensure_table-table-requires-clause-seen g c = λ absent now free made is.
    let s = ensured_more (g.M.PhysicalMemory.words c.args.frames.now) (g.M.PhysicalMemory.words c.loop-level.frames)
    (g.P.TableFrames.free c.args.pool.now) (g.P.TableFrames.free c.loop-level.pool) c.args.root c.args.page
    c.loop-level.level c.loop-level.table c.index_after.result
    c.requires.standing.rooted c.requires.standing.known (omega arith) c.index_after.ensures.value c.loop-level.invariant.tree
    c.loop-level.invariant.met c.loop-level.invariant.prepared (λ e. c.requires.small (omega arith))
    now free made None absent is in
    c.requires.seen now
    (still_prepared (g.M.PhysicalMemory.words c.args.frames.now) now c.args.root c.args.page (c.loop-level.level + 1)
    (g.P.TableFrames.free c.args.pool.now) free (omega (arith, c.requires.levels)) s.tree_on s.prepared_on)
