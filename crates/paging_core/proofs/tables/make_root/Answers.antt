use Rattle.std.proofs.Common.{arith, ap, ◌∙◌, length, length-set, false}
use Rattle.paging_core.specs.Memory.{frame_count}
use Rattle.paging_core.proofs.Areas.{free_below, free_inside, free_stays, tree_moved, known_moved}
use Rattle.paging_core.proofs.FreshFrame.{fresh_in, fresh_size, fresh_fewer, fresh_zero, fresh_used}
use Rattle.paging_core.proofs.Roots.{tree_start, none_past, no_large, nothing_mapped}
use Rattle.paging_core.proofs.tables.make_root.Goals as goal

pub returns-clause-known : goal.returns-clause-known
returns-clause-known g c =
    let old = g.M.PhysicalMemory.words c.args.frames.now in
    let new = g.M.PhysicalMemory.words c.clear_frame.new.self in
    let area = g.M.PhysicalMemory.area c.args.frames.now in
    let free = g.P.TableFrames.free c.args.pool.now in
    let left = g.P.TableFrames.free c.take_frame.new.self in
    let root = c.in_ok-root.root in
    let below = free_below area free (frame_count old) c.requires.known in
    let taken = c.in_ok-root.ensures.taken in
    let size = fresh_size old new free left root below taken.0 taken.1 c.clear_frame.ensures.words in
    known_moved area (g.M.PhysicalMemory.area c.clear_frame.new.self) left (frame_count new) c.clear_frame.ensures.area
    (free_stays area free left (frame_count old) (frame_count new) c.requires.known (omega arith)
    (fresh_fewer old new free left root below taken.0 taken.1 c.clear_frame.ensures.words))

pub returns-clause-made : goal.returns-clause-made
returns-clause-made g c =
    let old = g.M.PhysicalMemory.words c.args.frames.now in
    let new = g.M.PhysicalMemory.words c.clear_frame.new.self in
    let area = g.M.PhysicalMemory.area c.args.frames.now in
    let free = g.P.TableFrames.free c.args.pool.now in
    let left = g.P.TableFrames.free c.take_frame.new.self in
    let root = c.in_ok-root.root in
    let below = free_below area free (frame_count old) c.requires.known in
    let taken = c.in_ok-root.ensures.taken in
    let size = fresh_size old new free left root below taken.0 taken.1 c.clear_frame.ensures.words in
    let inside = fresh_in old new free left root below taken.0 taken.1 c.clear_frame.ensures.words in
    let zero = fresh_zero old new free left root below taken.0 taken.1 c.clear_frame.ensures.words in
    let used = fresh_used old new free left root below taken.0 taken.1 c.clear_frame.ensures.words in
    record {
      size = size;
      below = omega arith;
      tree = tree_moved area (g.M.PhysicalMemory.area c.clear_frame.new.self) new root left c.clear_frame.ensures.area
          (tree_start area new root left zero used (free_inside area free (frame_count old) c.requires.known root taken.0));
      empty = none_past new root zero;
      no_large = no_large new root zero;
      unmapped = nothing_mapped new root zero;
    }

pub returns-clause-frame : goal.returns-clause-frame
returns-clause-frame g c = record {
  taken = c.in_ok-root.ensures.taken;
  flags = ap length c.in_ok-root.ensures.taken.1 ∙ length-set (g.P.TableFrames.free c.args.pool.now) c.in_ok-root.root false;
  lowest = c.in_ok-root.ensures.lowest;
  count = c.in_ok-root.ensures.count;
}

pub clear_frame-requires-clause-inside : goal.clear_frame-requires-clause-inside
clear_frame-requires-clause-inside g c = free_inside (g.M.PhysicalMemory.area c.args.frames.now)
    (g.P.TableFrames.free c.args.pool.now) (frame_count (g.M.PhysicalMemory.words c.args.frames.now)) c.requires.known
    c.in_ok-root.root c.in_ok-root.ensures.taken.0

pub clear_frame-requires-clause-frame : goal.clear_frame-requires-clause-frame
clear_frame-requires-clause-frame g c = free_below (g.M.PhysicalMemory.area c.args.frames.now)
    (g.P.TableFrames.free c.args.pool.now) (frame_count (g.M.PhysicalMemory.words c.args.frames.now)) c.requires.known
    c.in_ok-root.root c.in_ok-root.ensures.taken.0
