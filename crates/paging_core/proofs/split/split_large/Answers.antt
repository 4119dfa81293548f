use Rattle.std.proofs.Common.{◌≡◌, ◌∙◌, ◌+◌, ◌*◌, ap, set, arith}
use Rattle.paging_core.specs.Area.{in_area}
use Rattle.paging_core.specs.Entry.{table_entry}
use Rattle.paging_core.specs.Memory.{frame_count}
use Rattle.paging_core.specs.Walk.{mapped_place}
use Rattle.paging_core.proofs.Areas.{free_below, free_inside, tree_moved, known_moved}
use Rattle.paging_core.proofs.Made.{some_free}
use Rattle.paging_core.proofs.LargeSplit.{split_tree, large_split, split_walk, split_bytes, split_known}
use Rattle.paging_core.proofs.Moments.{still_free}
use Rattle.paging_core.proofs.split.split_large.Goals as goal

pub large_entry-index-requires : goal.large_entry-index-requires
large_entry-index-requires g c = record { page = record { rooted = c.requires.standing.rooted; large = c.requires.large } }

pub unreachable-requires : goal.unreachable-requires
unreachable-requires g c =
    let t = rw c.in_default.is at c.take_frame.ensures.taken in some_free (g.P.TableFrames.free c.args.pool.now) c.requires.room t.1

pub fill_table-requires-clause-inside : goal.fill_table-requires-clause-inside
fill_table-requires-clause-inside g c =
    free_inside (g.M.PhysicalMemory.area c.args.frames.now) (g.P.TableFrames.free c.args.pool.now) (frame_count (g.M.PhysicalMemory.words c.args.frames.now))
    c.requires.standing.known c.in-Some.made c.in-Some.ensures.taken.0

pub fill_table-requires-clause-table : goal.fill_table-requires-clause-table
fill_table-requires-clause-table g c =
    free_below (g.M.PhysicalMemory.area c.args.frames.now) (g.P.TableFrames.free c.args.pool.now) (frame_count (g.M.PhysicalMemory.words c.args.frames.now))
    c.requires.standing.known c.in-Some.made c.in-Some.ensures.taken.0

pub set_word-requires-clause-entry : goal.set_word-requires-clause-entry
set_word-requires-clause-entry g c = record {
  inside = ap (λ a. in_area a c.large_entry-index.result.table) c.fill_table.ensures.area ∙ c.large_entry-index.ensures.place.inside;
  below = let s = c.fill_table.ensures.filled.size in omega (arith, c.large_entry-index.ensures.place.below);
  bounded = c.large_entry-index.ensures.place.bounded;
}

pub returns : goal.returns
returns g c =
    let written : (g.M.PhysicalMemory.words c.set_word.new.self)
    ≡ set (g.M.PhysicalMemory.words c.fill_table.new.frames)
    (512 * c.large_entry-index.result.table + c.large_entry-index.result.index) (table_entry c.in-Some.made) =
    c.set_word.ensures.words
    ∙ ap (set (g.M.PhysicalMemory.words c.fill_table.new.frames)
    (512 * c.large_entry-index.result.table + c.large_entry-index.result.index)) (c.bits-2.ensures ∙ c.to_table.ensures) in
    let split = large_split (g.M.PhysicalMemory.area c.args.frames.now) (g.M.PhysicalMemory.words c.args.frames.now)
    (g.M.PhysicalMemory.words c.fill_table.new.frames) (g.M.PhysicalMemory.words c.set_word.new.self)
    (g.P.TableFrames.free c.args.pool.now) (g.P.TableFrames.free c.take_frame.new.self) c.args.root c.args.page
    c.large_entry-index.result.table c.large_entry-index.result.index c.in-Some.made
    (mapped_place c.large_entry-index.result.large) c.large_entry-index.ensures.bounded (omega arith) c.requires.standing.known
    c.requires.standing.tree c.large_entry-index.ensures.entry c.large_entry-index.ensures.place.below
    c.in-Some.ensures.taken.0 c.in-Some.ensures.taken.1 c.in-Some.ensures.lowest c.fill_table.ensures.filled.size
    (rw c.bits.ensures at c.fill_table.ensures.filled.entries) c.fill_table.ensures.filled.others written in
    record {
      split = record {
        same_area = c.set_word.ensures.area ∙ c.fill_table.ensures.area;
        standing = record {
          rooted = let s = split.size in omega (arith, c.requires.standing.rooted);
          tree = tree_moved (g.M.PhysicalMemory.area c.args.frames.now) (g.M.PhysicalMemory.area c.set_word.new.self)
              (g.M.PhysicalMemory.words c.set_word.new.self) c.args.root (g.P.TableFrames.free c.take_frame.new.self)
              (c.set_word.ensures.area ∙ c.fill_table.ensures.area)
              (split_tree (g.M.PhysicalMemory.area c.args.frames.now) (g.M.PhysicalMemory.words c.args.frames.now)
              (g.M.PhysicalMemory.words c.fill_table.new.frames) (g.M.PhysicalMemory.words c.set_word.new.self)
              (g.P.TableFrames.free c.args.pool.now) (g.P.TableFrames.free c.take_frame.new.self) c.args.root c.args.page
              c.large_entry-index.result.table c.large_entry-index.result.index c.in-Some.made
              (mapped_place c.large_entry-index.result.large) c.large_entry-index.ensures.bounded (omega arith) c.requires.standing.known
              c.requires.standing.tree c.large_entry-index.ensures.entry c.large_entry-index.ensures.place.below
              c.in-Some.ensures.taken.0 c.in-Some.ensures.taken.1 c.in-Some.ensures.lowest c.fill_table.ensures.filled.size
              (rw c.bits.ensures at c.fill_table.ensures.filled.entries) c.fill_table.ensures.filled.others written);
          known = known_moved (g.M.PhysicalMemory.area c.args.frames.now) (g.M.PhysicalMemory.area c.set_word.new.self)
              (g.P.TableFrames.free c.take_frame.new.self) (frame_count (g.M.PhysicalMemory.words c.set_word.new.self))
              (c.set_word.ensures.area ∙ c.fill_table.ensures.area)
              (split_known (g.M.PhysicalMemory.area c.args.frames.now) (g.M.PhysicalMemory.words c.args.frames.now)
              (g.M.PhysicalMemory.words c.fill_table.new.frames) (g.M.PhysicalMemory.words c.set_word.new.self)
              (g.P.TableFrames.free c.args.pool.now) (g.P.TableFrames.free c.take_frame.new.self) c.args.root c.args.page
              c.large_entry-index.result.table c.large_entry-index.result.index c.in-Some.made
              (mapped_place c.large_entry-index.result.large) c.large_entry-index.ensures.bounded (omega arith) c.requires.standing.known
              c.requires.standing.tree c.large_entry-index.ensures.entry c.large_entry-index.ensures.place.below
              c.in-Some.ensures.taken.0 c.in-Some.ensures.taken.1 c.in-Some.ensures.lowest c.fill_table.ensures.filled.size
              (rw c.bits.ensures at c.fill_table.ensures.filled.entries) c.fill_table.ensures.filled.others written);
        };
        split = split;
        walks = split_walk (g.M.PhysicalMemory.area c.args.frames.now) (g.M.PhysicalMemory.words c.args.frames.now)
            (g.M.PhysicalMemory.words c.fill_table.new.frames) (g.M.PhysicalMemory.words c.set_word.new.self)
            (g.P.TableFrames.free c.args.pool.now) (g.P.TableFrames.free c.take_frame.new.self) c.args.root c.args.page
            c.large_entry-index.result.table c.large_entry-index.result.index c.in-Some.made
            (mapped_place c.large_entry-index.result.large) c.large_entry-index.ensures.bounded (omega arith) c.requires.standing.known
            c.requires.standing.tree c.large_entry-index.ensures.entry c.large_entry-index.ensures.place.below
            c.in-Some.ensures.taken.0 c.in-Some.ensures.taken.1 c.in-Some.ensures.lowest c.fill_table.ensures.filled.size
            (rw c.bits.ensures at c.fill_table.ensures.filled.entries) c.fill_table.ensures.filled.others written;
        bytes = split_bytes (g.M.PhysicalMemory.area c.args.frames.now) (g.M.PhysicalMemory.words c.args.frames.now)
            (g.M.PhysicalMemory.words c.fill_table.new.frames) (g.M.PhysicalMemory.words c.set_word.new.self)
            (g.P.TableFrames.free c.args.pool.now) (g.P.TableFrames.free c.take_frame.new.self) c.args.root c.args.page
            c.large_entry-index.result.table c.large_entry-index.result.index c.in-Some.made
            (mapped_place c.large_entry-index.result.large) c.large_entry-index.ensures.bounded (omega arith) c.requires.standing.known
            c.requires.standing.tree c.large_entry-index.ensures.entry c.large_entry-index.ensures.place.below
            c.in-Some.ensures.taken.0 c.in-Some.ensures.taken.1 c.in-Some.ensures.lowest c.fill_table.ensures.filled.size
            (rw c.bits.ensures at c.fill_table.ensures.filled.entries) c.fill_table.ensures.filled.others written;
      };
    }

pub fill_table-requires-clause-seen : goal.fill_table-requires-clause-seen
fill_table-requires-clause-seen g c = λ now only.
    c.requires.seen now (still_free (g.M.PhysicalMemory.words c.args.frames.now) now c.args.root
    (g.P.TableFrames.free c.args.pool.now) c.in-Some.made c.requires.standing.tree c.in-Some.ensures.taken.0 only)

pub set_word-requires-clause-seen : goal.set_word-requires-clause-seen
set_word-requires-clause-seen g c =
    let now = set (g.M.PhysicalMemory.words c.fill_table.new.frames)
    (512 * c.large_entry-index.result.table + c.large_entry-index.result.index) c.bits-2.result in
    let written : now ≡ set (g.M.PhysicalMemory.words c.fill_table.new.frames)
    (512 * c.large_entry-index.result.table + c.large_entry-index.result.index) (table_entry c.in-Some.made) =
    ap (set (g.M.PhysicalMemory.words c.fill_table.new.frames)
    (512 * c.large_entry-index.result.table + c.large_entry-index.result.index)) (c.bits-2.ensures ∙ c.to_table.ensures)
    in
    c.requires.seen now (record {
      tree = (
        g.P.TableFrames.free c.take_frame.new.self,
        split_tree (g.M.PhysicalMemory.area c.args.frames.now) (g.M.PhysicalMemory.words c.args.frames.now)
            (g.M.PhysicalMemory.words c.fill_table.new.frames) now
            (g.P.TableFrames.free c.args.pool.now) (g.P.TableFrames.free c.take_frame.new.self) c.args.root c.args.page
            c.large_entry-index.result.table c.large_entry-index.result.index c.in-Some.made
            (mapped_place c.large_entry-index.result.large) c.large_entry-index.ensures.bounded (omega arith)
            c.requires.standing.known
            c.requires.standing.tree c.large_entry-index.ensures.entry c.large_entry-index.ensures.place.below
            c.in-Some.ensures.taken.0 c.in-Some.ensures.taken.1 c.in-Some.ensures.lowest c.fill_table.ensures.filled.size
            (rw c.bits.ensures at c.fill_table.ensures.filled.entries) c.fill_table.ensures.filled.others written,
      );
      leads =
          split_walk (g.M.PhysicalMemory.area c.args.frames.now) (g.M.PhysicalMemory.words c.args.frames.now)
          (g.M.PhysicalMemory.words c.fill_table.new.frames) now
          (g.P.TableFrames.free c.args.pool.now) (g.P.TableFrames.free c.take_frame.new.self) c.args.root c.args.page
          c.large_entry-index.result.table c.large_entry-index.result.index c.in-Some.made
          (mapped_place c.large_entry-index.result.large) c.large_entry-index.ensures.bounded (omega arith) c.requires.standing.known
          c.requires.standing.tree c.large_entry-index.ensures.entry c.large_entry-index.ensures.place.below
          c.in-Some.ensures.taken.0 c.in-Some.ensures.taken.1 c.in-Some.ensures.lowest c.fill_table.ensures.filled.size
          (rw c.bits.ensures at c.fill_table.ensures.filled.entries) c.fill_table.ensures.filled.others written;
    })
