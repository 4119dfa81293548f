use Rattle.std.proofs.Common.{◌≡◌, ◌∙◌, ◌+◌, ◌*◌, ◌%◌, ◌<◌, ◌^◌, ap, sym, set, arith, Some}
use Rattle.paging_core.specs.Entry.{large_entry}
use Rattle.paging_core.specs.Memory.{frame_count}
use Rattle.paging_core.specs.Prefix.{prefix_of}
use Rattle.paging_core.specs.Tables.{IsPrepared}
use Rattle.paging_core.specs.Large.{above}
use Rattle.paging_core.specs.Walk.{reach, top}
use Rattle.paging_core.proofs.Areas.{run_unmet_at, tree_moved, known_moved, free_stays}
use Rattle.paging_core.proofs.Made.{reach_below}
use Rattle.paging_core.proofs.LargeAdded.{large_tree, large_added, large_bytes, same_slot}
use Rattle.paging_core.proofs.LargeMissing.{large_missing}
use Rattle.paging_core.proofs.large.map_large.Goals as goal

pub set_word-requires-clause-entry : goal.set_word-requires-clause-entry
set_word-requires-clause-entry g c = record {
  inside = c.ensure_tables-table.ensures.tree.inside 2 (prefix_of c.first_page-first.result 2) (top c.ensure_tables-table.result)
      (omega arith) c.ensure_tables-table.ensures.met;
  below = let s = c.ensure_tables-table.ensures.prepared.size in
      reach_below (g.M.PhysicalMemory.words c.ensure_tables-table.new.frames) c.args.root 2
      (prefix_of c.first_page-first.result 2) (top c.ensure_tables-table.result)
      (omega arith) (omega (arith, c.requires.standing.rooted)) c.ensure_tables-table.ensures.met;
  bounded = c.index_after.ensures.bounded;
}

pub returns : goal.returns
returns g c =
    let met : reach (g.M.PhysicalMemory.words c.ensure_tables-table.new.frames) c.args.root
    2 (above c.args.page 2) ≡ Some (top c.ensure_tables-table.result) =
    rw c.first_page-first.ensures at c.ensure_tables-table.ensures.met in
    let prepared : IsPrepared (g.M.PhysicalMemory.words c.args.frames.now) (g.M.PhysicalMemory.words c.ensure_tables-table.new.frames)
    (g.P.TableFrames.free c.args.pool.now) (g.P.TableFrames.free c.ensure_tables-table.new.pool) c.args.root
    (512 * c.args.page) 2 =
    rw c.first_page-first.ensures at c.ensure_tables-table.ensures.prepared in
    let index : c.index_after.result ≡ prefix_of (512 * c.args.page) 3 % 512 =
    rw c.first_page-first.ensures at c.index_after.ensures.value in
    let small : 512 * c.args.frame < 2 ^ 40 =
    rw c.first_frame.ensures.first at c.to_large-entry.ensures.fits in
    let written : (g.M.PhysicalMemory.words c.set_word.new.self)
    ≡ set (g.M.PhysicalMemory.words c.ensure_tables-table.new.frames)
    (512 * c.ensure_tables-table.result + c.index_after.result) (large_entry (512 * c.args.frame) c.args.rights) =
    c.set_word.ensures.words
    ∙ ap (set (g.M.PhysicalMemory.words c.ensure_tables-table.new.frames) (512 * c.ensure_tables-table.result + c.index_after.result))
    (c.bits.ensures ∙ (c.to_large-entry.ensures.value ∙ ap (λ f. large_entry f c.args.rights) c.first_frame.ensures.first)) in
    let added = large_added (g.M.PhysicalMemory.words c.args.frames.now) (g.M.PhysicalMemory.words c.ensure_tables-table.new.frames)
    (g.M.PhysicalMemory.words c.set_word.new.self) (g.P.TableFrames.free c.args.pool.now)
    (g.P.TableFrames.free c.ensure_tables-table.new.pool) c.args.root c.args.page
    c.ensure_tables-table.result c.index_after.result c.args.frame c.args.rights
    c.requires.standing.rooted c.requires.mappable.empty small c.requires.mappable.below c.requires.used
    (run_unmet_at (g.M.PhysicalMemory.area c.args.frames.now) (g.M.PhysicalMemory.words c.args.frames.now) c.args.root
    (512 * c.args.frame) c.requires.mappable.unmet) index
    (tree_moved (g.M.PhysicalMemory.area c.ensure_tables-table.new.frames) (g.M.PhysicalMemory.area c.args.frames.now)
    (g.M.PhysicalMemory.words c.ensure_tables-table.new.frames) c.args.root
    (g.P.TableFrames.free c.ensure_tables-table.new.pool) (sym c.ensure_tables-table.ensures.area)
    c.ensure_tables-table.ensures.tree) met prepared written in
    record {
      put = record {
        same_area = c.set_word.ensures.area ∙ c.ensure_tables-table.ensures.area;
        standing = record {
          rooted = let s = added.size in omega (arith, c.requires.standing.rooted);
          tree = tree_moved (g.M.PhysicalMemory.area c.args.frames.now) (g.M.PhysicalMemory.area c.set_word.new.self)
              (g.M.PhysicalMemory.words c.set_word.new.self) c.args.root (g.P.TableFrames.free c.ensure_tables-table.new.pool)
              (c.set_word.ensures.area ∙ c.ensure_tables-table.ensures.area)
              (large_tree (g.M.PhysicalMemory.words c.args.frames.now) (g.M.PhysicalMemory.words c.ensure_tables-table.new.frames)
              (g.M.PhysicalMemory.words c.set_word.new.self) (g.P.TableFrames.free c.args.pool.now)
              (g.P.TableFrames.free c.ensure_tables-table.new.pool) c.args.root c.args.page
              c.ensure_tables-table.result c.index_after.result c.args.frame c.args.rights
              c.requires.standing.rooted c.requires.mappable.empty small c.requires.mappable.below c.requires.used
              (run_unmet_at (g.M.PhysicalMemory.area c.args.frames.now) (g.M.PhysicalMemory.words c.args.frames.now) c.args.root
              (512 * c.args.frame) c.requires.mappable.unmet) index
              (tree_moved (g.M.PhysicalMemory.area c.ensure_tables-table.new.frames) (g.M.PhysicalMemory.area c.args.frames.now)
              (g.M.PhysicalMemory.words c.ensure_tables-table.new.frames) c.args.root
              (g.P.TableFrames.free c.ensure_tables-table.new.pool) (sym c.ensure_tables-table.ensures.area)
              c.ensure_tables-table.ensures.tree) met prepared written);
          known = let s = added.size in
              known_moved (g.M.PhysicalMemory.area c.args.frames.now) (g.M.PhysicalMemory.area c.set_word.new.self)
              (g.P.TableFrames.free c.ensure_tables-table.new.pool) (frame_count (g.M.PhysicalMemory.words c.set_word.new.self))
              (c.set_word.ensures.area ∙ c.ensure_tables-table.ensures.area)
              (free_stays (g.M.PhysicalMemory.area c.args.frames.now) (g.P.TableFrames.free c.args.pool.now)
              (g.P.TableFrames.free c.ensure_tables-table.new.pool) (frame_count (g.M.PhysicalMemory.words c.args.frames.now))
              (frame_count (g.M.PhysicalMemory.words c.set_word.new.self)) c.requires.standing.known (omega arith) added.fewer);
        };
        others = record {
          elsewhere = λ other canonical ne.
              added.pages other (λ e. ne (same_slot other c.args.page canonical (rw c.first_page-first.ensures at c.index_after.ensures.canonical) e));
          bytes = large_bytes (g.M.PhysicalMemory.words c.args.frames.now) (g.M.PhysicalMemory.words c.ensure_tables-table.new.frames)
              (g.M.PhysicalMemory.words c.set_word.new.self) (g.P.TableFrames.free c.args.pool.now)
              (g.P.TableFrames.free c.ensure_tables-table.new.pool) c.args.root c.args.page
              c.ensure_tables-table.result c.index_after.result c.args.frame c.args.rights
              c.requires.standing.rooted c.requires.mappable.empty small c.requires.mappable.below c.requires.used
              (run_unmet_at (g.M.PhysicalMemory.area c.args.frames.now) (g.M.PhysicalMemory.words c.args.frames.now) c.args.root
              (512 * c.args.frame) c.requires.mappable.unmet) index
              (tree_moved (g.M.PhysicalMemory.area c.ensure_tables-table.new.frames) (g.M.PhysicalMemory.area c.args.frames.now)
              (g.M.PhysicalMemory.words c.ensure_tables-table.new.frames) c.args.root
              (g.P.TableFrames.free c.ensure_tables-table.new.pool) (sym c.ensure_tables-table.ensures.area)
              c.ensure_tables-table.ensures.tree) met prepared written;
        };
        added = added;
        missing = large_missing (g.M.PhysicalMemory.words c.args.frames.now) (g.M.PhysicalMemory.words c.set_word.new.self)
            (g.P.TableFrames.free c.args.pool.now) (g.P.TableFrames.free c.ensure_tables-table.new.pool) c.args.root c.args.page
            c.args.frame c.args.rights
            added;
      };
    }

pub set_word-requires-clause-seen : goal.set_word-requires-clause-seen
set_word-requires-clause-seen g c =
    c.requires.seen (set (g.M.PhysicalMemory.words c.ensure_tables-table.new.frames)
    (512 * c.ensure_tables-table.result + c.index_after.result) c.bits.result)
    (g.P.TableFrames.free c.ensure_tables-table.new.pool)
    (large_added (g.M.PhysicalMemory.words c.args.frames.now) (g.M.PhysicalMemory.words c.ensure_tables-table.new.frames)
    (set (g.M.PhysicalMemory.words c.ensure_tables-table.new.frames)
    (512 * c.ensure_tables-table.result + c.index_after.result) c.bits.result) (g.P.TableFrames.free c.args.pool.now)
    (g.P.TableFrames.free c.ensure_tables-table.new.pool) c.args.root c.args.page
    c.ensure_tables-table.result c.index_after.result c.args.frame c.args.rights
    c.requires.standing.rooted c.requires.mappable.empty (rw c.first_frame.ensures.first at c.to_large-entry.ensures.fits) c.requires.mappable.below c.requires.used
    (run_unmet_at (g.M.PhysicalMemory.area c.args.frames.now) (g.M.PhysicalMemory.words c.args.frames.now) c.args.root
    (512 * c.args.frame) c.requires.mappable.unmet) (rw c.first_page-first.ensures at c.index_after.ensures.value)
    (tree_moved (g.M.PhysicalMemory.area c.ensure_tables-table.new.frames) (g.M.PhysicalMemory.area c.args.frames.now)
    (g.M.PhysicalMemory.words c.ensure_tables-table.new.frames) c.args.root
    (g.P.TableFrames.free c.ensure_tables-table.new.pool) (sym c.ensure_tables-table.ensures.area)
    c.ensure_tables-table.ensures.tree)
    (rw c.first_page-first.ensures at c.ensure_tables-table.ensures.met) (rw c.first_page-first.ensures at c.ensure_tables-table.ensures.prepared)
    (ap (set (g.M.PhysicalMemory.words c.ensure_tables-table.new.frames) (512 * c.ensure_tables-table.result + c.index_after.result))
    (c.bits.ensures ∙ (c.to_large-entry.ensures.value ∙ ap (λ f. large_entry f c.args.rights) c.first_frame.ensures.first))))
