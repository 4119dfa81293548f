use Rattle.std.proofs.Common.{refl, arith, sym, ◌∙◌, ◌+◌, ◌*◌, set}
use Rattle.paging_core.specs.Entry.{page_entry}
use Rattle.paging_core.specs.Memory.{frame_count}
use Rattle.paging_core.specs.Prefix.{prefix_of}
use Rattle.paging_core.specs.Walk.{top}
use Rattle.paging_core.proofs.Areas.{unmet_at, tree_moved, known_moved, free_stays}
use Rattle.paging_core.proofs.Made.{reach_below}
use Rattle.paging_core.proofs.EntryAt.{unmet_in, unmet_moved}
use Rattle.paging_core.proofs.LastEntry.{kept_unmet, mapped_tree, mapped_page}
use Rattle.paging_core.proofs.Ranges.{same_number}
use Rattle.paging_core.proofs.Prefixes.{walk_reach, small_page}
use Rattle.paging_core.proofs.Counts.{missing_one}
use Rattle.paging_core.proofs.PageMissing.{page_missing}
use Rattle.paging_core.proofs.mapping.map_page.Goals as goal

pub ensure_tables-table-requires-clause-small : goal.ensure_tables-table-requires-clause-small
ensure_tables-table-requires-clause-small g c = λ _.
    small_page (g.M.PhysicalMemory.words c.args.frames.now) c.args.root c.args.page
    (sym (walk_reach (g.M.PhysicalMemory.words c.args.frames.now) c.args.root c.args.page) ∙ c.requires.mappable.unmapped)

pub ensure_tables-table-requires-clause-room : goal.ensure_tables-table-requires-clause-room
ensure_tables-table-requires-clause-room g c =
    let e = missing_one (g.M.PhysicalMemory.words c.args.frames.now) c.args.root c.args.page in omega (arith, c.requires.room)

pub map_at-requires-clause-place : goal.map_at-requires-clause-place
map_at-requires-clause-place g c =
    let s = c.ensure_tables-table.ensures.prepared.size in
    record {
      rooted = omega (arith, c.requires.standing.rooted);
      entry = record {
        met = top c.ensure_tables-table.result;
        reached = c.ensure_tables-table.ensures.met;
        in_table = refl;
        at_index = c.index_after-index.ensures.value;
      };
      place = record {
        inside = c.ensure_tables-table.ensures.tree.inside 3 (prefix_of c.args.page 3) (top c.ensure_tables-table.result)
            (omega arith) c.ensure_tables-table.ensures.met;
        below = reach_below (g.M.PhysicalMemory.words c.ensure_tables-table.new.frames) c.args.root 3 (prefix_of c.args.page 3)
            (top c.ensure_tables-table.result) (omega arith) (omega (arith, c.requires.standing.rooted)) c.ensure_tables-table.ensures.met;
        bounded = c.index_after-index.ensures.bounded;
      };
    }

pub map_at-requires-clause-mappable : goal.map_at-requires-clause-mappable
map_at-requires-clause-mappable g c =
    let s = c.ensure_tables-table.ensures.prepared.size in
    record {
      unmapped = walk_reach (g.M.PhysicalMemory.words c.ensure_tables-table.new.frames) c.args.root c.args.page
          ∙ (c.ensure_tables-table.ensures.prepared.others 4 (prefix_of c.args.page 4) (omega arith) (λ le _. absurd (omega arith))
          ∙ (sym (walk_reach (g.M.PhysicalMemory.words c.args.frames.now) c.args.root c.args.page) ∙ c.requires.mappable.unmapped));
      below = omega (arith, c.requires.mappable.below);
      unmet = unmet_moved (g.M.PhysicalMemory.area c.args.frames.now) (g.M.PhysicalMemory.area c.ensure_tables-table.new.frames)
          (g.M.PhysicalMemory.words c.ensure_tables-table.new.frames) c.args.root c.args.frame
          c.ensure_tables-table.ensures.area
          (unmet_in (g.M.PhysicalMemory.area c.args.frames.now) (g.M.PhysicalMemory.words c.ensure_tables-table.new.frames) c.args.root c.args.frame
          (λ whole. kept_unmet (g.M.PhysicalMemory.words c.args.frames.now)
          (g.M.PhysicalMemory.words c.ensure_tables-table.new.frames) (g.P.TableFrames.free c.args.pool.now)
          (g.P.TableFrames.free c.ensure_tables-table.new.pool) c.args.root c.args.page c.args.frame
          (c.requires.used whole) c.ensure_tables-table.ensures.prepared
          (unmet_at (g.M.PhysicalMemory.area c.args.frames.now) (g.M.PhysicalMemory.words c.args.frames.now) c.args.root c.args.frame
          c.requires.mappable.unmet whole)));
    }

pub returns : goal.returns
returns g c =
    let added = mapped_page (g.M.PhysicalMemory.words c.args.frames.now) (g.M.PhysicalMemory.words c.ensure_tables-table.new.frames)
    (g.M.PhysicalMemory.words c.map_at.new.frames) (g.P.TableFrames.free c.args.pool.now)
    (g.P.TableFrames.free c.ensure_tables-table.new.pool) c.args.root c.args.page
    c.ensure_tables-table.result c.index_after-index.result c.args.frame c.args.rights
    c.requires.standing.rooted c.requires.mappable.unmapped c.map_at.ensures.fits c.requires.mappable.below c.requires.used
    (unmet_at (g.M.PhysicalMemory.area c.args.frames.now) (g.M.PhysicalMemory.words c.args.frames.now) c.args.root
    c.args.frame c.requires.mappable.unmet) c.index_after-index.ensures.value
    (tree_moved (g.M.PhysicalMemory.area c.ensure_tables-table.new.frames) (g.M.PhysicalMemory.area c.args.frames.now)
    (g.M.PhysicalMemory.words c.ensure_tables-table.new.frames) c.args.root
    (g.P.TableFrames.free c.ensure_tables-table.new.pool) (sym c.ensure_tables-table.ensures.area)
    c.ensure_tables-table.ensures.tree) c.ensure_tables-table.ensures.met c.ensure_tables-table.ensures.prepared
    c.map_at.ensures.words in
    record {
      put = record {
        same_area = c.map_at.ensures.area ∙ c.ensure_tables-table.ensures.area;
        standing = record {
          rooted = let s = added.size in omega (arith, c.requires.standing.rooted);
          tree = tree_moved (g.M.PhysicalMemory.area c.args.frames.now) (g.M.PhysicalMemory.area c.map_at.new.frames)
              (g.M.PhysicalMemory.words c.map_at.new.frames) c.args.root (g.P.TableFrames.free c.ensure_tables-table.new.pool)
              (c.map_at.ensures.area ∙ c.ensure_tables-table.ensures.area)
              (mapped_tree (g.M.PhysicalMemory.words c.args.frames.now) (g.M.PhysicalMemory.words c.ensure_tables-table.new.frames)
              (g.M.PhysicalMemory.words c.map_at.new.frames) (g.P.TableFrames.free c.args.pool.now)
              (g.P.TableFrames.free c.ensure_tables-table.new.pool) c.args.root c.args.page
              c.ensure_tables-table.result c.index_after-index.result c.args.frame c.args.rights
              c.requires.standing.rooted c.requires.mappable.unmapped c.map_at.ensures.fits c.requires.mappable.below c.requires.used
              (unmet_at (g.M.PhysicalMemory.area c.args.frames.now) (g.M.PhysicalMemory.words c.args.frames.now) c.args.root
              c.args.frame c.requires.mappable.unmet) c.index_after-index.ensures.value
              (tree_moved (g.M.PhysicalMemory.area c.ensure_tables-table.new.frames) (g.M.PhysicalMemory.area c.args.frames.now)
              (g.M.PhysicalMemory.words c.ensure_tables-table.new.frames) c.args.root
              (g.P.TableFrames.free c.ensure_tables-table.new.pool) (sym c.ensure_tables-table.ensures.area)
              c.ensure_tables-table.ensures.tree) c.ensure_tables-table.ensures.met c.ensure_tables-table.ensures.prepared
              c.map_at.ensures.words);
          known = let s = added.size in
              known_moved (g.M.PhysicalMemory.area c.args.frames.now) (g.M.PhysicalMemory.area c.map_at.new.frames)
              (g.P.TableFrames.free c.ensure_tables-table.new.pool) (frame_count (g.M.PhysicalMemory.words c.map_at.new.frames))
              (c.map_at.ensures.area ∙ c.ensure_tables-table.ensures.area)
              (free_stays (g.M.PhysicalMemory.area c.args.frames.now) (g.P.TableFrames.free c.args.pool.now)
              (g.P.TableFrames.free c.ensure_tables-table.new.pool) (frame_count (g.M.PhysicalMemory.words c.args.frames.now))
              (frame_count (g.M.PhysicalMemory.words c.map_at.new.frames)) c.requires.standing.known (omega arith) added.fewer);
        };
        elsewhere = λ other canonical ne.
            added.pages other (λ e. ne (same_number other c.args.page canonical c.index_after-index.ensures.canonical e));
        added = added;
        missing = page_missing (g.M.PhysicalMemory.words c.args.frames.now) (g.M.PhysicalMemory.words c.map_at.new.frames)
            (g.P.TableFrames.free c.args.pool.now) (g.P.TableFrames.free c.ensure_tables-table.new.pool) c.args.root c.args.page
            c.args.frame c.args.rights added;
      };
    }

pub map_at-requires-clause-seen : goal.map_at-requires-clause-seen
map_at-requires-clause-seen g c = λ fits.
    c.requires.seen (set (g.M.PhysicalMemory.words c.ensure_tables-table.new.frames)
    (512 * c.ensure_tables-table.result + c.index_after-index.result) (page_entry c.args.frame c.args.rights))
    (g.P.TableFrames.free c.ensure_tables-table.new.pool)
    (mapped_page (g.M.PhysicalMemory.words c.args.frames.now) (g.M.PhysicalMemory.words c.ensure_tables-table.new.frames)
    (set (g.M.PhysicalMemory.words c.ensure_tables-table.new.frames)
    (512 * c.ensure_tables-table.result + c.index_after-index.result) (page_entry c.args.frame c.args.rights))
    (g.P.TableFrames.free c.args.pool.now) (g.P.TableFrames.free c.ensure_tables-table.new.pool) c.args.root c.args.page
    c.ensure_tables-table.result c.index_after-index.result c.args.frame c.args.rights
    c.requires.standing.rooted c.requires.mappable.unmapped fits c.requires.mappable.below c.requires.used
    (unmet_at (g.M.PhysicalMemory.area c.args.frames.now) (g.M.PhysicalMemory.words c.args.frames.now) c.args.root
    c.args.frame c.requires.mappable.unmet) c.index_after-index.ensures.value
    (tree_moved (g.M.PhysicalMemory.area c.ensure_tables-table.new.frames) (g.M.PhysicalMemory.area c.args.frames.now)
    (g.M.PhysicalMemory.words c.ensure_tables-table.new.frames) c.args.root
    (g.P.TableFrames.free c.ensure_tables-table.new.pool) (sym c.ensure_tables-table.ensures.area)
    c.ensure_tables-table.ensures.tree)
    c.ensure_tables-table.ensures.met c.ensure_tables-table.ensures.prepared refl)
