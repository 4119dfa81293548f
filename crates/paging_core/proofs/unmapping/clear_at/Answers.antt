use Rattle.std.proofs.Common.{refl}
use Rattle.paging_core.specs.Walk.{walk_of}
use Rattle.paging_core.proofs.Areas.{tree_moved}
use Rattle.paging_core.proofs.EntryAt.{as_last_entry}
use Rattle.paging_core.proofs.Ranges.{same_number}
use Rattle.paging_core.proofs.PageChanged.{some_place, removal_keeps, page_removed, changed_tree, page_leads, other_walk, entry_written}
use Rattle.paging_core.specs.PageChanges.{removal, only}
use Rattle.paging_core.proofs.unmapping.clear_at.Goals as goal

pub returns : goal.returns
returns g c =
    let old = g.M.PhysicalMemory.words c.args.frames.now in
    let new = g.M.PhysicalMemory.words c.set_word.new.self in
    let p = some_place (walk_of old c.args.root c.args.page) c.requires.mapped in
    let removed = entry_written old new c.args.root c.args.page removal c.args.table c.args.index p.0.frame
    (as_last_entry old c.args.root c.args.page c.args.table c.args.index p.0.frame c.requires.place.entry
    (record { place = p.0; found = p.1; to_frame = refl })) c.set_word.ensures.words in
    record {
      cleared = record {
        same_area = c.set_word.ensures.area;
        removed = removed;
        gone = λ free tree.
            let pages = page_removed old new c.args.root c.args.page free c.requires.place.rooted removed tree in
            record {
              tree = tree_moved (g.M.PhysicalMemory.area c.args.frames.now) (g.M.PhysicalMemory.area c.set_word.new.self) new c.args.root
                  free c.set_word.ensures.area (changed_tree old new c.args.root removal (only c.args.page) pages removal_keeps free tree);
              pages = pages;
              unmapped = page_leads old new c.args.root c.args.page removal pages removed.place removed.was;
              elsewhere = λ other canonical ne. other_walk old new c.args.root c.args.page removal pages other
                  (λ e. ne (same_number other c.args.page canonical (rw c.number-canonical.ensures.value at c.number-canonical.ensures.canonical) e));
            };
      };
    }
