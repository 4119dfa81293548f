use Rattle.std.proofs.Common.{◌∙◌, ◌+◌, ◌*◌, ap, set}
use Rattle.paging_core.specs.Walk.{mapped_place}
use Rattle.paging_core.proofs.Areas.{tree_moved, bytes_moved}
use Rattle.paging_core.proofs.LargeAdded.{same_slot}
use Rattle.paging_core.proofs.LargeGranted.{large_regranted, granted_tree, large_granted, granted_elsewhere, granted_bytes}
use Rattle.paging_core.proofs.split.protect_large.Goals as goal

pub returns : goal.returns
returns g c =
    let old = g.M.PhysicalMemory.words c.args.frames.now in
    let new = g.M.PhysicalMemory.words c.set_word.new.self in
    let regranted = large_regranted (g.M.PhysicalMemory.words c.args.frames.now) (g.M.PhysicalMemory.words c.set_word.new.self) c.args.root
    c.args.page c.large_entry-table.result.table c.large_entry-table.result.index c.args.rights
    (mapped_place c.large_entry-table.result.large) c.large_entry-table.ensures.entry
    (c.set_word.ensures.words
    ∙ ap (set (g.M.PhysicalMemory.words c.args.frames.now)
    (512 * c.large_entry-table.result.table + c.large_entry-table.result.index))
    (c.bits.ensures ∙ c.to_large-entry.ensures.value)) in
    record {
      granted = record {
        same_area = c.set_word.ensures.area;
        regranted = regranted;
        granted = λ free tree.
            record {
              tree = tree_moved (g.M.PhysicalMemory.area c.args.frames.now) (g.M.PhysicalMemory.area c.set_word.new.self) new c.args.root
                  free c.set_word.ensures.area (granted_tree old new c.args.root c.args.page c.args.rights c.requires.page.rooted regranted free tree);
              granted = large_granted old new c.args.root c.args.page c.args.rights c.requires.page.rooted regranted free tree;
              elsewhere = λ other canonical ne. granted_elsewhere old new c.args.root c.args.page c.args.rights c.requires.page.rooted regranted free tree other
                  (λ e. ne (same_slot other c.args.page canonical c.large_entry-table.ensures.canonical e));
              bytes = bytes_moved (g.M.PhysicalMemory.area c.args.frames.now) (g.M.PhysicalMemory.area c.set_word.new.self) old new c.args.root
                  c.set_word.ensures.area (granted_bytes old new c.args.root c.args.page c.args.rights c.requires.page.rooted regranted free tree);
            };
      };
    }

pub set_word-requires-clause-seen : goal.set_word-requires-clause-seen
set_word-requires-clause-seen g c =
    let now = set (g.M.PhysicalMemory.words c.args.frames.now) (512 * c.large_entry-table.result.table + c.large_entry-table.result.index) c.bits.result in
    c.requires.seen now
    (large_regranted (g.M.PhysicalMemory.words c.args.frames.now) now c.args.root c.args.page
    c.large_entry-table.result.table c.large_entry-table.result.index c.args.rights
    (mapped_place c.large_entry-table.result.large) c.large_entry-table.ensures.entry
    (ap (set (g.M.PhysicalMemory.words c.args.frames.now)
    (512 * c.large_entry-table.result.table + c.large_entry-table.result.index))
    (c.bits.ensures ∙ c.to_large-entry.ensures.value)))
