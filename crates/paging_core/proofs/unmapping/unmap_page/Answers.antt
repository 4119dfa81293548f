use Rattle.std.proofs.Common.{◌+◌, ◌*◌, sym, set, refl}
use Rattle.paging_core.proofs.EntryAt.{as_entry}
use Rattle.paging_core.specs.PageChanges.{removal}
use Rattle.paging_core.proofs.PageChanged.{entry_written}
use Rattle.paging_core.proofs.unmapping.unmap_page.Goals as goal

pub clear_at-requires-clause-place : goal.clear_at-requires-clause-place
clear_at-requires-clause-place g c = record {
  rooted = c.requires.page.rooted;
  entry = as_entry (g.M.PhysicalMemory.words c.args.frames.now) c.args.root c.args.page c.last_entry-table.result.table
      c.last_entry-table.result.index c.last_entry-table.result.frame c.last_entry-table.ensures.entry;
  place = c.last_entry-table.ensures.place;
}

pub returns-clause-frame : goal.returns-clause-frame
returns-clause-frame g c = let e = c.last_entry-table.ensures.entry in rw e.found (sym e.to_frame)

pub clear_at-requires-clause-seen : goal.clear_at-requires-clause-seen
clear_at-requires-clause-seen g c =
    let now = set (g.M.PhysicalMemory.words c.args.frames.now) (512 * c.last_entry-table.result.table + c.last_entry-table.result.index) 0 in
    c.requires.seen now
    (entry_written (g.M.PhysicalMemory.words c.args.frames.now) now c.args.root c.args.page removal
    c.last_entry-table.result.table c.last_entry-table.result.index c.last_entry-table.result.frame
    c.last_entry-table.ensures.entry refl)
