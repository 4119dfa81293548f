use Rattle.paging_core.proofs.EntryAt.{as_entry, as_frame}
use Rattle.std.proofs.Common.{◌+◌, ◌*◌, ap, sym, set}
use Rattle.paging_core.specs.Entry.{page_entry}
use Rattle.paging_core.specs.PageChanges.{regrant}
use Rattle.paging_core.proofs.PageChanged.{entry_written}
use Rattle.paging_core.proofs.protecting.protect_page.Goals as goal

pub protect_at-requires-clause-place : goal.protect_at-requires-clause-place
protect_at-requires-clause-place g c = record {
  rooted = c.requires.page.rooted;
  entry = as_entry (g.M.PhysicalMemory.words c.args.frames.now) c.args.root c.args.page c.last_entry-table.result.table
      c.last_entry-table.result.index c.last_entry-table.result.frame c.last_entry-table.ensures.entry;
  place = c.last_entry-table.ensures.place;
}

pub protect_at-requires-clause-frame : goal.protect_at-requires-clause-frame
protect_at-requires-clause-frame g c =
    as_frame (g.M.PhysicalMemory.words c.args.frames.now) c.args.root c.args.page c.last_entry-table.result.table
    c.last_entry-table.result.index c.last_entry-table.result.frame c.last_entry-table.ensures.entry

pub protect_at-requires-clause-seen : goal.protect_at-requires-clause-seen
protect_at-requires-clause-seen g c =
    let e = c.last_entry-table.ensures.entry in
    let now = set (g.M.PhysicalMemory.words c.args.frames.now)
    (512 * c.last_entry-table.result.table + c.last_entry-table.result.index)
    (page_entry c.last_entry-table.result.frame c.args.rights) in
    c.requires.seen now
    (entry_written (g.M.PhysicalMemory.words c.args.frames.now) now c.args.root c.args.page (regrant c.args.rights)
    c.last_entry-table.result.table c.last_entry-table.result.index c.last_entry-table.result.frame e
    (ap (λ f. set (g.M.PhysicalMemory.words c.args.frames.now)
    (512 * c.last_entry-table.result.table + c.last_entry-table.result.index) (page_entry f c.args.rights))
    (sym e.to_frame)))
