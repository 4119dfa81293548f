use Rattle.std.proofs.Common.{rules, ◌≡◌, ◌+◌, ◌-◌, arith}
use Rattle.paging_core_rows.proofs.Leaving.{part_mapped, part_ends}
use Rattle.paging_core_rows.proofs.ranges.leave_row.Goals as goal

pub unmap_pages-requires-clause-unmappable : goal.unmap_pages-requires-clause-unmappable
unmap_pages-requires-clause-unmappable g c =
    let n = c.number.ensures.value in
    let f = c.after-from.ensures in
    let e : c.page_at-first.result ≡ c.args.row.page = omega arith in
    record {
      rooted = search rules;
      range = search rules;
      mapped = part_mapped c.args.frames.now c.map_pages.new.frames c.args.pool.now c.map_pages.new.pool c.args.root
          c.page_at-first.result c.args.row.pages c.map_pages.result
          c.after-from.result (c.args.row.page + c.args.row.pages - c.args.row.from) _ c.requires.unmapped
          c.map_pages.ensures.mapped (omega arith) (omega arith) (omega arith);
      ends = part_ends c.args.frames.now c.map_pages.new.frames c.args.pool.now c.map_pages.new.pool c.args.root
          c.page_at-first.result c.args.row.pages c.map_pages.result
          c.after-from.result (c.args.row.page + c.args.row.pages - c.args.row.from) _ c.requires.unmapped
          c.map_pages.ensures.mapped (omega arith) (omega arith) (omega arith);
    }
