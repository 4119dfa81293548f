use Rattle.std.proofs.Common.{◌/◌, sym, ap, ◌∙◌, arith}
use Rattle.paging_core.specs.Large.{slot_of}
use Rattle.paging_core.specs.Pool.{free_count}
use Rattle.kernel_tables.proofs.Changed.{none_only, made_flushed}
use Rattle.kernel_tables.proofs.RangeChanged.{entry_ok}
use Rattle.kernel_tables.proofs.SlotChanges.{page_not_large, table_small}
use Rattle.kernel_tables.proofs.KeptWords.{words_then}
use Rattle.kernel_tables.proofs.tables.Tables.unmap_any.Goals as goal

pub own_entry-requires : goal.own_entry-requires
own_entry-requires c = sym c.in-None.ensures

pub returns-in-None-clause-unmapped : goal.returns-in-None-clause-unmapped
returns-in-None-clause-unmapped c =
    let f = c.own_entry.ensures.free in
    let g = ap free_count c.clear_page.ensures.free in
    let walks = c.own_entry.ensures.none.walks c.args.page in
    record {
      led = rw (sym walks) c.clear_page.ensures.led;
      unmapped = c.clear_page.ensures.unmapped;
      free = omega (arith, f, g);
      words = words_then c.own_entry.ensures.words c.clear_page.ensures.words c.own_entry.ensures.none.tables c.clear_page.ensures.only.tables (λ other e. e) (λ other e. e);
      removed = λ zero. rw (c.own_entry.ensures.same zero) at c.clear_page.ensures.removed;
      large = page_not_large c.args.self.now c.clear_page.new.self c.args.page
          (c.clear_page.ensures.larges (slot_of (c.args.page / 512))
          ∙ table_small c.own_entry.new.self.words c.own_entry.new.self.root c.args.page c.own_entry.ensures.small)
          (λ n ne. c.clear_page.ensures.larges n ∙ c.own_entry.ensures.larges n ne);
    }

pub clear_page-requires : goal.clear_page-requires
clear_page-requires c = record {
  mapped = rw (c.own_entry.ensures.none.walks c.args.page) (entry_ok c.args.self.now c.args.page (sym c.in-None.ensures)).mapped;
  small = c.own_entry.ensures.small;
}

pub returns-in-None-clause-change : goal.returns-in-None-clause-change
returns-in-None-clause-change c = made_flushed c.in-None.ensures (none_only c.own_entry.ensures.none c.clear_page.ensures.only)
