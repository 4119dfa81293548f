use Rattle.std.proofs.Common.{◌/◌, sym, ap, ◌∙◌, arith}
use Rattle.paging_core.specs.Large.{slot_of}
use Rattle.paging_core.specs.Pool.{free_count}
use Rattle.kernel_tables.specs.Grants.{user_of}
use Rattle.kernel_tables.proofs.Changed.{none_only, made_flushed}
use Rattle.kernel_tables.proofs.RangeChanged.{entry_ok, protect_ok, still_open}
use Rattle.kernel_tables.proofs.SlotChanges.{page_not_large, table_small}
use Rattle.kernel_tables.proofs.KeptWords.{words_then}
use Rattle.kernel_tables.proofs.tables.Tables.grant_any.Goals as goal

pub own_entry-requires : goal.own_entry-requires
own_entry-requires c = (protect_ok c.args.self.now c.args.page (user_of c.args.grant) (sym c.in-None.ensures)).entry

pub returns-in-None-clause-granted : goal.returns-in-None-clause-granted
returns-in-None-clause-granted c =
    let f = c.own_entry.ensures.free in
    let g = ap free_count c.grant_page.ensures.free in
    let walks = c.own_entry.ensures.none.walks c.args.page in
    record {
      granted = rw (sym walks) c.grant_page.ensures.granted;
      free = omega (arith, f, g);
      words = words_then c.own_entry.ensures.words c.grant_page.ensures.words c.own_entry.ensures.none.tables c.grant_page.ensures.only.tables (λ other e. e) (λ other e. e);
      changed = λ zero. rw (c.own_entry.ensures.same zero) at c.grant_page.ensures.changed;
      large = page_not_large c.args.self.now c.grant_page.new.self c.args.page
          (c.grant_page.ensures.larges (slot_of (c.args.page / 512))
          ∙ table_small c.own_entry.new.self.words c.own_entry.new.self.root c.args.page c.own_entry.ensures.small)
          (λ n ne. c.grant_page.ensures.larges n ∙ c.own_entry.ensures.larges n ne);
    }

pub grant_page-requires-clause-hidden : goal.grant_page-requires-clause-hidden
grant_page-requires-clause-hidden c =
    still_open c.args.self.now c.own_entry.new.self c.args.page (user_of c.args.grant) c.own_entry.ensures.none.place.area (c.own_entry.ensures.none.walks c.args.page)
    (protect_ok c.args.self.now c.args.page (user_of c.args.grant) (sym c.in-None.ensures)).hidden

pub grant_page-requires-clause-entry : goal.grant_page-requires-clause-entry
grant_page-requires-clause-entry c = record {
  mapped = rw (c.own_entry.ensures.none.walks c.args.page)
      (entry_ok c.args.self.now c.args.page (protect_ok c.args.self.now c.args.page (user_of c.args.grant) (sym c.in-None.ensures)).entry).mapped;
  small = c.own_entry.ensures.small;
}

pub returns-in-None-clause-change : goal.returns-in-None-clause-change
returns-in-None-clause-change c = made_flushed c.in-None.ensures (none_only c.own_entry.ensures.none c.grant_page.ensures.only)
