use Rattle.std.proofs.Common.{◌+◌, sym, ap, arith}
use Rattle.paging_core.specs.Pool.{free_count}
use Rattle.kernel_tables.specs.Ranges.{has_page_of, is_cut}
use Rattle.kernel_tables.proofs.Changed.{none_only, made_flushed}
use Rattle.kernel_tables.proofs.RangeChanged.{HasNoChangeFault, no_change_fault, none_unmapped}
use Rattle.kernel_tables.proofs.SlotChanges.{not_large_then, cut_or_has}
use Rattle.kernel_tables.proofs.KeptWords.{words_then}
use Rattle.kernel_tables.proofs.tables.Tables.unmap_range.Goals as goal
use Rattle.kernel_tables.proofs.tables.Tables.unmap_range.Goals.{In-None}

open_range : (c : goal.In-None) → HasNoChangeFault c.args.self.now c.args.page c.args.pages
open_range c = no_change_fault c.args.self.now c.args.page c.args.pages (omega (arith, c.if-pages-eq0.false))
    c.in-None.ensures.canonical (sym c.in-None.ensures.fault)

pub split_ends-requires-clause-range : goal.split_ends-requires-clause-range
split_ends-requires-clause-range c = (open_range (goal.at.split_ends-requires-clause-range c).In-None).range

pub split_ends-requires-clause-room : goal.split_ends-requires-clause-room
split_ends-requires-clause-room c = (open_range (goal.at.split_ends-requires-clause-room c).In-None).room

pub returns-in-None-clause-unmapped : goal.returns-in-None-clause-unmapped
returns-in-None-clause-unmapped c =
    let f = c.split_ends.ensures.free in
    let g = ap free_count c.clear_all.ensures.free in
    record {
      unmapped = c.clear_all.ensures.unmapped;
      free = omega (arith, f, g);
      words = words_then c.split_ends.ensures.words c.clear_all.ensures.words c.split_ends.ensures.none.tables c.clear_all.ensures.only.tables (λ other e. e) (λ other e. e);
      large = not_large_then c.args.self.now c.split_ends.new.self c.clear_all.new.self (is_cut c.args.page c.args.pages)
          (has_page_of c.args.page c.args.pages) (has_page_of c.args.page c.args.pages)
          (cut_or_has c.args.page c.args.pages) c.split_ends.ensures.large c.clear_all.ensures.large;
    }

pub returns-then-pages-eq0-clause-unmapped : goal.returns-then-pages-eq0-clause-unmapped
returns-then-pages-eq0-clause-unmapped c = rw c.if-pages-eq0.true (none_unmapped c.args.self.now c.args.page)

pub clear_all-requires : goal.clear_all-requires
clear_all-requires c =
    let fits = open_range (goal.at.clear_all-requires c).In-None in
    record {
      range = fits.range;
      mapped = λ k lk. rw (c.split_ends.ensures.none.walks (c.args.page + k))
          (fits.mapped k lk);
      within = c.split_ends.ensures.within;
    }

pub returns-in-None-clause-change : goal.returns-in-None-clause-change
returns-in-None-clause-change c = made_flushed c.in-None.ensures.fault (none_only c.split_ends.ensures.none c.clear_all.ensures.only)
