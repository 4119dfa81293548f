use Rattle.std.proofs.Common.{◌+◌, sym, ap, arith}
use Rattle.paging_core.specs.Pool.{free_count}
use Rattle.kernel_tables.specs.Grants.{given_by, user_of}
use Rattle.kernel_tables.proofs.Changed.{none_only, made_flushed}
use Rattle.kernel_tables.proofs.RangeChanged.{HasNoProtectFault, no_protect_fault, none_granted, still_open}
use Rattle.kernel_tables.proofs.SlotChanges.{granted_then}
use Rattle.kernel_tables.proofs.KeptWords.{words_then}
use Rattle.kernel_tables.proofs.tables.Tables.grant_range.Goals as goal
use Rattle.kernel_tables.proofs.tables.Tables.grant_range.Goals.{In-None}

open_range : (c : goal.In-None) → HasNoProtectFault c.args.self.now c.args.page c.args.pages (user_of c.args.grant)
open_range c = no_protect_fault c.args.self.now c.args.page c.args.pages (user_of c.args.grant) (omega (arith, c.if-pages-eq0.false))
    c.in-None.ensures.canonical (sym c.in-None.ensures.fault)

pub split_ends-requires-clause-range : goal.split_ends-requires-clause-range
split_ends-requires-clause-range c = (open_range (goal.at.split_ends-requires-clause-range c).In-None).change.range

pub split_ends-requires-clause-room : goal.split_ends-requires-clause-room
split_ends-requires-clause-room c = (open_range (goal.at.split_ends-requires-clause-room c).In-None).change.room

pub returns-in-None-clause-granted : goal.returns-in-None-clause-granted
returns-in-None-clause-granted c =
    let f = c.split_ends.ensures.free in
    let g = ap free_count c.grant_all.ensures.free in
    record {
      granted = λ k lk. rw (sym (c.split_ends.ensures.none.walks (c.args.page + k))) (c.grant_all.ensures.granted k lk);
      free = omega (arith, f, g);
      words = words_then c.split_ends.ensures.words c.grant_all.ensures.words c.split_ends.ensures.none.tables c.grant_all.ensures.only.tables (λ other e. e) (λ other e. e);
      large = granted_then c.args.self.now c.split_ends.new.self c.grant_all.new.self c.args.page c.args.pages (given_by c.args.grant)
          c.split_ends.ensures.large c.grant_all.ensures.large;
    }

pub returns-then-pages-eq0-clause-granted : goal.returns-then-pages-eq0-clause-granted
returns-then-pages-eq0-clause-granted c = rw c.if-pages-eq0.true (none_granted c.args.self.now c.args.page (given_by c.args.grant))

pub grant_all-requires-clause-hidden : goal.grant_all-requires-clause-hidden
grant_all-requires-clause-hidden c = λ k lk.
    let none = c.split_ends.ensures.none in
    still_open c.args.self.now c.split_ends.new.self (c.args.page + k) (user_of c.args.grant) none.place.area (none.walks (c.args.page + k))
    ((open_range (goal.at.grant_all-requires-clause-hidden c).In-None).hidden k lk)

pub grant_all-requires-clause-whole : goal.grant_all-requires-clause-whole
grant_all-requires-clause-whole c =
    let fits = (open_range (goal.at.grant_all-requires-clause-whole c).In-None).change in
    record {
      range = fits.range;
      mapped = λ k lk. rw (c.split_ends.ensures.none.walks (c.args.page + k))
          (fits.mapped k lk);
      within = c.split_ends.ensures.within;
    }

pub returns-in-None-clause-change : goal.returns-in-None-clause-change
returns-in-None-clause-change c = made_flushed c.in-None.ensures.fault (none_only c.split_ends.ensures.none c.grant_all.ensures.only)
