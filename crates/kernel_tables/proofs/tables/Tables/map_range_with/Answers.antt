use Rattle.std.proofs.Common.{refl, sym, arith}
use Rattle.kernel_tables.specs.Ranges.{IsMappableRange}
use Rattle.kernel_tables.proofs.Changed.{range_flush, made}
use Rattle.kernel_tables.proofs.RangeFaults.{no_range_fault, none_mapped}
use Rattle.kernel_tables.proofs.tables.Tables.map_range_with.Goals as goal
use Rattle.kernel_tables.proofs.tables.Tables.map_range_with.Goals.{In-None}

open_range : (c : goal.In-None) → IsMappableRange c.args.self.now c.args.page c.args.pages c.args.frame c.args.bits.user
open_range c = no_range_fault c.args.self.now c.args.page c.args.pages c.args.frame c.args.bits.user (omega (arith, c.if-pages-eq0.false))
    c.in-None.ensures.canonical (sym c.in-None.ensures.fault)

pub map_all-requires-clause-fits : goal.map_all-requires-clause-fits
map_all-requires-clause-fits c = c.in-None.ensures.fits refl

pub returns-then-pages-eq0-clause-mapped : goal.returns-then-pages-eq0-clause-mapped
returns-then-pages-eq0-clause-mapped c = rw c.if-pages-eq0.true (none_mapped c.args.self.now c.args.page c.args.frame c.args.bits)

pub map_all-requires-clause-mappable : goal.map_all-requires-clause-mappable
map_all-requires-clause-mappable c = open_range (goal.at.map_all-requires-clause-mappable c).In-None

pub returns-in-None-clause-change : goal.returns-in-None-clause-change
returns-in-None-clause-change c = made c.in-None.ensures.fault c.map_all.ensures.only (range_flush c.args.page c.args.pages
    (open_range (goal.at.returns-in-None-clause-change c).In-None).unmapped c.map_all.ensures.only)
