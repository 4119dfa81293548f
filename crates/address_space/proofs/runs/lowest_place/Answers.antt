use Rattle.std.proofs.Common.{◌^◌, ◌+◌, sym, arith}
use Rattle.meminterval.specs.Entry.{pair_of}
use Rattle.meminterval.specs.Tree.{entries}
use Rattle.address_space.proofs.Splits.{last_is, none_last}
use Rattle.address_space.proofs.Clear.{split_clear, split_last, split_none}
use Rattle.address_space.proofs.Places.{is_place, passed_on}
use Rattle.address_space.proofs.runs.lowest_place.Goals as goal

pub returns-in-None-clause-place : goal.returns-in-None-clause-place
returns-in-None-clause-place c =
    let es = entries c.args.runs.now in
    let at = c.loop-at.at in
    let end = at + c.args.pages in
    let within = c.if-pages-end.true in
    let below = c.loop-at-test.true in
    let window = c.requires.window in
    is_place es c.args.base c.args.end c.args.pages at c.loop-at.invariant (omega (arith, within, below))
    (split_clear at end es (2 ^ 52) (split_none at end es (2 ^ 52) (none_last end 0 es (2 ^ 52) c.requires.follow
    (omega (arith, within, below, window)) (sym c.in-None.ensures))))

pub returns-then-entry-at-clause-place : goal.returns-then-entry-at-clause-place
returns-then-entry-at-clause-place c =
    let es = entries c.args.runs.now in
    let at = c.loop-at.at in
    let end = at + c.args.pages in
    let within = c.if-pages-end.true in
    let below = c.loop-at-test.true in
    let window = c.requires.window in
    let i = last_is end 0 es (2 ^ 52) (pair_of c.in-Some.entry) c.requires.follow (omega (arith, within, below, window)) (sym c.in-Some.ensures) in
    is_place es c.args.base c.args.end c.args.pages at c.loop-at.invariant (omega (arith, within, below))
    (split_clear at end es (2 ^ 52) (split_last at end es (2 ^ 52) (pair_of c.in-Some.entry) i c.if-entry-at.true))

pub loop-at-preserved : goal.loop-at-preserved
loop-at-preserved c =
    let es = entries c.args.runs.now in
    let at = c.loop-at.at in
    let end = at + c.args.pages in
    let within = c.if-pages-end.true in
    let below = c.loop-at-test.true in
    let window = c.requires.window in
    let i = last_is end 0 es (2 ^ 52) (pair_of c.in-Some.entry) c.requires.follow (omega (arith, within, below, window)) (sym c.in-Some.ensures) in
    passed_on es c.args.base c.args.pages at (2 ^ 52) (pair_of c.in-Some.entry) c.requires.some c.loop-at.invariant i c.if-entry-at.false
