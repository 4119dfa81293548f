use Rattle.std.proofs.Common.{◌∙◌, ◌^◌, arith, sym, ap, subst, List, [], ◌∷◌, ◌++◌}
use Rattle.meminterval.specs.Entry.{pair_of}
use Rattle.meminterval.specs.Tree.{entries}
use Rattle.address_space.specs.declared.area.Area.{Area}
use Rattle.address_space.proofs.Listing.{Listed, listed_none, listed_all, listed_on}
use Rattle.address_space.proofs.runs.list.Goals as goal

pub loop-entry-init : goal.loop-entry-init
loop-entry-init c = listed_none (entries c.args.runs.now) c.new-list.result.items (2 ^ 52) c.requires c.new-list.ensures.items

pub area-requires-clause-some : goal.area-requires-clause-some
area-requires-clause-some c = let on = listed_on c.loop-entry.at (entries c.args.runs.now) c.loop-entry.list.items (2 ^ 52)
    (pair_of c.in-Some.entry) c.loop-entry.invariant (sym c.in-Some.ensures) in omega (arith, on.some)

pub area-requires-clause-below : goal.area-requires-clause-below
area-requires-clause-below c = let on = listed_on c.loop-entry.at (entries c.args.runs.now) c.loop-entry.list.items (2 ^ 52)
    (pair_of c.in-Some.entry) c.loop-entry.invariant (sym c.in-Some.ensures) in omega (arith, on.some, on.within)

pub loop-entry-smaller : goal.loop-entry-smaller
loop-entry-smaller c = let on = listed_on c.loop-entry.at (entries c.args.runs.now) c.loop-entry.list.items (2 ^ 52)
    (pair_of c.in-Some.entry) c.loop-entry.invariant (sym c.in-Some.ensures) in omega (arith, on.starts, on.some, on.within)

pub loop-entry-preserved : goal.loop-entry-preserved
loop-entry-preserved c =
    let es = entries c.args.runs.now in
    let next = pair_of c.in-Some.entry in
    let on = listed_on c.loop-entry.at es c.loop-entry.list.items (2 ^ 52) next c.loop-entry.invariant (sym c.in-Some.ensures) in
    subst (λ (rs : List Area). Listed next.0.end es rs (2 ^ 52)) (ap (λ r. c.loop-entry.list.items ++ r ∷ [])
    (sym c.area.ensures) ∙ sym c.in_ok-push.ensures.items) on.more

pub returns : goal.returns
returns c = c.from_vec.ensures ∙ listed_all c.loop-entry.at (entries c.args.runs.now) c.loop-entry.list.items (2 ^ 52)
    c.loop-entry.invariant (sym c.in_default.ensures)
