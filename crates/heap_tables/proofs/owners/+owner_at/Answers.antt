use Rattle.std.proofs.Common.{rules, ◌≤◌, ◌<◌, ◌/◌, length, get_or, ◌∙◌, arith}
use Rattle.heap_tables.specs.Owners.{owned_end}
use Rattle.heap_tables.proofs.Halves.{none, upper_less, lower_less, upper_ascends, lower_ascends, owner_upper, owner_lower, owner_middle}
use Rattle.heap_tables.proofs.owners.+owner_at.Goals as goal

pub owner_at-requires : goal.owner_at-requires
owner_at-requires t c =
    let regions = c.args.regions.now in
    let some : 0 < length regions = search rules in
    let less = upper_less regions some in
    (search rules, upper_ascends regions c.requires)

pub owner_at-requires-then-address-region : goal.owner_at-requires-then-address-region
owner_at-requires-then-address-region t c =
    let regions = c.args.regions.now in
    let some : 0 < length regions = search rules in
    let less = lower_less regions some in
    (search rules, lower_ascends regions c.requires)

pub returns-then-end_of-from : goal.returns-then-end_of-from
returns-then-end_of-from t c =
    let regions = c.args.regions.now in
    let some : 0 < length regions = search rules in
    let past : owned_end (get_or regions (length regions / 2) none) ≤ c.args.address = omega (arith, c.if-end_of-from.true, c.end_of.ensures, c.from.ensures) in
    c.owner_at.ensures ∙ owner_upper regions c.args.address c.requires some past

pub returns-then-address-region : goal.returns-then-address-region
returns-then-address-region t c =
    let regions = c.args.regions.now in
    let some : 0 < length regions = search rules in
    c.owner_at-then-address-region.ensures ∙ owner_lower regions c.args.address c.requires some c.if-address-region.true

pub returns-else-address-region : goal.returns-else-address-region
returns-else-address-region t c =
    let regions = c.args.regions.now in
    let some : 0 < length regions = search rules in
    let from : (get_or regions (length regions / 2) none).start ≤ c.args.address = omega (arith, c.if-address-region.false) in
    let to : c.args.address < owned_end (get_or regions (length regions / 2) none) = omega (arith, c.if-end_of-from.false, c.end_of.ensures, c.from.ensures) in
    owner_middle regions c.args.address c.requires some from to
