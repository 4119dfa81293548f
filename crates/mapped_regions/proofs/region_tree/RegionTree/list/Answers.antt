use Rattle.std.proofs.Common.{◌∙◌, ◌^◌, ◌≤◌, arith, sym, ap, subst, length, List, [], ◌∷◌, ◌++◌}
use Rattle.std.specs.Prelude.{vec_capacity}
use Rattle.machine_model.specs.declared.region.Region.{Region}
use Rattle.meminterval.specs.Entry.{pair_of}
use Rattle.meminterval.specs.Tree.{entries}
use Rattle.mapped_regions.proofs.Passed.{behind_first}
use Rattle.mapped_regions.proofs.Listing.{Listed, listed_none, listed_all, listed_on}
use Rattle.mapped_regions.proofs.region_tree.RegionTree.list.Goals as goal

pub region-requires : goal.region-requires
region-requires c =
    let i = behind_first c.loop-entry.at 0 (entries c.self.inside.tree) (2 ^ 52) (pair_of c.in-Some.entry) c.self.invariant.follow (sym c.in-Some.ensures) in
    record { some = omega (arith, i.some); within = i.within; below = omega (arith, i.some, i.within) }

pub loop-entry-init : goal.loop-entry-init
loop-entry-init c = record {
  listed = listed_none (entries c.self.inside.tree) c.args.list.items (2 ^ 52) c.self.invariant.follow c.requires.empty;
  places = subst (λ (rs : List Region). length rs ≤ vec_capacity c.args.list) (sym c.self.view_is) c.requires.places;
}

pub push_reserved-requires : goal.push_reserved-requires
push_reserved-requires c =
    let es = entries c.self.inside.tree in
    let on = listed_on c.loop-entry.at es c.loop-entry.list.items (2 ^ 52) (pair_of c.in-Some.entry) c.loop-entry.invariant.listed (sym c.in-Some.ensures) in
    let fewer = on.fewer in
    let places = c.loop-entry.invariant.places in
    grind (arith, fewer, places, c.loop-entry.list.len)

pub loop-entry-smaller : goal.loop-entry-smaller
loop-entry-smaller c =
    let i = behind_first c.loop-entry.at 0 (entries c.self.inside.tree) (2 ^ 52) (pair_of c.in-Some.entry) c.self.invariant.follow (sym c.in-Some.ensures) in
    omega (arith, i.starts, i.some, i.within)

pub loop-entry-preserved : goal.loop-entry-preserved
loop-entry-preserved c =
    let es = entries c.self.inside.tree in
    let next = pair_of c.in-Some.entry in
    let on = listed_on c.loop-entry.at es c.loop-entry.list.items (2 ^ 52) next c.loop-entry.invariant.listed (sym c.in-Some.ensures) in
    record {
      listed = subst (λ (rs : List Region). Listed next.0.end es rs (2 ^ 52))
          (ap (λ r. c.loop-entry.list.items ++ r ∷ []) (sym c.region.ensures) ∙ sym c.push_reserved.ensures.items) on.more;
      places = let e = c.push_reserved.ensures.capacity in let p = c.loop-entry.invariant.places in rw e p;
    }

pub returns : goal.returns
returns c = c.from_vec.ensures ∙ (listed_all c.loop-entry.at (entries c.self.inside.tree) c.loop-entry.list.items (2 ^ 52)
    c.loop-entry.invariant.listed (sym c.in_default.ensures) ∙ c.self.view_is)
