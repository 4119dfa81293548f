use Rattle.std.proofs.Common.{◌∙◌, ◌^◌, ◌≤◌, arith, refl, sym, ap, subst, filter, length, List, [], ◌∷◌, ◌++◌}
use Rattle.std.specs.Prelude.{vec_capacity}
use Rattle.machine_model.specs.declared.region.Region.{Region}
use Rattle.meminterval.specs.Entry.{pair_of}
use Rattle.meminterval.specs.Tree.{entries}
use Rattle.mapped_regions.specs.Pairs.{region_of}
use Rattle.mapped_regions.proofs.Passed.{behind_first}
use Rattle.mapped_regions.proofs.Listing.{listed_none, listed_all, listed_on, heap_place, heap_more}
use Rattle.mapped_regions.proofs.region_tree.RegionTree.list_of_heap.Goals as goal

pub region-requires : goal.region-requires
region-requires c =
    let i = behind_first c.loop-entry.page 0 (entries c.self.inside.tree) (2 ^ 52) (pair_of c.in-Some.entry) c.self.invariant.follow (sym c.in-Some.ensures) in
    record { some = omega (arith, i.some); within = i.within; below = omega (arith, i.some, i.within) }

pub loop-entry-init : goal.loop-entry-init
loop-entry-init c = (
  [],
  listed_none (entries c.self.inside.tree) [] (2 ^ 52) c.self.invariant.follow refl,
  c.requires.empty,
  subst (λ (rs : List Region). length rs ≤ vec_capacity c.args.list) (sym c.self.view_is) c.requires.places,
)

pub push_of_heap-requires : goal.push_of_heap-requires
push_of_heap-requires c =
    let es = entries c.self.inside.tree in
    let i = c.loop-entry.invariant in
    let on = listed_on c.loop-entry.page es i.0 (2 ^ 52) (pair_of c.in-Some.entry) i.1 (sym c.in-Some.ensures) in
    let fewer = heap_place c.loop-entry.page es i.0 c.loop-entry.list.items (2 ^ 52) (vec_capacity c.loop-entry.list) (pair_of c.in-Some.entry) on i.2 i.3 in
    record { place = grind (arith, fewer, c.loop-entry.list.len) }

pub loop-entry-smaller : goal.loop-entry-smaller
loop-entry-smaller c =
    let i = behind_first c.loop-entry.page 0 (entries c.self.inside.tree) (2 ^ 52) (pair_of c.in-Some.entry) c.self.invariant.follow (sym c.in-Some.ensures) in
    omega (arith, i.starts, i.some, i.within)

pub loop-entry-preserved : goal.loop-entry-preserved
loop-entry-preserved c =
    let es = entries c.self.inside.tree in
    let next = pair_of c.in-Some.entry in
    let i = c.loop-entry.invariant in
    let on = listed_on c.loop-entry.page es i.0 (2 ^ 52) next i.1 (sym c.in-Some.ensures) in (
      i.0 ++ region_of next ∷ [],
      on.more,
      heap_more i.0 c.loop-entry.list.items c.push_of_heap.new.list.items c.region.result (region_of next) i.2 c.region.ensures c.push_of_heap.ensures.items,
      let e = c.push_of_heap.ensures.capacity in let p = i.3 in rw e p,
    )

pub returns : goal.returns
returns c =
    let i = c.loop-entry.invariant in
    c.from_vec.ensures ∙ (i.2 ∙ ap (filter (λ r. r.heap)) (listed_all c.loop-entry.page (entries c.self.inside.tree) i.0
    (2 ^ 52) i.1 (sym c.in_default.ensures) ∙ c.self.view_is))
