use Rattle.std.proofs.Common.{◌^◌, List, subst, arith}
use Rattle.machine_model.specs.declared.region.Region.{Region}
use Rattle.meminterval.specs.Tree.{entries}
use Rattle.mapped_regions.specs.Regions.{AreLaid}
use Rattle.mapped_regions.proofs.Changes.{follow_length}
use Rattle.mapped_regions.proofs.Listing.{laid}
use Rattle.mapped_regions.proofs.region_tree.RegionTree.count.Goals as goal

pub returns-clause-laid : goal.returns-clause-laid
returns-clause-laid c = subst (λ (rs : List Region). AreLaid 0 rs (2 ^ 64)) c.self.view_is
    (laid 0 (entries c.self.inside.tree) (2 ^ 52) c.self.invariant.follow)

pub returns-clause-few : goal.returns-clause-few
returns-clause-few c = let few = follow_length 0 (entries c.self.inside.tree) (2 ^ 52) c.self.invariant.follow in omega (arith, few, c.size.ensures.count)
