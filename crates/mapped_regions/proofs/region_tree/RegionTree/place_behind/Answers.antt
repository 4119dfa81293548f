use Rattle.mapped_regions.proofs.Hint.{lowest_behind}
use Rattle.mapped_regions.proofs.region_tree.RegionTree.place_behind.Goals as goal

pub returns : goal.returns
returns c = lowest_behind c.place_from.result c.args.base c.args.hint c.args.pages c.args.n c.args.self.now c.requires.hint
    c.requires.some c.place_from.ensures
