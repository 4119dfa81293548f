use Rattle.std.proofs.Common.{refl}
use Rattle.std.specs.Prelude.{slice_index}
use Rattle.bins.proofs.TreeEntry.{IsTop, top_index, t_deep, t_range, t_whole, t_held, t_fresh, t_inserted, t_inserted_words}
use Rattle.bins.proofs.bins.Bins.insert_large.Goals as goal
use Rattle.bins.proofs.bins.Bins.insert_large.Goals.{After-bin_levels-levels}

-- the bin of the size, as the calls give it
top : (g : _) (c : After-bin_levels-levels g) →
    IsTop c.args.self.now c.compute_tree_index-bin.result c.args.size (slice_index c.args.self.now.roots c.compute_tree_index-bin.result)
    c.bin_low-low.result c.bin_levels-levels.result
top g c = record {
  in_bin = c.compute_tree_index-bin.ensures;
  small = c.ranges.size.fits;
  root_is = refl;
  low_is = c.bin_low-low.ensures;
  levels_is = c.bin_levels-levels.ensures;
}

pub plant-planted-requires-clause-deep : goal.plant-planted-requires-clause-deep
plant-planted-requires-clause-deep g c =
    let r = c.requires.linked in
    t_deep r.1 (top g (goal.at.plant-planted-requires-clause-deep g c).After-bin_levels-levels)

pub plant-planted-requires-clause-range : goal.plant-planted-requires-clause-range
plant-planted-requires-clause-range g c =
    let r = c.requires.linked in
    t_range r.1 (top g (goal.at.plant-planted-requires-clause-range g c).After-bin_levels-levels)

pub plant-planted-requires-clause-whole : goal.plant-planted-requires-clause-whole
plant-planted-requires-clause-whole g c =
    let r = c.requires.linked in
    t_whole r.1 (top g (goal.at.plant-planted-requires-clause-whole g c).After-bin_levels-levels)

pub plant-planted-requires-clause-held : goal.plant-planted-requires-clause-held
plant-planted-requires-clause-held g c =
    let r = c.requires.linked in
    let top = top g (goal.at.plant-planted-requires-clause-held g c).After-bin_levels-levels in
    (top_index r.1 top, (t_held r.1 top, t_fresh r.1 top r.2))

pub set_root-requires-clause-marked : goal.set_root-requires-clause-marked
set_root-requires-clause-marked g c = (c.requires.linked.1.large c.compute_tree_index-bin.result c.compute_tree_index-bin.ensures.within).marked

pub set_root-requires-clause-clear : goal.set_root-requires-clause-clear
set_root-requires-clause-clear g c = (c.requires.linked.1.large c.compute_tree_index-bin.result c.compute_tree_index-bin.ensures.within).clear

pub returns-clause-inserted : goal.returns-clause-inserted
returns-clause-inserted g c = record {
  linked = λ index linked fresh.
      let top = top g (goal.at.returns-clause-inserted g c).After-bin_levels-levels in
      let done = c.plant-planted.ensures in
      let held = t_held linked top in
      let own = t_fresh linked top fresh in
      let gained = done.gained (top_index linked top) held own in
      let linked = t_inserted linked top fresh (g.M.Links.word c.plant-planted.new.memory) gained.trie gained.words c.set_root.ensures in
      rw done.work.regions linked;
  words = λ index linked fresh.
      let top = top g (goal.at.returns-clause-inserted g c).After-bin_levels-levels in
      let done = c.plant-planted.ensures in
      let held = t_held linked top in
      let own = t_fresh linked top fresh in
      let gained = done.gained (top_index linked top) held own in
      t_inserted_words linked top fresh (g.M.Links.word c.plant-planted.new.memory) gained.trie gained.words c.set_root.ensures;
  asks = c.plant-planted.ensures.work.asks;
}
