use Rattle.std.proofs.Common.{refl}
use Rattle.std.specs.Prelude.{slice_index}
use Rattle.bins.proofs.TreeEntry.{IsTop, top_index, t_range, t_whole, t_held, t_in, t_real, t_unlinked, t_unlinked_words}
use Rattle.bins.proofs.bins.Bins.unlink_large.Goals as goal
use Rattle.bins.proofs.bins.Bins.unlink_large.Goals.{After-bin_levels-levels}

-- the bin of the size, as the calls give it
top : (g : _) (c : After-bin_levels-levels g) →
    IsTop c.args.self.now c.compute_tree_index-bin.result c.args.size (slice_index c.args.self.now.roots c.compute_tree_index-bin.result)
    c.bin_low-low.result c.bin_levels-levels.result
top g c = record {
  in_bin = c.compute_tree_index-bin.ensures;
  small = c.ranges.size.fits;
  root_is = refl;
  low_is = c.bin_low-low.ensures;
  levels_is = c.bin_levels-levels.ensures;
}

pub unlink_below-left-requires-clause-some : goal.unlink_below-left-requires-clause-some
unlink_below-left-requires-clause-some g c =
    let r = c.requires.linked in
    t_real r.1 (top g (goal.at.unlink_below-left-requires-clause-some g c).After-bin_levels-levels) c.args.chunk r.2

pub unlink_below-left-requires-clause-range : goal.unlink_below-left-requires-clause-range
unlink_below-left-requires-clause-range g c =
    let r = c.requires.linked in
    t_range r.1 (top g (goal.at.unlink_below-left-requires-clause-range g c).After-bin_levels-levels)

pub unlink_below-left-requires-clause-whole : goal.unlink_below-left-requires-clause-whole
unlink_below-left-requires-clause-whole g c =
    let r = c.requires.linked in
    t_whole r.1 (top g (goal.at.unlink_below-left-requires-clause-whole g c).After-bin_levels-levels)

pub unlink_below-left-requires-clause-held : goal.unlink_below-left-requires-clause-held
unlink_below-left-requires-clause-held g c =
    let r = c.requires.linked in
    let top = top g (goal.at.unlink_below-left-requires-clause-held g c).After-bin_levels-levels in
    (top_index r.1 top, (t_held r.1 top, t_in r.1 top c.args.chunk r.2))

pub set_root-requires-clause-marked : goal.set_root-requires-clause-marked
set_root-requires-clause-marked g c = (c.requires.linked.1.large c.compute_tree_index-bin.result c.compute_tree_index-bin.ensures.within).marked

pub set_root-requires-clause-clear : goal.set_root-requires-clause-clear
set_root-requires-clause-clear g c = (c.requires.linked.1.large c.compute_tree_index-bin.result c.compute_tree_index-bin.ensures.within).clear

pub returns-clause-unlinked : goal.returns-clause-unlinked
returns-clause-unlinked g c = record {
  linked = λ index linked is.
      let top = top g (goal.at.returns-clause-unlinked g c).After-bin_levels-levels in
      let done = c.unlink_below-left.ensures in
      let held = t_held linked top in
      let own = t_in linked top c.args.chunk is in
      let left = done.left (top_index linked top) held own in
      let linked = t_unlinked linked top c.args.chunk is (g.M.Links.word c.unlink_below-left.new.memory) left.trie left.words c.set_root.ensures in
      rw done.work.regions linked;
  words = λ index linked is.
      let top = top g (goal.at.returns-clause-unlinked g c).After-bin_levels-levels in
      let done = c.unlink_below-left.ensures in
      let held = t_held linked top in
      let own = t_in linked top c.args.chunk is in
      let left = done.left (top_index linked top) held own in
      t_unlinked_words linked top c.args.chunk is (g.M.Links.word c.unlink_below-left.new.memory) left.trie left.words c.set_root.ensures;
  asks = c.unlink_below-left.ensures.work.asks;
}
