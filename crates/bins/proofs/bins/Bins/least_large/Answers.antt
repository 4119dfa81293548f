use Rattle.std.proofs.Common.{ℕ, List, inl, inr, ◌+◌, ◌^◌, [], refl, arith}
use Rattle.std.specs.Prelude.{slice_index}
use Rattle.dlmalloc_chunks.specs.Bins.{least_size}
use Rattle.bins.specs.Index.{from}
use Rattle.bins.specs.Tries.{width}
use Rattle.bins.specs.Linked.{IsLinked}
use Rattle.bins.proofs.TreeRanges.{end_normal, end_last}
use Rattle.bins.proofs.TreeEntry.{IsTop, t_below, t_range, t_whole}
use Rattle.bins.proofs.LeastLarge.{IsFoundAlone, read, none_from, lesser_fit, alone_some, alone_none, nothing_read, match_further}
use Rattle.bins.proofs.bins.Bins.least_large.Goals as goal
use Rattle.bins.proofs.bins.Bins.least_large.Goals.{After-bin_levels-levels, After-fit_below-fit}

-- the bin of the size, as the calls give it
top : (g : _) (c : After-bin_levels-levels g) →
    IsTop c.args.self.now c.compute_tree_index-bin.result c.args.size (slice_index c.args.self.now.roots c.compute_tree_index-bin.result)
    c.bin_low-low.result c.bin_levels-levels.result
top g c = record {
  in_bin = c.compute_tree_index-bin.ensures;
  small = c.ranges.size.fits;
  root_is = refl;
  low_is = c.bin_low-low.ensures;
  levels_is = c.bin_levels-levels.ensures;
}

pub path_bits-bits-requires-clause-below : goal.path_bits-bits-requires-clause-below
path_bits-bits-requires-clause-below g c =
    let r = c.requires.linked in
    t_below r.1 (top g (goal.at.path_bits-bits-requires-clause-below g c).After-bin_levels-levels)

pub path_bits-bits-requires-clause-whole : goal.path_bits-bits-requires-clause-whole
path_bits-bits-requires-clause-whole g c =
    let r = c.requires.linked in
    t_whole r.1 (top g (goal.at.path_bits-bits-requires-clause-whole g c).After-bin_levels-levels)

pub fit_below-fit-requires-clause-range : goal.fit_below-fit-requires-clause-range
fit_below-fit-requires-clause-range g c =
    let r = c.requires.linked in
    t_range r.1 (top g (goal.at.fit_below-fit-requires-clause-range g c).After-bin_levels-levels)

pub fit_below-fit-requires-clause-readable : goal.fit_below-fit-requires-clause-readable
fit_below-fit-requires-clause-readable g c =
    let r = c.requires.linked in
    let bin = c.compute_tree_index-bin.result in
    (from (least_size bin) r.0, read r.1 bin c.compute_tree_index-bin.ensures.within refl c.bin_low-low.ensures c.bin_levels-levels.ensures)

pub fit_below-fit-requires-clause-beside : goal.fit_below-fit-requires-clause-beside
fit_below-fit-requires-clause-beside g c =
    (λ m. [], (0, nothing_read (g.M.Links.regions c.args.memory.now) (g.M.Links.word c.args.memory.now) 0 c.bin_levels-levels.result))

-- what the search of the size's own trie gave
found : (g : _) (c : After-fit_below-fit g) (index : ℕ → List ℕ) →
    IsLinked (g.M.Links.regions c.args.memory.now) (g.M.Links.word c.args.memory.now) c.args.self.now index →
    IsFoundAlone (from (least_size c.compute_tree_index-bin.result) index) c.args.size (c.bin_low-low.result + width c.bin_levels-levels.result)
    (c.bin_low-low.result + width c.bin_levels-levels.result + width c.bin_levels-levels.result) c.fit_below-fit.result
found g c index linked =
    let bin = c.compute_tree_index-bin.result in
    let levels = c.bin_levels-levels.result in
    let high = c.bin_low-low.result + width levels in
    let read = read linked bin c.compute_tree_index-bin.ensures.within refl c.bin_low-low.ensures c.bin_levels-levels.ensures in
    let nothing = nothing_read (g.M.Links.regions c.args.memory.now) (g.M.Links.word c.args.memory.now) high levels in
    c.fit_below-fit.ensures.fit (from (least_size bin) index) read (λ m. []) high nothing (omega arith)

pub returns-then-fit-ne0-clause-fit : goal.returns-then-fit-ne0-clause-fit
returns-then-fit-ne0-clause-fit g c = λ index linked.
    let found = found g (goal.at.returns-then-fit-ne0-clause-fit g c).After-fit_below-fit index linked in
    let bin = c.compute_tree_index-bin.result in
    let lesser = alone_some linked bin c.args.size _ _ c.fit_below-fit.result c.if-fit-ne0.true found in
    lesser_fit linked bin c.args.size (inr c.compute_tree_index-bin.ensures.reached) lesser (inl (omega arith)) (inr (omega arith))

pub returns-then-bin-eq31-clause-fit : goal.returns-then-bin-eq31-clause-fit
returns-then-bin-eq31-clause-fit g c = λ index linked.
    let found = found g (goal.at.returns-then-bin-eq31-clause-fit g c).After-fit_below-fit index linked in
    let bin = c.compute_tree_index-bin.result in
    let none = alone_none linked bin c.args.size _ _ c.if-fit-ne0.false found in
    let end = end_last c.if-bin-eq31.true in
    let low = c.bin_low-low.ensures in
    let levels = c.bin_levels-levels.ensures in
    none_from linked (least_size bin) c.args.size (2 ^ 64) c.compute_tree_index-bin.ensures.reached
    (λ n a b. none n a (rw (low, levels) (omega (arith, end, b))))

pub returns-clause-fit : goal.returns-clause-fit
returns-clause-fit g c = λ index linked.
    let found = found g (goal.at.returns-clause-fit g c).After-fit_below-fit index linked in
    let bin = c.compute_tree_index-bin.result in
    let none = alone_none linked bin c.args.size _ _ c.if-fit-ne0.false found in
    let end = end_normal bin c.if-bin-eq31.false in
    let low = c.bin_low-low.ensures in
    let levels = c.bin_levels-levels.ensures in
    let within = c.compute_tree_index-bin.ensures.within in
    let other = c.if-bin-eq31.false in
    let last = c.compute_tree_index-bin.ensures.last (omega arith) in
    let before = none_from linked (least_size bin) c.args.size (least_size (bin + 1)) c.compute_tree_index-bin.ensures.reached
    (λ n a b. none n a (rw (low, levels) (omega (arith, end, b)))) in
    match_further index c.args.size (least_size (bin + 1)) (2 ^ 64) c.least_behind.result (omega (arith, last)) before (c.least_behind.ensures.fit index linked)
