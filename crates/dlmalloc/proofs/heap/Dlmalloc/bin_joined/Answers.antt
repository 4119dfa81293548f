use Rattle.dlmalloc.proofs.Names.{inl, inr, [], ◌-◌}
use Rattle.dlmalloc.proofs.Bins.Changes.{not_rebinned, none_binned}
use Rattle.dlmalloc.proofs.Bins.Order.{added_none, added_as}
use Rattle.dlmalloc.proofs.heap.Dlmalloc.bin_joined.Goals as goal

-- it became the top
pub returns-then-from-self-clause-binned : goal.returns-then-from-self-clause-binned
returns-then-from-self-clause-binned g c = λ b. (
  none_binned b (λ n free. absurd (elim (c.requires.joined) [ inl top ↦ top.1 n free | inr beside ↦ beside.0 c.if-from-self.true ])),
  added_none (c.args.to - c.args.from) c.args.from b.index,
)

pub returns-then-from-self-clause-same : goal.returns-then-from-self-clause-same
returns-then-from-self-clause-same g c = not_rebinned g.A.Links.follows c.requires.sound (g.A.Links.follows_none c.args.self.now.system)

-- it is the victim
pub returns-then-from-self-2-clause-binned : goal.returns-then-from-self-2-clause-binned
returns-then-from-self-2-clause-binned g c = λ b. (none_binned b (λ n free. c.if-from-self-2.true), added_none (c.args.to - c.args.from) c.args.from b.index)

pub returns-then-from-self-2-clause-same : goal.returns-then-from-self-2-clause-same
returns-then-from-self-2-clause-same g c = not_rebinned g.A.Links.follows c.requires.sound (g.A.Links.follows_none c.args.self.now.system)

-- it goes into its bin
pub bin-requires : goal.bin-requires
bin-requires g c = record {
  sound = c.requires.sound;
  free = elim (c.requires.joined) [ inl top ↦ absurd (c.if-from-self.false top.0) | inr beside ↦ beside.1 ];
  other = c.if-from-self-2.false;
  loose = ([], c.requires.loose);
}

pub returns-clause-binned : goal.returns-clause-binned
returns-clause-binned g c = λ b.
    let after = c.bin.ensures.bins.binned [] b (λ none. none) in
    (after.0, added_as (c.args.to - c.args.from) c.args.from b.index after.0.index after.1)
