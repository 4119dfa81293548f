use Rattle.std.proofs.Common.{sym, ◌∙◌, rules, arith}
use Rattle.meminterval.proofs.Ends.{ends_left, ends_middle, ends_right, length_mapped}
use Rattle.meminterval.proofs.Parts.{searchable_left, searchable_right}
use Rattle.meminterval.proofs.Trees.{length_fork}
use Rattle.meminterval.proofs.shortening.+shorten_below.Goals as goal

pub shorten_below-requires : goal.shorten_below-requires
shorten_below-requires g t c =
    let s = rw c.in-Fork.is at c.requires.searchable in
    let higher = rw c.in-Fork.is at c.decreases in
    λ κs h. rw c.split-left.ensures.left (
      omega (arith, higher),
      (search rules, (search rules, (c.requires.clones, searchable_left g.T.Ord.cmp c.in-Fork.node s))),
    )

pub shorten_below-requires-in-Greater : goal.shorten_below-requires-in-Greater
shorten_below-requires-in-Greater g t c =
    let s = rw c.in-Fork.is at c.requires.searchable in
    let higher = rw c.in-Fork.is at c.decreases in
    λ κs h. rw c.split-left.ensures.right (
      omega (arith, higher),
      (search rules, (search rules, (c.requires.clones, searchable_right g.T.Ord.cmp c.in-Fork.node s))),
    )

pub fork-requires-clause-room : goal.fork-requires-clause-room
fork-requires-clause-room g t c =
    let few = rw (c.in-Fork.is, length_fork) at c.requires.searchable.few in
    rw (c.shorten_below.ensures.tree, c.split-left.ensures.left, c.split-left.ensures.right, length_mapped) (omega (arith, few))

pub fork-requires-in-Greater-clause-room : goal.fork-requires-in-Greater-clause-room
fork-requires-in-Greater-clause-room g t c =
    let few = rw (c.in-Fork.is, length_fork) at c.requires.searchable.few in
    rw (c.shorten_below-in-Greater.ensures.tree, c.split-left.ensures.left, c.split-left.ensures.right, length_mapped) (omega (arith, few))

pub returns-in-Less-clause-tree : goal.returns-in-Less-clause-tree
returns-in-Less-clause-tree g t c =
    let s = rw c.in-Fork.is at c.requires.searchable.ordered in
    let h = rw c.deref.ensures at (sym c.cmp-order.ensures ∙ c.in-Less.is) in
    rw (
      c.fork.ensures.tree,
      c.shorten_below.ensures.tree,
      c.split-left.ensures.left,
      c.split-left.ensures.interval,
      c.split-left.ensures.value,
      c.split-left.ensures.right,
      c.in-Fork.is,
    )
    (sym (ends_left g.T.Ord.cmp g.met.T.Ord.total c.args.interval.now c.args.end _ _ _ s h))

pub returns-in-Equal-clause-tree : goal.returns-in-Equal-clause-tree
returns-in-Equal-clause-tree g t c =
    let s = rw c.in-Fork.is at c.requires.searchable.ordered in
    let h = rw c.deref.ensures at (sym c.cmp-order.ensures ∙ c.in-Equal.is) in
    rw (
      c.fork-in-Equal.ensures.tree,
      c.deref_mut.ensures.value,
      c.split-left.ensures.left,
      c.split-left.ensures.interval,
      c.split-left.ensures.value,
      c.split-left.ensures.right,
      c.in-Fork.is,
    )
    (sym (ends_middle g.T.Ord.cmp g.met.T.Ord.total c.args.interval.now c.args.end _ _ _ s h))

pub returns-in-Greater-clause-tree : goal.returns-in-Greater-clause-tree
returns-in-Greater-clause-tree g t c =
    let s = rw c.in-Fork.is at c.requires.searchable.ordered in
    let h = rw c.deref.ensures at (sym c.cmp-order.ensures ∙ c.in-Greater.is) in
    rw (
      c.fork-in-Greater.ensures.tree,
      c.shorten_below-in-Greater.ensures.tree,
      c.split-left.ensures.left,
      c.split-left.ensures.interval,
      c.split-left.ensures.value,
      c.split-left.ensures.right,
      c.in-Fork.is,
    )
    (sym (ends_right g.T.Ord.cmp g.met.T.Ord.total c.args.interval.now c.args.end _ _ _ s h))
