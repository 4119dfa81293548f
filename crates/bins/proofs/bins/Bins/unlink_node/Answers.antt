use Rattle.std.proofs.Common.{arith}
use Rattle.heap_memory.specs.AskLaws.{asks_on}
use Rattle.bins.proofs.NodeLeaves.{IsReplaced, n_place, n_some, n_bin, n_held, n_marked, n_root, n_root_words, n_places, n_was, n_below, n_below_words}
use Rattle.bins.proofs.bins.Bins.unlink_node.Goals as goal
use Rattle.bins.proofs.bins.Bins.unlink_node.Goals.{After-replace_node-left}

-- the chunk was taken out of its trie
replaced : (g : _) (c : After-replace_node-left g) →
    IsReplaced (g.M.Links.regions c.args.memory.now) (g.M.Links.word c.args.memory.now) (g.M.Links.word c.replace_node-left.new.memory)
    c.args.chunk c.load_counted-parent.result c.load_counted-bin.result c.replace_node-left.result
replaced g c = record { left_is = c.replace_node-left.ensures.left }

pub overflow_add-chunk : goal.overflow_add-chunk
overflow_add-chunk g c =
    let r = c.requires.linked in
    let p = (n_place r.1.0 r.1.1.0 r.1.1.1.0 r.1.1.1.1.0 r.1.1.1.1.1 6 (omega arith) (omega arith)).small in omega (arith, p)

pub load_counted-parent-requires : goal.load_counted-parent-requires
load_counted-parent-requires g c =
    let r = c.requires.linked in
    (n_place r.1.0 r.1.1.0 r.1.1.1.0 r.1.1.1.1.0 r.1.1.1.1.1 6 (omega arith) (omega arith)).word

pub overflow_add-chunk-2 : goal.overflow_add-chunk-2
overflow_add-chunk-2 g c =
    let r = c.requires.linked in
    let p = (n_place r.1.0 r.1.1.0 r.1.1.1.0 r.1.1.1.1.0 r.1.1.1.1.1 7 (omega arith) (omega arith)).small in omega (arith, p)

pub load_counted-bin-requires : goal.load_counted-bin-requires
load_counted-bin-requires g c =
    let r = c.requires.linked in
    (n_place r.1.0 r.1.1.0 r.1.1.1.0 r.1.1.1.1.0 r.1.1.1.1.1 7 (omega arith) (omega arith)).word

pub replace_node-left-requires-clause-some : goal.replace_node-left-requires-clause-some
replace_node-left-requires-clause-some g c =
    let r = c.requires.linked in
    n_some r.1.0 r.1.1.0 r.1.1.1.0 r.1.1.1.1.0 r.1.1.1.1.1

pub replace_node-left-requires-clause-held : goal.replace_node-left-requires-clause-held
replace_node-left-requires-clause-held g c =
    let r = c.requires.linked in
    let parent = c.load_counted-parent in
    let bin = c.load_counted-bin in
    n_held r.1.0 r.1.1.0 r.1.1.1.0 r.1.1.1.1.0 r.1.1.1.1.1 parent.ensures.value bin.ensures.value

pub swap_root-requires-clause-within : goal.swap_root-requires-clause-within
swap_root-requires-clause-within g c =
    let r = c.requires.linked in
    let parent = c.load_counted-parent in
    let bin = c.load_counted-bin in
    (n_bin r.1.0 r.1.1.0 r.1.1.1.0 r.1.1.1.1.0 r.1.1.1.1.1 parent.ensures.value bin.ensures.value).within

pub swap_root-requires-clause-marked : goal.swap_root-requires-clause-marked
swap_root-requires-clause-marked g c =
    let r = c.requires.linked in
    let parent = c.load_counted-parent in
    let bin = c.load_counted-bin in
    n_marked r.1.0 r.1.1.0 r.1.1.1.0 r.1.1.1.1.0 r.1.1.1.1.1 parent.ensures.value bin.ensures.value c.if-parent-lt-LEAST_ADDRESS.true

pub swap_child-requires-clause-places : goal.swap_child-requires-clause-places
swap_child-requires-clause-places g c =
    let r = c.requires.linked in
    let parent = c.load_counted-parent in
    let bin = c.load_counted-bin in
    let left = c.replace_node-left in
    let replaced = replaced g (goal.at.swap_child-requires-clause-places g c).After-replace_node-left in
    rw left.ensures.work.regions (n_places r.1.0 r.1.1.0 r.1.1.1.0 r.1.1.1.1.0 r.1.1.1.1.1 parent.ensures.value bin.ensures.value
    replaced c.if-parent-lt-LEAST_ADDRESS.false)

pub swap_child-requires-clause-was : goal.swap_child-requires-clause-was
swap_child-requires-clause-was g c =
    let r = c.requires.linked in
    let parent = c.load_counted-parent in
    let bin = c.load_counted-bin in
    let replaced = replaced g (goal.at.swap_child-requires-clause-was g c).After-replace_node-left in
    n_was r.1.0 r.1.1.0 r.1.1.1.0 r.1.1.1.1.0 r.1.1.1.1.1 parent.ensures.value bin.ensures.value replaced c.if-parent-lt-LEAST_ADDRESS.false

pub returns-then-parent-lt-LEAST_ADDRESS-clause-unlinked : goal.returns-then-parent-lt-LEAST_ADDRESS-clause-unlinked
returns-then-parent-lt-LEAST_ADDRESS-clause-unlinked g c =
    let parent = c.load_counted-parent.ensures.value in
    let bin = c.load_counted-bin.ensures.value in
    let work = c.replace_node-left.ensures.work in
    let replaced = replaced g (goal.at.returns-then-parent-lt-LEAST_ADDRESS-clause-unlinked g c).After-replace_node-left in
    let low = c.if-parent-lt-LEAST_ADDRESS.true in
    record {
      linked = λ index size large linked is_in oldest.
          rw work.regions (n_root size large linked is_in oldest parent bin replaced low c.swap_root.ensures);
      words = λ index size large linked is_in oldest. n_root_words size large linked is_in oldest parent bin replaced low c.swap_root.ensures;
      asks = work.asks;
    }

pub returns-else-parent-lt-LEAST_ADDRESS-clause-unlinked : goal.returns-else-parent-lt-LEAST_ADDRESS-clause-unlinked
returns-else-parent-lt-LEAST_ADDRESS-clause-unlinked g c =
    let parent = c.load_counted-parent.ensures.value in
    let bin = c.load_counted-bin.ensures.value in
    let work = c.replace_node-left.ensures.work in
    let swap = c.swap_child.ensures.work in
    let replaced = replaced g (goal.at.returns-else-parent-lt-LEAST_ADDRESS-clause-unlinked g c).After-replace_node-left in
    let high = c.if-parent-lt-LEAST_ADDRESS.false in
    let word = g.M.Links.word c.swap_child.new.memory in
    let stored = rw work.regions at c.swap_child.ensures.stored in
    record {
      linked = λ index size large linked is_in oldest.
          rw (swap.regions, work.regions) (n_below size large linked is_in oldest parent bin replaced high word stored);
      words = λ index size large linked is_in oldest. n_below_words size large linked is_in oldest parent bin replaced high word stored;
      asks = asks_on work.asks swap.asks;
    }
