use Rattle.std.proofs.Common.{ℕ, ◌-◌, ◌≤◌, ◌∙◌, true, not, ap, arith}
use Rattle.bins.specs.Tries.{low_at, width}
use Rattle.bins.proofs.Taking.{t_slot, t_rest, sub_held}
use Rattle.bins.proofs.LeafUp.{RaisesLeaf, l_node, l_trie, l_words}
use Rattle.bins.proofs.leave.raise_leaf.Goals as goal
use Rattle.bins.proofs.leave.raise_leaf.Goals.{After-pick-child1}

-- what the calls tell of the leaf and of the children that it gets
raises : (g : _) (c : After-pick-child1 g) (deep : ℕ) → deep ≤ c.args.levels →
    RaisesLeaf (g.M.Links.regions c.args.memory.now) (g.M.Links.word c.args.memory.now)
    (g.M.Links.word c.take_leaf-leaf.new.memory) deep c.args.at c.args.is_upper
    c.args.child c.take_leaf-leaf.result c.rest_of-rest.result c.load_counted-other.result c.pick-child0.result c.pick-child1.result
raises g c deep less = record {
  child_is = c.requires.child.named;
  real = c.requires.child.real;
  taken = λ i b p l h. c.take_leaf-leaf.ensures.taken i b p l (deep - 1) (omega arith) h;
  no_rest = c.rest_of-rest.ensures.none;
  some_rest = c.rest_of-rest.ensures.same;
  other_is = c.load_counted-other.ensures.value ∙ ap (g.M.Links.word c.args.memory.now) c.slot_of.ensures;
  c0_is = c.pick-child0.ensures;
  c1_is = c.pick-child1.ensures;
}

pub slot_of-requires : goal.slot_of-requires
slot_of-requires g c = (t_slot c.requires.child.some c.requires.held.1.1.1.1 true).small

pub load_counted-other-requires : goal.load_counted-other-requires
load_counted-other-requires g c = rw c.slot_of.ensures ((t_slot c.requires.child.some c.requires.held.1.1.1.1 (not c.args.is_upper)).word)

pub take_leaf-leaf-requires-clause-held : goal.take_leaf-leaf-requires-clause-held
take_leaf-leaf-requires-clause-held g c =
    let r = c.requires.held in
    let deep = r.1.1.0 in
    let child = sub_held c.requires.child.some r.1.1.1.1 c.args.is_upper c.requires.child.named c.requires.child.real in
    let less = r.1.1.1.0 in
    (t_rest c.requires.child.some r.1.1.1.1, (c.args.bin, (c.args.at, (low_at c.args.is_upper r.1.0 (width (deep - 1)), (deep - 1, (omega arith, child))))))

pub place_node-requires : goal.place_node-requires
place_node-requires g c =
    let r = c.requires.held in
    let raises = raises g (goal.at.place_node-requires g c).After-pick-child1 r.1.1.0 r.1.1.1.0 in
    rw c.take_leaf-leaf.ensures.work.regions (l_node c.requires.child.some r.1.1.1.1 raises)

pub returns-clause-given : goal.returns-clause-given
returns-clause-given g c = λ index low deep less held.
    let raises = raises g (goal.at.returns-clause-given g c).After-pick-child1 deep less in
    let placed = rw c.take_leaf-leaf.ensures.work.regions at c.place_node.ensures.placed in
    record { trie = l_trie c.requires.child.some held raises placed; words = l_words c.requires.child.some held raises placed }
