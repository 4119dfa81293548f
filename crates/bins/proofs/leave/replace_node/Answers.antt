use Rattle.std.proofs.Common.{◌∙◌, sym, arith}
use Rattle.bins.proofs.Chunks.{chunk_place}
use Rattle.bins.proofs.Taking.{o}
use Rattle.bins.proofs.HeirPlaced.{h_here, h_turn, h_node}
use Rattle.bins.proofs.LeaveHere.{u_alone, u_left, u_heir}
use Rattle.bins.proofs.leave.replace_node.Goals as goal

pub overflow_add-at : goal.overflow_add-at
overflow_add-at g c =
    let r = c.requires.held in
    let held = r.1.1.1.1.1.0 in
    let place = chunk_place held.chunks held.large r.1.1.1.0 c.args.at 3 r.1.1.1.1.1.1 (omega arith) (omega arith) in
    omega (arith, place.small)

pub load_counted-heir-requires : goal.load_counted-heir-requires
load_counted-heir-requires g c =
    let r = c.requires.held in
    let held = r.1.1.1.1.1.0 in
    (chunk_place held.chunks held.large r.1.1.1.0 c.args.at 3 r.1.1.1.1.1.1 (omega arith) (omega arith)).word

pub returns-then-heir-at-clause-left : goal.returns-then-heir-at-clause-left
returns-then-heir-at-clause-left g c = λ index low deep size less held at_in.
    let one = u_alone c.requires.some held size at_in (sym c.load_counted-heir.ensures.value ∙ c.if-heir-at.true) in
    let given = c.give_to_leaf.ensures.given index low deep less held in
    record {
      trie = u_left (g.M.Links.word c.give_to_leaf.new.memory) index c.args.bin c.args.parent low deep c.args.at size
          c.give_to_leaf.result one (given.trie size one);
      words = given.words;
    }

pub give_to_heir-requires : goal.give_to_heir-requires
give_to_heir-requires g c =
    let held = c.requires.held.1.1.1.1.1.0 in
    let o = o c.requires.some held in
    let is = c.load_counted-heir.ensures.value in
    record {
      here = h_here held.chunks held.large o is c.if-heir-at.false;
      turn = h_turn held.chunks held.large o is c.if-heir-at.false;
      node = h_node held.chunks held.large o is c.if-heir-at.false;
    }

pub returns-clause-left : goal.returns-clause-left
returns-clause-left g c = λ index low deep size less held at_in.
    u_heir c.requires.some held size at_in c.load_counted-heir.ensures.value c.if-heir-at.false c.give_to_heir.ensures.given

pub give_to_leaf-requires-clause-held : goal.give_to_leaf-requires-clause-held
give_to_leaf-requires-clause-held g c = let r = c.requires.held in (r.0, (r.1.0, (r.1.1.0, (r.1.1.1.1.0, r.1.1.1.1.1.0))))
