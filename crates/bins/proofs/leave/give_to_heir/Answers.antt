use Rattle.bins.proofs.leave.give_to_heir.Goals as goal

pub returns-clause-given : goal.returns-clause-given
returns-clause-given g c =
    let turned = rw c.load_counted-last.ensures.value at c.turn_heir.ensures.turned in
    let placed = rw (c.turn_heir.ensures.work.regions, c.load_counted-child0.ensures.value, c.load_counted-child1.ensures.value) at c.place_node.ensures.placed in
    (g.M.Links.word c.turn_heir.new.memory, (turned, placed))
