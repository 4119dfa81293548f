use Rattle.std.proofs.Common.{◌≡◌, suc, ◌-◌, ◌/◌, sym, ◌∙◌, refl, arith, inl}
use Rattle.meminterval.proofs.Descents.{ends, further, nothing, put_back, read_same, recorded_at, recorded_turn, turn_back}
use Rattle.meminterval.proofs.descent.TwiceWay.node_within.Goals as goal

pub returns-in_err-node : goal.returns-in_err-node
returns-in_err-node g c =
    let none = nothing (c.args.length / 2) c.args.length c.args.tree.now c.args.place (omega arith) (sym c.in_err-node.ensures.value) in
    rw c.from_residual.ensures (refl, record { lends = tt; value = sym none.0 })

pub returns-then-left-eq0 : goal.returns-then-left-eq0
returns-then-left-eq0 g c =
    let over = ends (c.args.length / 2) c.args.length c.args.tree.now c.args.place (omega arith) (sym c.left_after-left.ensures ∙ c.if-left-eq0.true) in
    (λ i. inl (c.in_ok-node.node.ghost_name, λ w. sym (over.1 w) i), record { lends = tt; value = c.in_ok-node.ensures.value ∙ sym over.0 })

pub rest-rest-requires : goal.rest-rest-requires
rest-rest-requires g c = (recorded_at g.T.Ord.cmp (c.args.length / 2) c.args.tree.now c.args.place c.requires.recorded
    c.in_ok-node.node.now (sym c.in_ok-node.ensures.value)).1

pub turn-requires : goal.turn-requires
turn-requires g c = (recorded_at g.T.Ord.cmp (c.args.length / 2) c.args.tree.now c.args.place c.requires.recorded
    c.in_ok-node.node.now (sym c.in_ok-node.ensures.value)).1

pub node_within-requires-2-clause-recorded : goal.node_within-requires-2-clause-recorded
node_within-requires-2-clause-recorded g c =
    let parts = recorded_at g.T.Ord.cmp (c.args.length / 2) c.args.tree.now c.args.place c.requires.recorded
    c.in_ok-node.node.now (sym c.in_ok-node.ensures.value) in
    rw c.turn.ensures.value (recorded_turn g.T.Ord.cmp c.in_ok-node.node.now (c.left_after-left.result - 1) parts.0 parts.1)

pub returns : goal.returns
returns g c =
    let half = c.args.length / 2 in
    let node = c.in_ok-node.node.now in
    let left = c.left_after-left.result in
    let more : left ≡ suc (left - 1) = omega (arith, c.if-left-eq0.false) in
    let there = sym c.in_ok-node.ensures.value in
    let on = further half half c.args.length c.args.tree.now c.args.place (omega (arith, c.requires.length)) node (left - 1) there
    (sym c.left_after-left.ensures ∙ more) in
    let found = rw (c.turn.ensures.value, c.rest-rest.ensures) at c.node_within-2.ensures.value in
    let back = put_back half c.args.tree.now c.args.place node there in (
      read_same _ (λ w. rw (c.turn.ensures.value, c.rest-rest.ensures) (sym (on.1 w)))
          (rw (c.turn.ensures.value, turn_back node (left - 1)) back),
      record { lends = tt; value = found ∙ sym on.0 },
    )
