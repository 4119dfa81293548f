use Rattle.std.proofs.Common.{◌≡◌, ◌++◌, ◌+◌, ◌-◌, ◌∷◌, [], max, refl, ap, sym, ◌∙◌, append_assoc, arith}
use Rattle.std.specs.Prelude.{vec_len}
use Rattle.std.proofs.lemmas.List.{append-nil}
use Rattle.paging_core.specs.Steps.{position}
use Rattle.x86_instructions.specs.Invlpgb.{turn_commands}
use Rattle.x86_instructions.proofs.Turns.{turn_commands-left, turn_commands-step, turn_commands-end}
use Rattle.x86_instructions.proofs.tlb.invlpgb.InvlpgbFlushBuilder.append_turns.Goals as goal

pub loop-left-init : goal.loop-left-init
loop-left-init g c =
    let size = g.S.PageSize.SIZE in
    let all = turn_commands-left size c.args.self.now (position size c.args.pages.now.start) (position size c.args.pages.now.end) in
    rw (c.len-left.ensures, all) (record { within = omega arith; made = refl; room = c.requires.room })

pub unwrap-page-requires : goal.unwrap-page-requires
unwrap-page-requires g c = c.backward_checked.ensures.some.1 c.loop-left.invariant.within

pub unwrap-requires : goal.unwrap-requires
unwrap-requires g c =
    let size = g.S.PageSize.SIZE in
    let next = turn_commands-step size c.args.self.now (position size c.args.pages.now.end) c.loop-left.left
    c.unwrap-page.result c.count-count.result c.turn.result
    c.loop-left-test.true c.loop-left.invariant.within (rw c.unwrap-page.ensures at c.backward_checked.ensures.page)
    (rw c.unwrap-page.ensures at c.backward_checked.ensures.place) c.count-count.ensures c.turn.ensures in
    c.push.ensures.succeeds (omega (arith, rw next at c.loop-left.invariant.room))

pub loop-left-preserved : goal.loop-left-preserved
loop-left-preserved g c =
    let size = g.S.PageSize.SIZE in
    let end = position size c.args.pages.now.end in
    let rest = turn_commands size c.args.self.now (end - (c.loop-left.left - max c.count-count.result 1)) end in
    let next : turn_commands size c.args.self.now (end - c.loop-left.left) end ≡ c.turn.result ∷ rest =
    turn_commands-step size c.args.self.now end c.loop-left.left c.unwrap-page.result c.count-count.result c.turn.result
    c.loop-left-test.true c.loop-left.invariant.within (rw c.unwrap-page.ensures at c.backward_checked.ensures.page)
    (rw c.unwrap-page.ensures at c.backward_checked.ensures.place) c.count-count.ensures c.turn.ensures in
    let pushed : c.push.new.self.items ≡ c.loop-left.commands.items ++ c.turn.result ∷ [] = rw c.unwrap.ensures at c.push.ensures.items in
    let longer : vec_len c.push.new.self ≡ vec_len c.loop-left.commands + 1 = rw c.unwrap.ensures at c.push.ensures.len in
    rw (c.from-left.ensures, c.max.ensures) (record {
      within = omega arith;
      made = ap (λ items. items ++ rest) pushed ∙ (append_assoc c.loop-left.commands.items (c.turn.result ∷ []) rest ∙ rw next at c.loop-left.invariant.made);
      room = omega (arith, longer, c.push.ensures.capacity, rw next at c.loop-left.invariant.room);
    })

pub returns : goal.returns
returns g c =
    let size = g.S.PageSize.SIZE in
    let end = position size c.args.pages.now.end in
    let none : turn_commands size c.args.self.now (end - c.loop-left.left) end ≡ [] =
    turn_commands-end size c.args.self.now (end - c.loop-left.left) end (omega arith) in
    sym (append-nil c.loop-left.commands.items) ∙ rw none at c.loop-left.invariant.made
