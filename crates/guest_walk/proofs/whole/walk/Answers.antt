use Rattle.std.proofs.Common.{◌≡◌, ◌+◌, ◌∙◌, sym, ap, arith}
use Rattle.guest_walk.specs.GuestWalk.{by_entry, finding_of}
use Rattle.guest_walk.specs.Mode.{entry_seen}
use Rattle.guest_walk.specs.declared.walking.Found.{Found}
use Rattle.guest_walk.proofs.GuestSteps.{from_root, from_table}
use Rattle.guest_walk.proofs.whole.walk.Goals as goal
use Rattle.guest_walk.proofs.whole.walk.Goals.{After-past_entry}

-- the walk goes on from the entry that was read
onward : (c : goal.After-past_entry) →
    from_table c.args.mode c.args.width c.args.words.now c.args.page c.loop-step.step (finding_of c.loop-step.from)
    ≡ by_entry c.args.mode c.args.width c.args.words.now c.args.page c.loop-step.step (finding_of c.loop-step.from)
    (entry_seen c.args.mode c.loop-step.step c.entry_at-entry.result)
onward c =
    ap (λ entry. by_entry c.args.mode c.args.width c.args.words.now c.args.page c.loop-step.step (finding_of c.loop-step.from) (entry_seen c.args.mode c.loop-step.step entry))
    (sym c.entry_at-entry.ensures)

pub loop-step-init : goal.loop-step-init
loop-step-init c = record {
  in_time = omega arith;
  onward = from_root c.args.mode c.args.width c.args.words.now c.args.root c.args.page
      ∙ ap (λ at. from_table c.args.mode c.args.width c.args.words.now c.args.page 0 at) (sym c.root-from.ensures);
}

pub returns-in-End : goal.returns-in-End
returns-in-End c =
    sym (c.loop-step.invariant.onward ∙ (onward (goal.at.returns-in-End c).After-past_entry ∙ c.in-End.ensures.walk c.args.words.now))

pub loop-step-preserved : goal.loop-step-preserved
loop-step-preserved c = record {
  in_time = omega (arith, c.in-Table.ensures.in_time);
  onward = c.loop-step.invariant.onward ∙ (onward (goal.at.loop-step-preserved c).After-past_entry ∙ c.in-Table.ensures.walk c.args.words.now);
}
