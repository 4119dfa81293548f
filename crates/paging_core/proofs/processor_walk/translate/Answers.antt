use Rattle.std.proofs.Common.{◌≡◌, ◌+◌, ◌%◌, ◌∙◌, sym, ap, arith}
use Rattle.paging_core.specs.Memory.{word_at}
use Rattle.paging_core.specs.Prefix.{prefix_of}
use Rattle.paging_core.specs.Walk.{mapped_place}
use Rattle.paging_core.specs.ProcessorWalk.{index_of, by_entry}
use Rattle.paging_core.specs.declared.page_walk.Mapped.{Mapped}
use Rattle.paging_core.proofs.ProcessorSteps.{from_root, from_table, index_is}
use Rattle.paging_core.proofs.processor_walk.translate.Goals as goal
use Rattle.paging_core.proofs.processor_walk.translate.Goals.{After-past_entry}

-- the entry of the step was read
read : (c : goal.After-past_entry) →
    c.entry_at-entry.result ≡ word_at c.args.frames.now c.loop-step.from.frame (index_of c.loop-step.step c.args.page)
read c =
    c.entry_at-entry.ensures
    ∙ ap (word_at c.args.frames.now c.loop-step.from.frame)
    (c.index_after.ensures.value
    ∙ (ap (λ level. prefix_of c.args.page (level + 1) % 512) c.from.ensures ∙ index_is c.loop-step.step c.args.page (omega (arith, c.loop-step-test.true))))

-- the walk goes on from it
onward : (c : goal.After-past_entry) → from_table c.args.width c.args.frames.now c.args.page c.loop-step.step (mapped_place c.loop-step.from)
    ≡ by_entry c.args.width c.args.frames.now c.args.page c.loop-step.step (mapped_place c.loop-step.from) c.entry_at-entry.result
onward c = ap (by_entry c.args.width c.args.frames.now c.args.page c.loop-step.step (mapped_place c.loop-step.from)) (sym (read c))

pub loop-step-init : goal.loop-step-init
loop-step-init c = record {
  in_time = omega arith;
  onward = from_root c.args.width c.args.frames.now c.args.root c.args.page
      ∙ ap (λ (m : Mapped). from_table c.args.width c.args.frames.now c.args.page 0 (mapped_place m)) (sym c.full-from.ensures);
}

pub returns-in-End : goal.returns-in-End
returns-in-End c =
    sym (c.loop-step.invariant.onward ∙ (onward (goal.at.returns-in-End c).After-past_entry ∙ c.in-End.ensures.walk c.args.frames.now))

pub loop-step-preserved : goal.loop-step-preserved
loop-step-preserved c = record {
  in_time = omega (arith, c.in-Table.ensures.in_time);
  onward = c.loop-step.invariant.onward ∙ (onward (goal.at.loop-step-preserved c).After-past_entry ∙ c.in-Table.ensures.walk c.args.frames.now);
}
