use Rattle.std.proofs.Common.{◌-◌, ◌*◌, ◌/◌, ◌^◌, ◌+◌, Some, arith, ap, sym, ◌∙◌}
use Rattle.std.proofs.lemmas.Nat.{and_mask}
use Rattle.paging_core.specs.Walk.{step, mapped_place}
use Rattle.paging_core.proofs.Counts.{reach_first, reach_on}
use Rattle.paging_core.proofs.missing.depth.Goals as goal

pub loop-met-init : goal.loop-met-init
loop-met-init g c = record {
  here = reach_first (g.M.PhysicalMemory.words c.args.frames.now) c.args.root c.args.prefix c.args.level c.requires.prefix
      ∙ ap (λ at. Some (mapped_place at)) (sym c.full-at.ensures);
  below = rw c.full-at.ensures c.requires.root;
}

pub loop-met-preserved : goal.loop-met-preserved
loop-met-preserved g c = record {
  here =
      reach_on (g.M.PhysicalMemory.words c.args.frames.now) c.args.root c.args.prefix c.args.level c.loop-met.met
      (mapped_place c.loop-met.at) (omega arith) (omega arith) c.loop-met.invariant.here
      ∙ (ap (step (g.M.PhysicalMemory.words c.args.frames.now) c.loop-met.met (mapped_place c.loop-met.at))
      (sym (and_mask (c.args.prefix / 2 ^ (9 * (c.args.level - (c.loop-met.met + 1)))) 9))
      ∙ sym c.in-Some.ensures.step);
  below = c.in-Some.ensures.below;
}

pub returns-in-None-clause-absent : goal.returns-in-None-clause-absent
returns-in-None-clause-absent g c = λ lt.
    reach_on (g.M.PhysicalMemory.words c.args.frames.now) c.args.root c.args.prefix c.args.level c.loop-met.met
    (mapped_place c.loop-met.at) (omega arith) lt c.loop-met.invariant.here
    ∙ (ap (step (g.M.PhysicalMemory.words c.args.frames.now) c.loop-met.met (mapped_place c.loop-met.at))
    (sym (and_mask (c.args.prefix / 2 ^ (9 * (c.args.level - (c.loop-met.met + 1)))) 9)) ∙ sym c.in-None.ensures.step)
