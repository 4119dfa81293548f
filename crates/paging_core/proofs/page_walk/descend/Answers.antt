use Rattle.std.proofs.Common.{◌≡◌, ◌+◌, ◌-◌, ◌∙◌, ◌%◌, ap, sym, arith, None, Some}
use Rattle.std.specs.Option.{option_map}
use Rattle.paging_core.specs.Prefix.{prefix_of}
use Rattle.paging_core.specs.Walk.{step, reach, next_from, mapped_place}
use Rattle.paging_core.proofs.Prefixes.{reach_root, reach_prefix, none_below}
use Rattle.paging_core.proofs.page_walk.descend.Goals as goal

pub loop-level-init : goal.loop-level-init
loop-level-init g c = record {
  met = reach_root (g.M.PhysicalMemory.words c.args.frames.now) c.args.root c.args.page ∙ ap (λ at. Some (mapped_place at)) (sym c.full-at.ensures);
  below = rw c.full-at.ensures c.requires.root;
}

pub loop-level-preserved : goal.loop-level-preserved
loop-level-preserved g c = record {
  met =
      let e = reach_prefix (g.M.PhysicalMemory.words c.args.frames.now) c.args.root c.args.page c.loop-level.level (omega arith) in
      e ∙ (ap (λ o. next_from (g.M.PhysicalMemory.words c.args.frames.now) c.loop-level.level o
      (prefix_of c.args.page (c.loop-level.level + 1) % 512)) c.loop-level.invariant.met
      ∙ (ap (step (g.M.PhysicalMemory.words c.args.frames.now) c.loop-level.level (mapped_place c.loop-level.at))
      (sym c.index_after.ensures.value) ∙ sym c.in_ok-at.ensures.step));
  below = c.in_ok-at.ensures.below;
}

pub returns-in_err-at : goal.returns-in_err-at
returns-in_err-at g c =
    let e = reach_prefix (g.M.PhysicalMemory.words c.args.frames.now) c.args.root c.args.page c.loop-level.level (omega arith) in
    let none : reach (g.M.PhysicalMemory.words c.args.frames.now) c.args.root (c.loop-level.level + 1) (prefix_of c.args.page (c.loop-level.level + 1)) ≡ None =
    e ∙ (ap (λ o. next_from (g.M.PhysicalMemory.words c.args.frames.now) c.loop-level.level o
    (prefix_of c.args.page (c.loop-level.level + 1) % 512)) c.loop-level.invariant.met
    ∙ (ap (step (g.M.PhysicalMemory.words c.args.frames.now) c.loop-level.level (mapped_place c.loop-level.at))
    (sym c.index_after.ensures.value) ∙ sym c.in_err-at.ensures.step)) in
    let z : (c.loop-level.level + 1) + (c.args.levels - (c.loop-level.level + 1)) ≡ c.args.levels = omega arith in
    let h = none_below (g.M.PhysicalMemory.words c.args.frames.now) c.args.root c.args.page (c.loop-level.level + 1)
    (c.args.levels - (c.loop-level.level + 1)) (omega arith) none in
    let k : reach (g.M.PhysicalMemory.words c.args.frames.now) c.args.root c.args.levels (prefix_of c.args.page c.args.levels) ≡ None = rw z at h in
    record { reach = ap (option_map mapped_place) c.from_residual.ensures ∙ sym k; below = rw c.from_residual.ensures tt }
