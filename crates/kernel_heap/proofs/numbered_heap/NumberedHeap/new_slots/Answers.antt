use Rattle.std.proofs.Common.{rules}
use Rattle.kernel_heap.proofs.Laid.{laid_still, still_none}
use Rattle.kernel_heap.proofs.numbered_heap.NumberedHeap.new_slots.Goals as goal

pub returns-clause-sound : goal.returns-clause-sound
returns-clause-sound c =
    let kept = c.take_slots.ensures.kept in
    laid_still c.args.self.now.heap c.take_slots.new.heap c.args.self.now.blocks.items c.requires.sound kept.regions_same kept.still.0

pub returns-clause-told : goal.returns-clause-told
returns-clause-told c = record {
  none = search rules;
  slots = search rules;
  taken = search rules;
  rest = c.take_slots.ensures.kept.rest;
  blocks = search rules;
  still = c.take_slots.ensures.kept.still;
}

pub returns-then-marks-before-clause-told : goal.returns-then-marks-before-clause-told
returns-then-marks-before-clause-told c = record {
  none = search rules;
  slots = search rules;
  taken = search rules;
  rest = search rules;
  blocks = search rules;
  still = still_none c.args.self.now.heap;
}
