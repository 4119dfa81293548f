use Rattle.std.proofs.Common.{◌∙◌, length, refl, None, subst, sym}
use Rattle.paged_systems.specs.System.{paged}
use Rattle.kernel_heap.proofs.BlockBytes.{in_block, refuse_same, step_written}
use Rattle.machine_model.specs.declared.call.Call.TheVariants.{Write}
use Rattle.machine_model.specs.declared.answer.Reply.TheVariants.{Done}
use Rattle.machine_model.specs.Machine.{IsStep}
use Rattle.kernel_heap.specs.Machine.{seen_with}
use Rattle.kernel_heap.proofs.Laid.{laid_still, seen_beside, still_none}
use Rattle.kernel_heap.proofs.Refused.{step_refused}
use Rattle.kernel_heap.proofs.Served.{served, served_refused}
use Rattle.kernel_heap.proofs.numbered_heap.NumberedHeap.write.Goals as goal

pub write_bytes-requires : goal.write_bytes-requires
write_bytes-requires c = record {
  inside = in_block c.args.self.now.heap c.args.self.now.blocks.items c.args.number c.args.offset (length c.args.bytes.now)
      c.in-Ok.address c.requires.sound c.in-Ok.ensures.ok;
}

pub returns-in-Ok-clause-sound : goal.returns-in-Ok-clause-sound
returns-in-Ok-clause-sound c =
    let kept = c.write_bytes.ensures.kept in
    laid_still c.args.self.now.heap c.write_bytes.new.heap c.args.self.now.blocks.items c.requires.sound kept.regions_same kept.still.0

pub returns-in-Ok-clause-ok : goal.returns-in-Ok-clause-ok
returns-in-Ok-clause-ok c = served tt tt (λ top s good stands.
    subst (IsStep s (Write c.args.number c.args.offset c.args.bytes.now)
    (record { reply = Done; regions = None; large = None })) (sym (seen_beside top c.args.self.now.heap
    c.write_bytes.new.heap c.args.self.now.blocks.items c.write_bytes.ensures.kept))
    (step_written c.args.self.now.heap c.args.self.now.blocks.items c.args.number c.args.offset (length c.args.bytes.now)
    c.in-Ok.address c.requires.sound c.in-Ok.ensures.ok s good stands
    (paged c.write_bytes.new.heap.system) c.args.bytes.now refl c.write_bytes.ensures.written))
    c.write_bytes.ensures.kept.still (λ same. absurd (cc))

pub returns-in-Err-clause-ok : goal.returns-in-Err-clause-ok
returns-in-Err-clause-ok c = served_refused c.in-Err.refusal c.refused.ensures (λ top s good stands.
    step_refused (seen_with top c.args.self.now) s (Write c.args.number c.args.offset c.args.bytes.now) c.in-Err.refusal
    (refuse_same (seen_with top c.args.self.now) s c.args.number c.args.offset (length c.args.bytes.now) stands ∙ c.in-Err.ensures.err) good stands)
    (still_none c.args.self.now.heap) (λ top. refl)
