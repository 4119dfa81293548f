use Rattle.std.proofs.Common.{◌∙◌, refl, subst, sym}
use Rattle.paged_systems.specs.System.{paged}
use Rattle.paged_systems.specs.Written.{AreHeapBytes, AreRead}
use Rattle.kernel_heap.proofs.BlockBytes.{block_inside, in_block, refuse_same, step_read}
use Rattle.machine_model.specs.declared.call.Call.TheVariants.{Read}
use Rattle.kernel_heap.specs.Machine.{seen_with}
use Rattle.kernel_heap.proofs.Laid.{still_none}
use Rattle.kernel_heap.proofs.Refused.{step_refused}
use Rattle.kernel_heap.proofs.Served.{served, served_refused}
use Rattle.kernel_heap.proofs.numbered_heap.NumberedHeap.read.Goals as goal

pub read_bytes-requires : goal.read_bytes-requires
read_bytes-requires c = subst (λ system. AreHeapBytes (paged system) c.in-Ok.address c.args.count) (sym c.system.ensures)
    (block_inside c.args.self.now.heap c.find_bytes.ensures.placed c.in-Ok.address c.args.count
    (in_block c.args.self.now.heap c.args.self.now.blocks.items c.args.number c.args.offset c.args.count c.in-Ok.address c.requires.sound c.in-Ok.ensures.ok))

pub returns-in_ok-read_bytes-in-Ok : goal.returns-in_ok-read_bytes-in-Ok
returns-in_ok-read_bytes-in-Ok c = record {
  ok = served tt tt (λ top s good stands.
      step_read c.args.self.now.heap c.args.self.now.blocks.items c.args.number c.args.offset c.args.count c.in-Ok.address
      c.requires.sound c.in-Ok.ensures.ok s good stands
      c.in_ok-read_bytes-in-Ok.field-0 (subst (λ system. AreRead (paged system) c.in-Ok.address c.args.count
      c.in_ok-read_bytes-in-Ok.field-0) c.system.ensures c.in_ok-read_bytes-in-Ok.ensures))
      (still_none c.args.self.now.heap) (λ told top. refl);
}

pub returns-in-Err : goal.returns-in-Err
returns-in-Err c = record {
  ok = served_refused c.in-Err.refusal c.refused.ensures (λ top s good stands.
      step_refused (seen_with top c.args.self.now) s (Read c.args.number c.args.offset c.args.count) c.in-Err.refusal
      (refuse_same (seen_with top c.args.self.now) s c.args.number c.args.offset c.args.count stands ∙ c.in-Err.ensures.err) good stands)
      (still_none c.args.self.now.heap) (λ top. refl);
}
