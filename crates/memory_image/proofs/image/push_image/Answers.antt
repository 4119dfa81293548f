use Rattle.std.proofs.Common.{string_bytes, ◌∙◌}
use Rattle.std.proofs.lemmas.Result.{on_ok_weaker}
use Rattle.memory_image.proofs.Whole.{whole}
use Rattle.memory_image.proofs.image.push_image.Goals as goal

pub returns : goal.returns
returns c = on_ok_weaker c.push_memory.result (λ written.
    whole c.args.machine.now c.system-system.result.now c.cpu.result.now c.as_slice.result.now c.frames.result.now
    (string_bytes c.args.out.now) (string_bytes c.push_registers.new.out) (string_bytes c.push_regions.new.out)
    (string_bytes c.push_memory.new.out)
    c.system-system.ensures c.cpu.ensures (c.as_slice.ensures ∙ c.in_ok-regions.ensures) c.frames.ensures
    c.in_ok-push_registers.ensures c.in_ok-push_regions.ensures written) c.push_memory.ensures
