use Rattle.std.proofs.Common.{arith}
use Rattle.paged_systems.proofs.ByteRuns.{word_bytes}
use Rattle.paged_systems.proofs.paged_bytes.word_of_bytes.Goals as goal

pub returns : goal.returns
returns c = word_bytes c.args.bytes.now c.copy_from_slice.new.self c.from_le_bytes.result c.args.place
    (λ i less. grind (arith, c.type_inv.bytes i)) (omega (arith, c.copy_from_slice.ensures.len)) c.requires
    c.copy_from_slice.ensures.after c.from_le_bytes.ensures
