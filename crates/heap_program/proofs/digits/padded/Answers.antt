use Rattle.std.proofs.Common.{length, replicate, ap, ◌∙◌, arith}
use Rattle.std.proofs.lemmas.Slice.{take-put_mid}
use Rattle.heap_program.proofs.digits.padded.Goals as goal

pub returns : goal.returns
returns c =
    let many = ap length c.copy_from_slice.ensures.after in
    take-put_mid 0 (length c.args.bytes.now) (replicate 32 0) c.copy_from_slice.new.self (length c.args.bytes.now)
    (omega (arith, many)) (omega arith) ∙ c.copy_from_slice.ensures.after
