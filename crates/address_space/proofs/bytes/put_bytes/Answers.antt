use Rattle.std.proofs.Common.{arith, refl, slice_index}
use Rattle.address_space.proofs.WordBytes.{none_put, one_put}
use Rattle.address_space.proofs.bytes.put_bytes.Goals as goal

pub loop-step-init : goal.loop-step-init
loop-step-init c = none_put c.args.words.now c.args.bytes.now c.args.offset

pub loop-step-preserved : goal.loop-step-preserved
loop-step-preserved c =
    let less = c.loop-step-test.true in
    let fits = c.requires.fits in
    one_put c.args.words.now c.loop-step.words c.args.bytes.now c.args.offset c.loop-step.step c.with_byte.result
    (slice_index c.args.bytes.now c.loop-step.step) c.loop-step.invariant (omega (arith, less, fits)) refl
    c.with_byte.ensures.here c.with_byte.ensures.others
