use Rattle.std.proofs.Common.{arith, ◌≡◌, ◌+◌, ◌*◌, ◌≤◌, length, refl, sym, ap, ◌∙◌}
use Rattle.std.specs.Vec.{vec_len}
use Rattle.paging_core.specs.Memory.{with_zeros}
use Rattle.paging_core.proofs.Words.{length-with_zeros, no_zeros, zeros_after_zeros}
use Rattle.paging_core.proofs.memory.clear_made.Goals as goal

pub loop-quarter-init : goal.loop-quarter-init
loop-quarter-init c = (sym (no_zeros c.args.words.now.items c.args.base), refl)

pub clear_quarter-requires : goal.clear_quarter-requires
clear_quarter-requires c =
    let len : vec_len c.args.words.now ≡ length c.args.words.now.items = c.args.words.now.ok.0 in
    let fits : c.args.base + 128 * c.loop-quarter.quarter ≤ length c.args.words.now.items = omega (arith, c.requires, c.loop-quarter-test.true) in
    let long : length c.loop-quarter.words.items ≡ length c.args.words.now.items =
    ap length c.loop-quarter.invariant.0 ∙ length-with_zeros c.args.words.now.items c.args.base (128 * c.loop-quarter.quarter) fits in
    let now : vec_len c.loop-quarter.words ≡ length c.loop-quarter.words.items = c.loop-quarter.words.ok.0 in
    omega (arith, c.requires, c.loop-quarter-test.true)

pub loop-quarter-preserved : goal.loop-quarter-preserved
loop-quarter-preserved c =
    let len : vec_len c.args.words.now ≡ length c.args.words.now.items = c.args.words.now.ok.0 in
    let fits : c.args.base + (128 * c.loop-quarter.quarter + 128) ≤ length c.args.words.now.items = omega (arith, c.requires, c.loop-quarter-test.true) in
    let next : 128 * c.loop-quarter.quarter + 128 ≡ 128 * (c.loop-quarter.quarter + 1) = omega arith in (
      c.clear_quarter.ensures.words
          ∙ (ap (λ xs. with_zeros xs (c.args.base + 128 * c.loop-quarter.quarter) 128) c.loop-quarter.invariant.0
          ∙ (zeros_after_zeros c.args.words.now.items c.args.base (128 * c.loop-quarter.quarter) 128 fits
          ∙ ap (λ n. with_zeros c.args.words.now.items c.args.base n) next)),
      c.clear_quarter.ensures.room ∙ c.loop-quarter.invariant.1,
    )
