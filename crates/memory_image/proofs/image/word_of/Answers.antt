use Rattle.std.proofs.Common.{◌≡◌, ◌+◌, ◌*◌, ◌/◌, ◌%◌, ℕ, slice_index, ap, ◌∙◌, arith}
use Rattle.memory_image.proofs.image.word_of.Goals as goal

pub returns : goal.returns
returns c =
    let n = c.args.number in
    let frame : c.containing_address-frame.result ≡ 8 * n / 4096 = c.containing_address-frame.ensures ∙ ap (λ (a : ℕ). a / 4096) c.new.ensures in
    let place : 512 * c.containing_address-frame.result + n % 512 ≡ n = omega (arith, frame) in
    c.word.ensures ∙ ap (λ (k : ℕ). slice_index c.args.frames.now k) place
