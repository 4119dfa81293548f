use Rattle.std.proofs.Common.{arith, ◌∙◌, ap, sym, ◌≡◌, ◌*◌, ◌+◌, ◌-◌, ◌/◌, ◌%◌, ◌++◌, replicate, length, ◌≤◌, refl}
use Rattle.paging_core.proofs.Words.{run_copied, run_written, pasted}
use Rattle.paging_core.proofs.LateFrames.{pasted_made, filled_up, filled_up_made, length-filled_up, length_made}
use Rattle.paging_core.proofs.memory.Frames.write_words.Goals as goal

pub returns : goal.returns
returns c =
    let len : c.self.inside.words.len ≡ length c.self.inside.words.items = c.self.inside.words.ok.0 in
    let whole : c.self.inside.words.len % 512 ≡ 0 = c.self.invariant.0 in
    let within : c.self.inside.words.len ≤ 512 * c.self.inside.count = c.self.invariant.1.0 in
    let size : length c.args.self.now ≡ 512 * c.self.inside.count =
    sym (ap length c.self.view_is) ∙ length-filled_up c.self.inside.words.items c.self.inside.words.len (512 * c.self.inside.count) len within in
    let number : c.number.result ≡ c.args.frame = c.number.ensures.value in
    let more : c.self.inside.words.len + (512 * (512 * c.number.result / 512) + 512 - c.self.inside.words.len) ≤ 512 * c.self.inside.count = omega (arith, c.requires.frame) in
    let long : length c.reach.new.words.items ≡ length c.self.inside.words.items + (512 * (512 * c.number.result / 512) + 512 - c.self.inside.words.len) =
    length_made c.self.inside.words.items c.reach.new.words.items (512 * (512 * c.number.result / 512) + 512 - c.self.inside.words.len) c.reach.ensures.words in
    let same : filled_up c.reach.new.words.items c.reach.new.words.len (512 * c.self.inside.count) ≡ c.args.self.now =
    filled_up_made c.self.inside.words.items c.reach.new.words.items c.self.inside.words.len c.reach.new.words.len (512 * c.self.inside.count)
    (512 * (512 * c.number.result / 512) + 512 - c.self.inside.words.len) len c.reach.new.words.ok.0 c.reach.ensures.words more
    ∙ c.self.view_is in
    let w : c.deref_mut.result.now ≡ c.reach.new.words.items = c.deref_mut.ensures.value in
    let z : c.copy_from_slice.new.self ≡ c.args.words.now = c.copy_from_slice.ensures.after in
    let start = 512 * c.number.result + c.args.index in
    let n : start + length c.args.words.now - start ≡ length c.args.words.now = omega arith in
    let fits : start + length c.args.words.now ≤ length c.reach.new.words.items = omega (arith, c.requires.fits) in
    let rest = 512 * c.self.inside.count - c.reach.new.words.len in
    run_written c.args.self.now _ c.args.frame c.args.index c.args.words.now c.requires.frame c.requires.fits
    (rw (w, n, z)
    (ap (λ xs. xs ++ replicate rest 0)
    (run_copied c.reach.new.words.items c.args.words.now start (length c.args.words.now) c.reach.new.words.len c.reach.new.words.ok.0 fits refl)
    ∙ (sym (pasted_made c.reach.new.words.items (replicate rest 0) start c.args.words.now fits)
    ∙ (ap (λ xs. pasted xs start c.args.words.now) same ∙ ap (λ k. pasted c.args.self.now (512 * k + c.args.index) c.args.words.now) number))))
