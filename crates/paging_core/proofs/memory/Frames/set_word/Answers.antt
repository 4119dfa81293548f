use Rattle.std.proofs.Common.{arith, ◌∙◌, ap, sym, ◌≡◌, ◌*◌, ◌+◌, ◌-◌, ◌/◌, ◌%◌, ◌<◌, replicate, length, set, ◌≤◌}
use Rattle.std.proofs.lemmas.List.{set-append_left}
use Rattle.paging_core.proofs.LateFrames.{filled_up, filled_up_made, length-filled_up, length_made}
use Rattle.paging_core.proofs.memory.Frames.set_word.Goals as goal

pub returns : goal.returns
returns c =
    let len : c.self.inside.words.len ≡ length c.self.inside.words.items = c.self.inside.words.ok.0 in
    let whole : c.self.inside.words.len % 512 ≡ 0 = c.self.invariant.0 in
    let within : c.self.inside.words.len ≤ 512 * c.self.inside.count = c.self.invariant.1.0 in
    let size : length c.args.self.now ≡ 512 * c.self.inside.count =
    sym (ap length c.self.view_is) ∙ length-filled_up c.self.inside.words.items c.self.inside.words.len (512 * c.self.inside.count) len within in
    let number : c.number.result ≡ c.args.frame = c.number.ensures.value in
    let in_frame : (512 * c.number.result + c.args.index) / 512 ≡ c.number.result = omega (arith, c.requires.index) in
    let more : c.self.inside.words.len + (512 * ((512 * c.number.result + c.args.index) / 512) + 512 - c.self.inside.words.len) ≤ 512 * c.self.inside.count = omega (arith, c.requires.frame) in
    let long : length c.reach.new.words.items ≡ length
    c.self.inside.words.items + (512 * ((512 * c.number.result + c.args.index) / 512) + 512 - c.self.inside.words.len) =
    length_made c.self.inside.words.items c.reach.new.words.items
    (512 * ((512 * c.number.result + c.args.index) / 512) + 512 - c.self.inside.words.len) c.reach.ensures.words in
    let same : filled_up c.reach.new.words.items c.reach.new.words.len (512 * c.self.inside.count) ≡ c.args.self.now =
    filled_up_made c.self.inside.words.items c.reach.new.words.items c.self.inside.words.len c.reach.new.words.len (512 * c.self.inside.count)
    (512 * ((512 * c.number.result + c.args.index) / 512) + 512 - c.self.inside.words.len) len c.reach.new.words.ok.0 c.reach.ensures.words more
    ∙ c.self.view_is in
    let there : 512 * c.number.result + c.args.index < length c.reach.new.words.items = omega (arith, c.requires.index) in
    let rest = 512 * c.self.inside.count - c.reach.new.words.len in
    sym (set-append_left c.reach.new.words.items (replicate rest 0) (512 * c.number.result + c.args.index) c.args.value there)
    ∙ (ap (λ xs. set xs (512 * c.number.result + c.args.index) c.args.value) same ∙ ap (λ k. set c.args.self.now (512 * k + c.args.index) c.args.value) number)
