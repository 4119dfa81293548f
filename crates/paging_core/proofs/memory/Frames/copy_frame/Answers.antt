use Rattle.std.proofs.Common.{arith, ◌∙◌, rules, ap, sym, ◌≡◌, ◌*◌, ◌+◌, ◌-◌, ◌/◌, ◌%◌, ◌++◌, replicate, length, subst, ◌≤◌, max}
use Rattle.paging_core.specs.Memory.{IsFrameCopied}
use Rattle.paging_core.proofs.LateFrames.{copied_made, filled_up, filled_up_made, length-filled_up, length_made}
use Rattle.paging_core.proofs.memory.Frames.copy_frame.Goals as goal

pub returns : goal.returns
returns c =
    let it : IsFrameCopied c.reach.new.words.items c.copy_within.new.self.items c.args.from c.args.to = search rules in
    let len : c.self.inside.words.len ≡ length c.self.inside.words.items = c.self.inside.words.ok.0 in
    let whole : c.self.inside.words.len % 512 ≡ 0 = c.self.invariant.0 in
    let within : c.self.inside.words.len ≤ 512 * c.self.inside.count = c.self.invariant.1.0 in
    let size : length c.args.self.now ≡ 512 * c.self.inside.count =
    sym (ap length c.self.view_is) ∙ length-filled_up c.self.inside.words.items c.self.inside.words.len (512 * c.self.inside.count) len within in
    let source : c.number.result ≡ c.args.from = c.number.ensures.value in
    let target : c.number-2.result ≡ c.args.to = c.number-2.ensures.value in
    let last : c.max.result ≡ max (512 * c.number.result) (512 * c.number-2.result) = c.max.ensures in
    let more : c.self.inside.words.len + (512 * (c.max.result / 512) + 512 - c.self.inside.words.len) ≤ 512 * c.self.inside.count = omega (arith, c.requires.from, c.requires.to) in
    let long : length c.reach.new.words.items ≡ length c.self.inside.words.items + (512 * (c.max.result / 512) + 512 - c.self.inside.words.len) =
    length_made c.self.inside.words.items c.reach.new.words.items (512 * (c.max.result / 512) + 512 - c.self.inside.words.len) c.reach.ensures.words in
    let same : filled_up c.reach.new.words.items c.reach.new.words.len (512 * c.self.inside.count) ≡ c.args.self.now =
    filled_up_made c.self.inside.words.items c.reach.new.words.items c.self.inside.words.len c.reach.new.words.len (512 * c.self.inside.count)
    (512 * (c.max.result / 512) + 512 - c.self.inside.words.len) len c.reach.new.words.ok.0 c.reach.ensures.words more
    ∙ c.self.view_is in
    let from : 512 * c.args.from + 512 ≤ length c.reach.new.words.items = omega arith in
    let to : 512 * c.args.to + 512 ≤ length c.reach.new.words.items = omega arith in
    let zs = replicate (512 * c.self.inside.count - c.reach.new.words.len) 0 in
    let behind : zs ≡ replicate (512 * c.self.inside.count - c.copy_within.new.self.len) 0 =
    ap (λ k. replicate (512 * c.self.inside.count - k) 0) (sym c.copy_within.ensures.len) in
    subst (λ xs. IsFrameCopied xs (c.copy_within.new.self.items ++ replicate
    (512 * c.self.inside.count - c.copy_within.new.self.len) 0) c.args.from c.args.to) same
    (subst (λ ys. IsFrameCopied (c.reach.new.words.items ++ zs) (c.copy_within.new.self.items ++ ys) c.args.from c.args.to) behind
    (copied_made c.reach.new.words.items c.copy_within.new.self.items zs c.args.from c.args.to from to it))
