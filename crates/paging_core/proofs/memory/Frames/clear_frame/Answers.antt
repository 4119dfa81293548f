use Rattle.std.proofs.Common.{arith, ◌∙◌, Vec, Global, ℕ, ap, sym, ◌≡◌, ◌*◌, ◌+◌, ◌-◌, ◌/◌, ◌%◌, ◌<◌, ◌++◌, replicate, length, ◌≤◌}
use Rattle.std.specs.Vec.{vec_len}
use Rattle.paging_core.specs.Memory.{with_zeros}
use Rattle.paging_core.proofs.Words.{length-with_zeros}
use Rattle.paging_core.proofs.LateFrames.{cleared_made, cleared_unmade, filled_up, filled_up_made, length-filled_up, length_made}
use Rattle.paging_core.proofs.memory.Frames.clear_frame.Goals as goal

-- the words stay as many
same_len : (words new : Vec ℕ Global) (base : ℕ) → base + 512 ≤ vec_len words → new.items ≡ with_zeros words.items base 512 → vec_len new ≡ vec_len words
same_len words new base fits e =
    let len : vec_len words ≡ length words.items = words.ok.0 in
    let len' : vec_len new ≡ length new.items = new.ok.0 in
    len' ∙ (ap length e ∙ (length-with_zeros words.items base 512 (omega arith) ∙ sym len))

pub invariant_of-self : goal.invariant_of-self
invariant_of-self c =
    let fits : 512 * c.number.result + 512 ≤ vec_len c.self.inside.words = omega (arith, c.if-base-len.true, c.len.ensures, c.self.invariant.0) in
    let len : vec_len c.clear_made.new.words ≡ vec_len c.self.inside.words =
    same_len c.self.inside.words c.clear_made.new.words (512 * c.number.result) fits c.clear_made.ensures.words in
    (omega (arith, c.self.invariant.0), (omega (arith, c.self.invariant.1.0), omega (arith, c.self.invariant.1.1, c.clear_made.ensures.room)))

pub returns-then-base-len : goal.returns-then-base-len
returns-then-base-len c =
    let len : c.self.inside.words.len ≡ length c.self.inside.words.items = c.self.inside.words.ok.0 in
    let made : 512 * c.number.result < c.self.inside.words.len = omega (arith, c.if-base-len.true, c.len.ensures) in
    let fits : 512 * c.number.result + 512 ≤ length c.self.inside.words.items = omega (arith, c.self.invariant.0) in
    let room : 512 * c.number.result + 512 ≤ vec_len c.self.inside.words = omega arith in
    let same : 512 * c.number.result ≡ 512 * c.args.frame = ap (λ k. 512 * k) c.number.ensures.value in
    let rest = 512 * c.self.inside.count - c.self.inside.words.len in
    ap (λ n. c.clear_made.new.words.items ++ replicate (512 * c.self.inside.count - n) 0)
    (same_len c.self.inside.words c.clear_made.new.words (512 * c.number.result) room c.clear_made.ensures.words)
    ∙ (ap (λ xs. xs ++ replicate rest 0) c.clear_made.ensures.words
    ∙ (sym (cleared_made c.self.inside.words.items (replicate rest 0) (512 * c.number.result) 512 fits)
    ∙ (ap (λ xs. with_zeros xs (512 * c.number.result) 512) c.self.view_is ∙ ap (λ b. with_zeros c.args.self.now b 512) same)))

pub returns-else-base-len : goal.returns-else-base-len
returns-else-base-len c =
    let len : c.self.inside.words.len ≡ length c.self.inside.words.items = c.self.inside.words.ok.0 in
    let whole : c.self.inside.words.len % 512 ≡ 0 = c.self.invariant.0 in
    let within : c.self.inside.words.len ≤ 512 * c.self.inside.count = c.self.invariant.1.0 in
    let size : length c.args.self.now ≡ 512 * c.self.inside.count =
    sym (ap length c.self.view_is) ∙ length-filled_up c.self.inside.words.items c.self.inside.words.len (512 * c.self.inside.count) len within in
    let number : c.number.result ≡ c.args.frame = c.number.ensures.value in
    let more : c.self.inside.words.len + (512 * (512 * c.number.result / 512) + 512 - c.self.inside.words.len) ≤ 512 * c.self.inside.count = omega (arith, c.requires) in
    let long : length c.make_frames.new.words.items ≡ length c.self.inside.words.items + (512 * (512 * c.number.result / 512) + 512 - c.self.inside.words.len) =
    length_made c.self.inside.words.items c.make_frames.new.words.items
    (512 * (512 * c.number.result / 512) + 512 - c.self.inside.words.len) c.make_frames.ensures.words in
    let same : filled_up c.make_frames.new.words.items c.make_frames.new.words.len (512 * c.self.inside.count) ≡ c.args.self.now =
    filled_up_made c.self.inside.words.items c.make_frames.new.words.items c.self.inside.words.len c.make_frames.new.words.len (512 * c.self.inside.count)
    (512 * (512 * c.number.result / 512) + 512 - c.self.inside.words.len) len c.make_frames.new.words.ok.0 c.make_frames.ensures.words more
    ∙ c.self.view_is in
    let rest = 512 * c.self.inside.count - c.self.inside.words.len in
    let from : length c.self.inside.words.items ≤ 512 * c.number.result = omega (arith, c.if-base-len.false, c.len.ensures) in
    let to : 512 * c.number.result + 512 ≤ length
    c.self.inside.words.items + (512 * c.self.inside.count - c.self.inside.words.len) = omega (arith, c.requires) in
    same
    ∙ (sym c.self.view_is
    ∙ (sym (cleared_unmade c.self.inside.words.items rest (512 * c.number.result) 512 from to)
    ∙ (ap (λ xs. with_zeros xs (512 * c.number.result) 512) c.self.view_is ∙ ap (λ k. with_zeros c.args.self.now (512 * k) 512) number)))
