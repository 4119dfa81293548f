use Rattle.std.proofs.Common.{rules, ◌≡◌, ◌+◌, ◌-◌, ◌*◌, ◌/◌, ◌≤◌, ◌++◌, replicate, sym, ap, ◌∙◌, arith, append_assoc, IsOk}
use Rattle.std.proofs.lemmas.List.{append-nil, replicate-append-replicate}
use Rattle.std.specs.Vec.{vec_len, vec_capacity}
use Rattle.paging_core.proofs.memory.make_frames.Goals as goal

pub loop-init : goal.loop-init
loop-init c =
    let e : c.len-counter.result ≡ vec_len c.args.words.now = c.len-counter.ensures in
    let whole : vec_len c.args.words.now ≡ 128 * (c.len-counter.result / 128) = omega (arith, c.requires.room.whole) in
    let none : 0 ≡ 128 * (c.len-counter.result / 128) - vec_len c.args.words.now = omega arith in
    (sym (append-nil c.args.words.now.items) ∙ ap (λ k. c.args.words.now.items ++ replicate k 0) none, (whole, (omega arith, omega arith)))

pub loop-preserved : goal.loop-preserved
loop-preserved c =
    let i = c.loop.invariant in
    let len : vec_len c.loop.words ≡ 128 * c.loop.counter = i.1.0 in
    let kept : vec_capacity c.args.words.now ≤ vec_capacity c.loop.words = i.1.1.1 in
    let fits : vec_len c.loop.words + 128 ≤ vec_capacity c.loop.words = omega (arith, len, kept, c.loop-test.true, c.requires.room.room) in
    let ok : IsOk c.extend_from_slice-made.result = c.extend_from_slice-made.ensures.succeeds fits in
    let more : (128 * c.loop.counter - vec_len c.args.words.now) + 128 ≡ 128 * (c.loop.counter + 1) - vec_len c.args.words.now = omega (arith, i.1.1.0) in
    let made : c.extend_from_slice-made.new.self.items ≡ c.loop.words.items ++ replicate 128 0 = search (rules, ok) in
    let longer : vec_len c.extend_from_slice-made.new.self ≡ vec_len c.loop.words + 128 = search (rules, ok) in (
      made
          ∙ (ap (λ xs. xs ++ replicate 128 0) i.0
          ∙ (append_assoc c.args.words.now.items (replicate (128 * c.loop.counter - vec_len c.args.words.now) 0) (replicate 128 0)
          ∙ (ap (λ zs. c.args.words.now.items ++ zs) (replicate-append-replicate (128 * c.loop.counter - vec_len c.args.words.now) 128 0)
          ∙ ap (λ k. c.args.words.now.items ++ replicate k 0) more))),
      (omega (arith, longer, len), (omega (arith, i.1.1.0), omega (arith, kept, c.extend_from_slice-made.ensures.capacity))),
    )
