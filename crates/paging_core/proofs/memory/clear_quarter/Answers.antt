use Rattle.std.proofs.Common.{arith, rules, ◌≡◌, ◌+◌, ◌-◌, length, replicate}
use Rattle.std.specs.Vec.{vec_len}
use Rattle.paging_core.proofs.Words.{zeros_copied}
use Rattle.paging_core.proofs.memory.clear_quarter.Goals as goal

pub returns-clause-words : goal.returns-clause-words
returns-clause-words c =
    let w : c.deref_mut.result.now ≡ c.args.words.now.items = c.deref_mut.ensures.value in
    let z : c.copy_from_slice.new.self ≡ replicate 128 0 = search rules in
    let n : c.args.start + 128 - c.args.start ≡ 128 = omega arith in
    let len : vec_len c.args.words.now ≡ length c.args.words.now.items = c.args.words.now.ok.0 in
    rw (w, n) (zeros_copied c.args.words.now.items c.copy_from_slice.new.self c.args.start 128 (vec_len c.args.words.now) len (omega (arith, c.requires)) z)
