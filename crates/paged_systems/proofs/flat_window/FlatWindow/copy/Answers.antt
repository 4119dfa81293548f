use Rattle.std.proofs.Common.{◌+◌, ◌-◌, ◌*◌, ◌∙◌, arith}
use Rattle.paged_systems.specs.FlatWindow.{flat_word}
use Rattle.paged_systems.proofs.FlatWindows.{put_none, put_more, next_word}
use Rattle.paged_systems.proofs.flat_window.FlatWindow.copy.Goals as goal

pub loop-i-init : goal.loop-i-init
loop-i-init c = put_none c.args.self.now c.args.to (λ k. flat_word c.args.self.now (c.args.from + (k - c.args.to)))

pub word-word-requires : goal.word-word-requires
word-word-requires c =
    c.loop-i.invariant.longer.covered (c.args.from + 8 * c.loop-i.i)
    (c.requires.from.covered (c.args.from + 8 * c.loop-i.i) (let a = c.requires.from.aligned in omega arith) (omega arith) (let t = c.loop-i-test.true in omega arith))

pub set_word-requires-clause-covered : goal.set_word-requires-clause-covered
set_word-requires-clause-covered c =
    c.loop-i.invariant.longer.covered (c.args.to + 8 * c.loop-i.i)
    (c.requires.to.covered (c.args.to + 8 * c.loop-i.i) (let a = c.requires.to.aligned in omega arith) (omega arith) (let t = c.loop-i-test.true in omega arith))

pub loop-i-preserved : goal.loop-i-preserved
loop-i-preserved c =
    put_more c.args.self.now c.loop-i.self c.set_word.new.self c.args.to c.loop-i.i
    (λ k. flat_word c.args.self.now (c.args.from + (k - c.args.to))) c.requires.to.aligned c.loop-i.invariant
    c.set_word.ensures.longer
    (c.set_word.ensures.here ∙ (c.word-word.ensures
    ∙ next_word c.args.self.now c.loop-i.self c.args.from c.args.to c.args.count c.loop-i.i c.requires.from.aligned
    c.loop-i.invariant c.requires.apart c.loop-i-test.true
    (c.requires.from.covered (c.args.from + 8 * c.loop-i.i) (let a = c.requires.from.aligned in omega arith) (omega arith)
    (let t = c.loop-i-test.true in omega arith))))
    c.set_word.ensures.elsewhere (λ k m low high. c.requires.to.covered k m low (let t = c.loop-i-test.true in omega arith))
