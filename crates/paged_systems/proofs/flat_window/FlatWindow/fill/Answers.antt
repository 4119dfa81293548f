use Rattle.std.proofs.Common.{◌+◌, ◌*◌, arith}
use Rattle.paged_systems.proofs.FlatWindows.{put_none, put_more}
use Rattle.paged_systems.proofs.flat_window.FlatWindow.fill.Goals as goal

pub loop-i-init : goal.loop-i-init
loop-i-init c = put_none c.args.self.now c.args.at (λ k. c.args.value)

pub set_word-requires-clause-covered : goal.set_word-requires-clause-covered
set_word-requires-clause-covered c =
    c.loop-i.invariant.longer.covered (c.args.at + 8 * c.loop-i.i)
    (c.requires.covered (c.args.at + 8 * c.loop-i.i) (let a = c.requires.aligned in omega arith) (omega arith) (let t = c.loop-i-test.true in omega arith))

pub loop-i-preserved : goal.loop-i-preserved
loop-i-preserved c =
    put_more c.args.self.now c.loop-i.self c.set_word.new.self c.args.at c.loop-i.i (λ k. c.args.value) c.requires.aligned c.loop-i.invariant
    c.set_word.ensures.longer c.set_word.ensures.here c.set_word.ensures.elsewhere
    (λ k m low high. c.requires.covered k m low (let t = c.loop-i-test.true in omega arith))
