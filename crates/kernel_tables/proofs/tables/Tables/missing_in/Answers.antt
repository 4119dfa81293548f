use Rattle.std.proofs.Common.{◌≡◌, ◌+◌, ◌<◌, sym, ap, ◌∙◌, arith}
use Rattle.paging_core.specs.Missing.{missing_of}
use Rattle.paging_core.proofs.Ranges.{missing_none}
use Rattle.kernel_tables.specs.TableState.{TableState}
use Rattle.kernel_tables.proofs.RangeCounts.{piece_range, missing_parts}
use Rattle.kernel_tables.proofs.tables.Tables.missing_in.Goals as goal

pub loop-done-init : goal.loop-done-init
loop-done-init c = record {
  within = omega arith;
  edge = λ pos lt. absurd (omega arith);
  counted = sym (missing_none c.args.self.now.words c.args.self.now.root c.args.page);
  few = omega arith;
}

pub loop-done-preserved : goal.loop-done-preserved
loop-done-preserved c =
    let a = c.after-at.ensures in
    let n = c.number.ensures.value in
    let o = c.number-in-loop-done.ensures.value in
    let m = c.min-count.ensures in
    let t = c.loop-done-test.true in
    let some : 0 < c.min-count.result = omega arith in
    let front = piece_range c.args.page c.args.pages c.args.page (c.loop-done.done + c.min-count.result) c.requires.range
    (omega arith) (omega arith) (omega arith) in
    let p = missing_parts c.args.self.now.words c.args.self.now.root c.args.page c.loop-done.done c.min-count.result front
    some (λ pos. c.loop-done.invariant.edge pos t) in
    let r : c.missing_tables-missing.result ≡ missing_of c.args.self.now.words c.args.self.now.root (c.args.page + c.loop-done.done) c.min-count.result =
    c.missing_tables-missing.ensures.count
    ∙ (ap (λ q. missing_of c.self.inside.memory.words c.self.inside.root q c.min-count.result) (o ∙ a)
    ∙ ap (λ (s : TableState). missing_of s.words s.root (c.args.page + c.loop-done.done) c.min-count.result) c.self.view_is) in
    let f = c.missing_tables-missing.ensures.few in
    let k = c.loop-done.invariant.counted in
    let i = c.loop-done.invariant.few in
    record { within = omega arith; edge = λ pos lt. omega arith; counted = omega arith; few = omega arith }
