use Rattle.std.proofs.Common.{◌≡◌, ◌+◌, ◌-◌, ◌*◌, ◌/◌, ◌%◌, ◌<◌, None, false, sym, ap, ◌∙◌, arith}
use Rattle.std.specs.Prelude.{is_none}
use Rattle.paging_core.specs.Large.{slot_of}
use Rattle.paging_core.specs.Prefix.{prefix_of}
use Rattle.paging_core.specs.Walk.{reach}
use Rattle.paging_core.proofs.Counts.{absent_none}
use Rattle.kernel_tables.specs.TableState.{TableState}
use Rattle.kernel_tables.proofs.LargePages.{none_unless}
use Rattle.kernel_tables.proofs.RangeCounts.{count_skip, count_run, large_counted, there_if}
use Rattle.kernel_tables.proofs.tables.Tables.large_count.Goals as goal

pub loop-slot-init : goal.loop-slot-init
loop-slot-init c =
    let n = c.number-3.ensures.value in
    let m = c.number-4.ensures.value in
    let z : (c.number-4.result + 511) / 512 - (c.args.page + 511) / 512 ≡ 0 = omega arith in
    record {
      from = omega arith;
      to = λ lt. omega arith;
      still = λ le. omega arith;
      counted = rw z (sym (absent_none c.args.self.now.words c.args.self.now.root 3 (slot_of ((c.args.page + 511) / 512))));
      few = omega arith;
    }

pub loop-slot-preserved-then-has_table : goal.loop-slot-preserved-then-has_table
loop-slot-preserved-then-has_table c =
    let n = c.number-3.ensures.value in
    let a = c.after-at.ensures in
    let o = c.number-in-loop-slot.ensures.value in
    let t = c.loop-slot-test.true in
    let i = c.loop-slot.invariant.from in
    let k = c.loop-slot.invariant.counted in
    let f = c.loop-slot.invariant.few in
    let e : c.slot_at.result ≡ c.loop-slot.slot = let s = c.slot_at.ensures in omega arith in
    let some = c.has_table.ensures.0 c.if-has_table.true in
    let here : is_none (reach c.args.self.now.words c.args.self.now.root 3 (slot_of c.loop-slot.slot)) ≡ false =
    there_if (reach c.args.self.now.words c.args.self.now.root 3 (slot_of c.loop-slot.slot))
    (rw (ap (λ (s : TableState). reach s.words s.root 3 (slot_of c.slot_at.result)) c.self.view_is
    ∙ ap (λ q. reach c.args.self.now.words c.args.self.now.root 3 (slot_of q)) e) at some) in
    let s = count_skip c.args.self.now.words c.args.self.now.root c.args.page c.args.pages ((c.args.page + 511) / 512)
    c.loop-slot.slot c.requires.range (omega arith) i (omega arith) here in
    record { from = omega arith; to = λ lt. omega arith; still = λ le. absurd (omega arith); counted = omega arith; few = omega arith }

pub loop-slot-preserved : goal.loop-slot-preserved
loop-slot-preserved c =
    let n = c.number-3.ensures.value in
    let a = c.after-at.ensures in
    let o = c.number-in-loop-slot.ensures.value in
    let t = c.loop-slot-test.true in
    let i = c.loop-slot.invariant.from in
    let k = c.loop-slot.invariant.counted in
    let f = c.loop-slot.invariant.few in
    let m = c.min-next.ensures in
    let more = c.alike_until.ensures.more in
    let e : c.slot_at.result ≡ c.loop-slot.slot = let s = c.slot_at.ensures in omega arith in
    let low = none_unless c.has_table.result (reach c.self.inside.memory.words c.self.inside.root 3
    (slot_of c.slot_at.result)) c.if-has_table.false c.has_table.ensures.1 in
    let here : reach c.args.self.now.words c.args.self.now.root 3 (slot_of c.slot_at.result) ≡ None =
    sym (ap (λ (s : TableState). reach s.words s.root 3 (slot_of c.slot_at.result)) c.self.view_is) ∙ low in
    let p : prefix_of c.after-at.result 3 ≡ slot_of c.slot_at.result = let s = c.slot_at.ensures in omega arith in
    let run = c.alike_until.ensures.no_table (ap (reach c.args.self.now.words c.args.self.now.root 3) p ∙ here) in
    let edge = run.0 in
    let next : c.loop-slot.slot < c.alike_until.result / 512 = omega arith in
    let s = count_run c.args.self.now.words c.args.self.now.root c.args.page c.args.pages ((c.args.page + 511) / 512)
    c.loop-slot.slot c.min-next.result c.requires.range (omega arith) i (omega arith) (omega arith)
    (λ q lo hi. let x : slot_of q ≡ prefix_of (512 * q) 3 = omega arith in
    ap (reach c.args.self.now.words c.args.self.now.root 3) x ∙ run.1 (512 * q) (omega arith) (omega arith)) in
    record { from = omega arith; to = λ lt. omega arith; still = λ le. absurd (omega arith); counted = omega arith; few = omega arith }

pub returns : goal.returns
returns c =
    let n = c.number-3.ensures.value in
    let t = c.loop-slot-test.false in
    let i = c.loop-slot.invariant.from in
    let j = c.loop-slot.invariant.to in
    let x = c.number.ensures.value in
    let y = c.number-2.ensures.value in
    let aligned : c.args.page % 512 ≡ c.args.frame % 512 = omega (arith, c.if-number.false) in
    large_counted c.args.self.now c.args.page c.args.pages c.args.frame c.loop-slot.slot c.loop-slot.count aligned i
    (λ lt. omega (arith, j (omega (arith, lt, n)), n)) (omega (arith, t, n))
    (λ le. c.loop-slot.invariant.still (omega (arith, le, n))) c.loop-slot.invariant.counted
