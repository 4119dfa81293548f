use Rattle.std.proofs.Common.{◌≡◌, ◌≤◌, ◌<◌, ◌+◌, ◌*◌, ℕ, ◌++◌, List, true, false, sym, ◌∙◌, ap, arith, string_bytes}
use Rattle.heap_map.specs.declared.cells.Cell.{Cell}
use Rattle.heap_map.specs.Cells.{drawn_cell, look_same, row_cells_text}
use Rattle.heap_map.proofs.Bars.{runs_begin, runs_same, runs_other}
use Rattle.heap_map.proofs.cells.push_cells.Goals as goal
use Rattle.heap_map.proofs.cells.push_cells.Goals.{then-not-look_same+in_ok-push_run, else-not-look_same}

pub loop-next-init : goal.loop-next-init
loop-next-init c = record {
  place = omega arith;
  rest = ap (λ (t : List ℕ). string_bytes c.args.out.now ++ t) (runs_begin c.args.cell c.args.base c.args.y c.args.line.now
      c.cell_at-same.result c.cell_at-same.ensures.value);
  used = c.cell_at-same.ensures.few.0;
  held = c.cell_at-same.ensures.few.1;
}

pub loop-next-preserved : goal.loop-next-preserved
loop-next-preserved c =
    let line = c.args.line.now in
    let n = c.loop-next.next in
    let h = c.loop-next.invariant in
    let text = string_bytes c.args.out.now ++ row_cells_text c.args.cell c.args.base c.args.y line in
    let is = c.cell_at-one.ensures.value ∙ ap (λ (low : ℕ). drawn_cell c.args.cell low line) c.cell_start.ensures.value in
    elim c.if-not-look_same.branch [
      | then-not-look_same+in_ok-push_run w ↦ (let differs : c.look_same.result ≡ false = grind (arith, w.if-not-look_same.true) in
          let used : c.if-not-look_same.same.used ≡ c.cell_at-one.result.used = ap (λ (s : Cell). s.used) w.same-is in
          let held : c.if-not-look_same.same.held ≡ c.cell_at-one.result.held = ap (λ (s : Cell). s.held) w.same-is in
          record {
            place = omega (arith, w.start-is);
            rest = runs_other c.args.cell c.args.base c.args.y line c.loop-next.start n c.if-not-look_same.start
                c.loop-next.same c.cell_at-one.result c.if-not-look_same.same (string_bytes c.loop-next.out)
                (string_bytes w.push_run.new.out)
                (string_bytes c.if-not-look_same.out) text c.loop-next-test.true is (sym c.look_same.ensures ∙ differs)
                w.in_ok-push_run.ensures (ap string_bytes w.out-is) w.start-is w.same-is h.rest;
            used = omega (arith, used, c.cell_at-one.ensures.few.0);
            held = omega (arith, held, c.cell_at-one.ensures.few.1);
          })
      | else-not-look_same w ↦ (let agrees : c.look_same.result ≡ true = grind (arith, w.if-not-look_same.false) in
          let used : c.if-not-look_same.same.used ≡ c.loop-next.same.used = ap (λ (s : Cell). s.used) w.same-is in
          let held : c.if-not-look_same.same.held ≡ c.loop-next.same.held = ap (λ (s : Cell). s.held) w.same-is in
          record {
            place = omega (arith, w.start-is, h.place);
            rest = runs_same c.args.cell c.args.base c.args.y line c.loop-next.start n c.if-not-look_same.start
                c.loop-next.same c.cell_at-one.result c.if-not-look_same.same (string_bytes c.loop-next.out)
                (string_bytes c.if-not-look_same.out) text
                c.loop-next-test.true is (sym c.look_same.ensures ∙ agrees) (ap string_bytes w.out-is) w.start-is w.same-is h.rest;
            used = omega (arith, used, h.used);
            held = omega (arith, held, h.held);
          })
    ]
