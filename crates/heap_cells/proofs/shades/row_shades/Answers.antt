use Rattle.std.proofs.Common.{◌≡◌, ◌≤◌, ◌<◌, ◌+◌, ℕ, List, [], ◌∷◌, ◌++◌, length, sym, ◌∙◌, ap, arith}
use Rattle.heap_cells.specs.declared.sums.Change.TheVariants.{Comes, Goes}
use Rattle.heap_cells.specs.Shades.{cell_columns, cell_shade, first_shades, row_shades}
use Rattle.heap_cells.proofs.Columns.{before_none, before_few, next_before, shown_in, shade_is}
use Rattle.heap_cells.proofs.Steps.{shades_step}
use Rattle.heap_cells.proofs.shades.row_shades.Goals as goal

pub loop-column-init : goal.loop-column-init
loop-column-init c = record {
  all = c.new-all.ensures.items;
  since = sym (before_none c.args.scale Comes c.args.row c.args.spans.now);
  until = sym (before_none c.args.scale Goes c.args.row c.args.spans.now);
}

pub overflow_add-since : goal.overflow_add-since
overflow_add-since c =
    let column = c.loop-column.column in
    let inside : column < cell_columns c.args.scale = omega (arith, c.loop-column-test.true, c.columns_of-column-end.ensures.value) in
    let within : column < length c.in_ok-came.came.items = omega (arith, inside, c.in_ok-came.ensures.length) in
    let more = next_before c.args.scale Comes c.args.row c.args.spans.now c.in_ok-came.came.items column c.loop-column.since
    c.index.result.now c.loop-column.invariant.since within c.index.ensures (c.in_ok-came.ensures.each column inside) in
    let few = before_few c.args.scale Comes c.args.row c.args.spans.now (column + 1) in
    omega (arith, more, few, c.in_ok-came.ensures.few)

pub overflow_add-until : goal.overflow_add-until
overflow_add-until c =
    let column = c.loop-column.column in
    let inside : column < cell_columns c.args.scale = omega (arith, c.loop-column-test.true, c.columns_of-column-end.ensures.value) in
    let within : column < length c.in_ok-went.went.items = omega (arith, inside, c.in_ok-went.ensures.length) in
    let more = next_before c.args.scale Goes c.args.row c.args.spans.now c.in_ok-went.went.items column c.loop-column.until
    c.index-in-loop-column.result.now c.loop-column.invariant.until within c.index-in-loop-column.ensures
    (c.in_ok-went.ensures.each column inside) in
    let few = before_few c.args.scale Goes c.args.row c.args.spans.now (column + 1) in
    omega (arith, more, few, c.in_ok-went.ensures.few)

pub overflow_sub-since : goal.overflow_sub-since
overflow_sub-since c =
    let column = c.loop-column.column in
    let inside : column < cell_columns c.args.scale = omega (arith, c.loop-column-test.true, c.columns_of-column-end.ensures.value) in
    let wide : 1 ≤ cell_columns c.args.scale = omega (arith, inside) in
    let within : column < length c.in_ok-came.came.items = omega (arith, inside, c.in_ok-came.ensures.length) in
    let within' : column < length c.in_ok-went.went.items = omega (arith, inside, c.in_ok-went.ensures.length) in
    let came = next_before c.args.scale Comes c.args.row c.args.spans.now c.in_ok-came.came.items column c.loop-column.since
    c.index.result.now c.loop-column.invariant.since within c.index.ensures (c.in_ok-came.ensures.each column inside) in
    let went = next_before c.args.scale Goes c.args.row c.args.spans.now c.in_ok-went.went.items column c.loop-column.until
    c.index-in-loop-column.result.now c.loop-column.invariant.until within' c.index-in-loop-column.ensures
    (c.in_ok-went.ensures.each column inside) in
    let all = shown_in c.args.scale c.args.row c.args.spans.now column c.requires.scale.0 wide in
    omega (arith, came, went, all)

pub loop-column-preserved : goal.loop-column-preserved
loop-column-preserved c =
    let spans = c.args.spans.now in
    let row = c.args.row in
    let scale = c.args.scale in
    let column = c.loop-column.column in
    let inside : column < cell_columns c.args.scale = omega (arith, c.loop-column-test.true, c.columns_of-column-end.ensures.value) in
    let wide : 1 ≤ cell_columns c.args.scale = omega (arith, inside) in
    let within : column < length c.in_ok-came.came.items = omega (arith, inside, c.in_ok-came.ensures.length) in
    let within' : column < length c.in_ok-went.went.items = omega (arith, inside, c.in_ok-went.ensures.length) in
    let came = next_before scale Comes row spans c.in_ok-came.came.items column c.loop-column.since c.index.result.now
    c.loop-column.invariant.since within c.index.ensures (c.in_ok-came.ensures.each column inside) in
    let went = next_before scale Goes row spans c.in_ok-went.went.items column c.loop-column.until
    c.index-in-loop-column.result.now c.loop-column.invariant.until within' c.index-in-loop-column.ensures
    (c.in_ok-went.ensures.each column inside) in
    let one = shade_is scale c.args.shades row spans column _ _ c.requires.scale.0 wide came went in
    record {
      all = c.in_ok-push.ensures.items
          ∙ ap (λ (n : ℕ). c.loop-column.all.items ++ n ∷ []) (c.shade_of.ensures ∙ one)
          ∙ ap (λ (before : List ℕ). before ++ cell_shade scale c.args.shades row spans column ∷ []) c.loop-column.invariant.all
          ∙ sym (shades_step scale c.args.shades row spans column);
      since = came;
      until = went;
    }

pub returns : goal.returns
unfolding row_shades
returns c =
    let all : c.loop-column.column ≡ cell_columns c.args.scale = omega (
      arith,
      c.loop-column-test.false,
      c.loop-column.auto.column-end,
      c.columns_of-column-end.ensures.value,
    ) in
    c.loop-column.invariant.all ∙ ap (first_shades c.args.scale c.args.shades c.args.row c.args.spans.now) all
