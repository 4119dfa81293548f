use Rattle.std.proofs.Common.{◌≤◌, ◌^◌, arith}
use Rattle.heap_cells.proofs.Numbers.{product_least, part_least}
use Rattle.heap_cells.proofs.rows.row_start.Goals as goal

pub overflow_mul-result : goal.overflow_mul-result
overflow_mul-result c =
    let row : c.args.row ≤ 2 ^ 40 = omega (arith, c.rows_of-rows.ensures.value, c.rows_of-rows.ensures.few) in
    let bytes : c.saturating_sub-bytes.result ≤ 2 ^ 80 = omega (arith, c.saturating_sub-bytes.ensures) in
    let least = product_least c.args.row c.saturating_sub-bytes.result (2 ^ 40) (2 ^ 80) row bytes in
    omega (arith, least)

pub overflow_add-result : goal.overflow_add-result
overflow_add-result c =
    let rows = c.rows_of-rows.result in
    let bytes = c.saturating_sub-bytes.result in
    let some : 1 ≤ rows = omega (arith, c.rows_of-rows.ensures.value) in
    let among : c.args.row ≤ rows = omega (arith, c.rows_of-rows.ensures.value) in
    let part = part_least c.args.row rows bytes some among in
    omega (arith, part, c.saturating_sub-bytes.ensures)

pub returns-clause-few : goal.returns-clause-few
returns-clause-few c =
    let rows = c.rows_of-rows.result in
    let bytes = c.saturating_sub-bytes.result in
    let some : 1 ≤ rows = omega (arith, c.rows_of-rows.ensures.value) in
    let among : c.args.row ≤ rows = omega (arith, c.rows_of-rows.ensures.value) in
    let part = part_least c.args.row rows bytes some among in
    omega (arith, part, c.saturating_sub-bytes.ensures)
