use Rattle.std.proofs.Common.{rules, ℕ, ◌+◌, ◌≤◌, List, ◌++◌, length, false, ap, ◌∙◌, arith}
use Rattle.std.proofs.lemmas.Fmt.{length-decimal-le}
use Rattle.std.proofs.lemmas.List.{drop_all}
use Rattle.std.specs.Prelude.{codes, decimal}
use Rattle.std.specs.Fmt.{digits}
use Rattle.heap_program.proofs.digits.write_block.Goals as goal

pub write_digits-at-requires : goal.write_digits-at-requires
write_digits-at-requires c =
    let few : length (decimal c.args.number) ≤ 20 = search (rules, length-decimal-le 20) in
    let a = c.write_bytes-at.ensures in
    let b = c.write_hexadecimal-at.ensures in
    let d = c.write_bytes-at-2.ensures in
    (omega (arith, few, a.start, b.low, d.start), omega (arith, a.start, a.length, b.high, b.length, d.start, d.length, c.told-row))

pub write_bytes-requires-clause-room : goal.write_bytes-requires-clause-room
write_bytes-requires-clause-room c =
    let few : length (decimal c.args.number) ≤ 20 = search (rules, length-decimal-le 20) in
    omega (arith, few, c.write_bytes-at.ensures.start, c.write_hexadecimal-at.ensures.low, c.write_bytes-at-2.ensures.start, c.write_digits-at.ensures.start)

pub returns-clause-written : goal.returns-clause-written
returns-clause-written c =
    c.write_bytes.ensures.written
    ∙ ap (λ (l : List ℕ). codes "block " ++ l) (c.write_digits-at.ensures.written
    ∙ ap (λ (l : List ℕ). decimal c.args.number ++ l) (c.write_bytes-at-2.ensures.written
    ∙ ap (λ (l : List ℕ). codes " 0x" ++ l) (c.write_hexadecimal-at.ensures.written
    ∙ ap (λ (l : List ℕ). digits 16 false c.args.address ++ l) (c.write_bytes-at.ensures.written
    ∙ ap (λ (l : List ℕ). codes "\n" ++ l) (drop_all 128 c.args.row.now (omega (arith, c.told-row)))))))
