use Rattle.std.proofs.Common.{rules, ap, ◌∙◌, refl}
use Rattle.x86_tables.proofs.TssBytes.{written, laid_out, three_addresses, seven_addresses}
use Rattle.x86_tables.proofs.tss.TaskStateSegment.to_bytes.Goals as goal

pub returns : goal.returns
returns c =
    let stacks = c.as_flattened.result.now in
    let interrupt_stacks = c.as_flattened-2.result.now in
    let map_at = c.to_le_bytes.result in
    let first = c.as_flattened.ensures.value
    ∙ three_addresses c.args.self.now.privilege_stack_table _ _ _ _ _ _ (search rules) c.bytes_of.ensures c.bytes_of-2.ensures c.bytes_of-3.ensures in
    let second = c.as_flattened-2.ensures.value
    ∙ seven_addresses c.args.self.now.interrupt_stack_table _ _ _ _ _ _ _ _ _ _ _ _ _ _ (search rules) c.bytes_of-4.ensures
    c.bytes_of-5.ensures c.bytes_of-6.ensures c.bytes_of-7.ensures c.bytes_of-8.ensures c.bytes_of-9.ensures
    c.bytes_of-10.ensures in
    c.put-3.ensures
    ∙ (ap (written 102 map_at) (c.put-2.ensures ∙ ap (written 36 interrupt_stacks) c.put.ensures)
    ∙ (laid_out stacks interrupt_stacks map_at c.as_flattened.ensures.len c.as_flattened-2.ensures.len (search rules)
    ∙ rw (first, second, c.to_le_bytes.ensures) refl))
