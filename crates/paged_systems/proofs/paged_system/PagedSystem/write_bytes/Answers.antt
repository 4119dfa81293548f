use Rattle.std.proofs.Common.{◌+◌, length, arith}
use Rattle.paged_systems.specs.System.{paged}
use Rattle.paged_systems.proofs.Bytes.{inside_part, inside_below}
use Rattle.paged_systems.proofs.ByteRuns.{written_parts}
use Rattle.paged_systems.proofs.paged_system.PagedSystem.write_bytes.Goals as goal

pub overflow_add-address : goal.overflow_add-address
overflow_add-address c =
    let below = inside_below (paged c.args.self.now) (c.args.address + length c.split_at.result.0.now) c.args.self.now.kept
    (inside_part (paged c.args.self.now) c.args.address _ (c.args.address + length c.split_at.result.0.now) 1 c.requires (omega arith)
    (omega (arith, c.split_at.ensures.front_len, c.split_at.ensures.back_len, c.if-rest-gt0.true))) in
    omega (arith, below)

pub returns-then-rest-gt0 : goal.returns-then-rest-gt0
returns-then-rest-gt0 c =
    written_parts (paged c.args.self.now) (paged c.write_each.new.self) (paged c.write_from_word.new.self) c.args.address _
    c.args.bytes.now c.split_at.result.0.now c.split_at.result.1.now c.requires
    c.split_at.ensures.front c.split_at.ensures.back c.split_at.ensures.front_len c.split_at.ensures.back_len c.write_each.ensures c.write_from_word.ensures
