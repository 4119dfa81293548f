use Rattle.std.proofs.Common.{◌+◌, arith}
use Rattle.paged_systems.specs.System.{paged}
use Rattle.paged_systems.proofs.Bytes.{inside_part, inside_below, word_of, written_more}
use Rattle.paged_systems.proofs.ByteRuns.{still_inside}
use Rattle.paged_systems.proofs.paged_system.PagedSystem.write_each.Goals as goal

pub overflow_add-address : goal.overflow_add-address
overflow_add-address c =
    let below = inside_below (paged c.args.self.now) (c.args.address + c.loop-k.k) c.args.self.now.kept
    (inside_part (paged c.args.self.now) c.args.address _ (c.args.address + c.loop-k.k) 1 c.requires (omega arith) (omega (arith, c.loop-k-test.true))) in
    omega (arith, below)

pub store_byte-requires : goal.store_byte-requires
store_byte-requires c =
    word_of (paged c.loop-k.self) (c.args.address + c.loop-k.k) c.loop-k.self.kept
    (still_inside (paged c.args.self.now) (paged c.loop-k.self) (c.args.address + c.loop-k.k) 1 c.loop-k.invariant.still
    (inside_part (paged c.args.self.now) c.args.address _ (c.args.address + c.loop-k.k) 1 c.requires (omega arith) (omega (arith, c.loop-k-test.true))))

pub loop-k-preserved : goal.loop-k-preserved
loop-k-preserved c =
    written_more (paged c.args.self.now) (paged c.loop-k.self) (paged c.store_byte.new.self) c.args.address c.args.bytes.now c.loop-k.k c.args.self.now.kept
    (inside_part (paged c.args.self.now) c.args.address _ c.args.address (c.loop-k.k + 1) c.requires (omega arith)
    (omega (arith, c.loop-k-test.true))) c.loop-k.invariant (grind (arith, c.type_inv.bytes c.loop-k.k))
    c.store_byte.ensures.follows c.store_byte.ensures.stored
