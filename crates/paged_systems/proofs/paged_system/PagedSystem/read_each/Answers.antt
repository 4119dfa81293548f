use Rattle.std.proofs.Common.{◌+◌, arith, sym, subst}
use Rattle.paged_systems.specs.System.{paged}
use Rattle.paged_systems.specs.Written.{AreRead}
use Rattle.paged_systems.proofs.Bytes.{inside_part, inside_below, word_of, read_more}
use Rattle.paged_systems.proofs.paged_system.PagedSystem.read_each.Goals as goal

pub overflow_add-address : goal.overflow_add-address
overflow_add-address c =
    let below = inside_below (paged c.args.self.now) (c.args.address + c.loop-k.k) c.args.self.now.kept
    (inside_part (paged c.args.self.now) c.args.address _ (c.args.address + c.loop-k.k) 1 c.requires.inside (omega arith)
    (omega (arith, c.loop-k-test.true))) in
    omega (arith, below)

pub load_byte-requires : goal.load_byte-requires
load_byte-requires c =
    word_of (paged c.args.self.now) (c.args.address + c.loop-k.k) c.args.self.now.kept
    (inside_part (paged c.args.self.now) c.args.address _ (c.args.address + c.loop-k.k) 1 c.requires.inside
    (omega arith) (omega (arith, c.loop-k-test.true)))

pub loop-k-preserved : goal.loop-k-preserved
loop-k-preserved c =
    subst (AreRead (paged c.args.self.now) c.args.address (c.loop-k.k + 1)) (sym c.in_ok-push.ensures.items)
    (read_more (paged c.args.self.now) c.args.address c.loop-k.k c.loop-k.bytes.items c.load_byte.result c.args.self.now.kept
    (inside_part (paged c.args.self.now) c.args.address _ c.args.address (c.loop-k.k + 1) c.requires.inside (omega arith)
    (omega (arith, c.loop-k-test.true))) c.loop-k.invariant c.load_byte.ensures)
