use Rattle.std.proofs.Common.{◌≡◌, ◌+◌, ◌%◌, ◌^◌, ◌<◌, arith}
use Rattle.heap_memory.specs.RunLaws.{run_aligned, run_bounded}
use Rattle.heap_memory.proofs.flat_system.FlatSystemAllocator.free_part.Goals as goal

pub overflow_add-at : goal.overflow_add-at
overflow_add-at c =
    let bounded : c.args.at + c.args.old_size < 2 ^ 64 = run_bounded c.args.at (c.args.at + c.args.old_size) c.args.self.now.regions.items c.requires.run c.args.self.now.whole in
    omega arith

pub overflow_add-at-2 : goal.overflow_add-at-2
overflow_add-at-2 c =
    let bounded : c.args.at + c.args.old_size < 2 ^ 64 = run_bounded c.args.at (c.args.at + c.args.old_size) c.args.self.now.regions.items c.requires.run c.args.self.now.whole in
    omega arith

pub release-requires : goal.release-requires
release-requires c =
    let aligned : c.args.at % 16 ≡ 0 = run_aligned c.args.at (c.args.at + c.args.old_size) c.args.self.now.regions.items c.requires.run c.args.self.now.whole in
    omega arith
