use Rattle.std.proofs.Common.{◌∙◌, ◌≡◌, ◌+◌, ◌%◌, ◌^◌, ◌<◌, arith, refl}
use Rattle.heap_memory.specs.RunLaws.{run_aligned, run_bounded}
use Rattle.heap_arena.specs.Arena.{regions_of}
use Rattle.heap_arena.proofs.GrantLemmas.{run_within, run_below, top_of_run}
use Rattle.heap_arena.proofs.ArenaLists.{taken_after}
use Rattle.heap_arena.proofs.arena_allocator.ArenaAllocator.free_part.Goals as goal

pub overflow_add-at : goal.overflow_add-at
overflow_add-at c =
    let bounded : c.args.at + c.args.old_size < 2 ^ 64 = run_bounded c.args.at (c.args.at + c.args.old_size)
    (regions_of c.args.self.now) c.requires.run c.args.self.now.whole in
    omega arith

pub overflow_add-at-2 : goal.overflow_add-at-2
overflow_add-at-2 c =
    let bounded : c.args.at + c.args.old_size < 2 ^ 64 = run_bounded c.args.at (c.args.at + c.args.old_size)
    (regions_of c.args.self.now) c.requires.run c.args.self.now.whole in
    omega arith

pub take_back-requires : goal.take_back-requires
take_back-requires c =
    let aligned : c.args.at % 16 ≡ 0 = run_aligned c.args.at (c.args.at + c.args.old_size) (regions_of c.args.self.now) c.requires.run c.args.self.now.whole in
    omega arith

pub returns-clause-top : goal.returns-clause-top
returns-clause-top c =
    let arena = c.args.self.now in
    let begins = run_within arena.base arena.top c.args.at (c.args.at + c.args.old_size) (regions_of arena) arena.between c.requires.run in
    let ends = run_below arena.base arena.top c.args.at (c.args.at + c.args.old_size) (regions_of arena) arena.between c.requires.run in
    c.take_back.ensures.top ∙ top_of_run arena.base arena.top (c.args.at + c.args.new_size) (c.args.at + c.args.old_size)
    (omega (arith, begins)) (omega arith) ends

pub returns-clause-follows : goal.returns-clause-follows
returns-clause-follows c = taken_after (c.args.at + c.args.new_size) (c.args.at + c.args.old_size) c.args.self.now _
    c.take_back.ensures c.args.at c.args.old_size c.args.new_size refl refl
