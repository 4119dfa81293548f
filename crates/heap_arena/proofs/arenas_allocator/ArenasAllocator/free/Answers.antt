use Rattle.std.specs.Prelude.{◌≡◌, ◌+◌, ◌%◌, ◌^◌, ◌<◌, List}
use Rattle.std.proofs.Common.{◌∙◌, rules, ap, subst, arith, refl}
use Rattle.heap_memory.specs.RunLaws.{run_aligned, run_bounded}
use Rattle.heap_arena.specs.declared.arena.Arena.{Arena}
use Rattle.heap_arena.specs.Arenas.{regions_of_all, word_among, AreTakenBack}
use Rattle.heap_arena.specs.ArenasLaws.{all_whole}
use Rattle.heap_arena.proofs.ArenaLists.{refilled, unwritten_order, words_same, taken_unwritten, all_taken_after}
use Rattle.heap_arena.proofs.arenas_allocator.ArenasAllocator.free.Goals as goal

pub overflow_add-at : goal.overflow_add-at
overflow_add-at g c =
    let bounded : c.args.at + c.args.size < 2 ^ 64 = run_bounded c.args.at (c.args.at + c.args.size)
    (regions_of_all c.args.self.now.arenas.items) c.requires (all_whole c.args.self.now.arenas.items) in
    omega arith

pub take_back_among-requires : goal.take_back_among-requires
take_back_among-requires g c =
    let aligned : c.args.at % 16 ≡ 0 = run_aligned c.args.at (c.args.at + c.args.size)
    (regions_of_all c.args.self.now.arenas.items) c.requires (all_whole c.args.self.now.arenas.items) in
    omega arith

pub invariant_of-self : goal.invariant_of-self
invariant_of-self g c =
    let olds = c.args.self.now.arenas.items in
    let news = c.take_back_among.new.arenas in
    let back = subst (λ (xs : List Arena). AreTakenBack c.args.at (c.args.at + c.args.size) xs news) c.as_mut_slice.ensures.value c.take_back_among.ensures in
    record { in_order = rw (refilled olds news (search rules)) (unwritten_order olds news (taken_unwritten c.args.at (c.args.at + c.args.size) olds news back) c.args.self.now.in_order) }

pub returns-clause-words : goal.returns-clause-words
returns-clause-words g c = λ k is.
    let olds = c.args.self.now.arenas.items in
    let news = c.take_back_among.new.arenas in
    let back = subst (λ (xs : List Arena). AreTakenBack c.args.at (c.args.at + c.args.size) xs news) c.as_mut_slice.ensures.value c.take_back_among.ensures in
    ap (λ (xs : List Arena). word_among xs k) (refilled olds news (search rules))
    ∙ words_same olds news (taken_unwritten c.args.at (c.args.at + c.args.size) olds news back) k

pub returns-clause-follows : goal.returns-clause-follows
returns-clause-follows g c =
    let olds = c.args.self.now.arenas.items in
    let news = c.take_back_among.new.arenas in
    let back = subst (λ (xs : List Arena). AreTakenBack c.args.at (c.args.at + c.args.size) xs news) c.as_mut_slice.ensures.value c.take_back_among.ensures in
    rw (refilled olds news (search rules)) (all_taken_after c.args.at (c.args.at + c.args.size) olds news back c.args.at c.args.size 0 (omega arith) refl)
