use Rattle.std.proofs.Common.{List, ℕ, ◌≡◌, ◌≤◌, ◌%◌, inl, inr, subst}
use Rattle.dlmalloc.specs.Heap.{state_of}
use Rattle.dlmalloc.specs.Blocks.{IsBlock, usable}
use Rattle.heap_cache.specs.Served.{IsAskedAgain, IsServedEmptied, IsServedAligned}
use Rattle.heap_cache.proofs.ServeLemmas.{served_again, refused_again, live_again, aligned_block, aligned_multiple, block_enough, on_ok}
use Rattle.heap_cache.proofs.LiveLemmas.{gained_aligned, gained_all_aligned, stays_refused}
use Rattle.heap_cache.proofs.cached.CachedHeap.malloc_aligned.Goals as goal

pub returns-in-Ok-clause-ok : goal.returns-in-Ok-clause-ok
returns-in-Ok-clause-ok g c = inl (c.in-Ok.ensures.ok, c.ask.ensures.rows, c.in-Ok.ensures.fresh)

pub returns-in-Ok-clause-gained : goal.returns-in-Ok-clause-gained
returns-in-Ok-clause-gained g c = gained_aligned g.A.Links.regions g.A.Links.word g.A.Allocator.zeros g.A.Links.follows g.A.Allocator.refuses g.A.Allocator.denies g.A.Allocator.frees g.A.Allocator.parts g.A.Allocator.unit
    c.args.self.now.0 c.ask.new.self.0 c.args.self.now.1 c.ask.new.self.1 c.args.size c.args.align c.are_held.ensures.held c.in-Ok.address (returns-in-Ok-clause-ok g c)

pub returns-in-Ok-clause-multiple : goal.returns-in-Ok-clause-multiple
returns-in-Ok-clause-multiple g c = aligned_multiple g.A.Links.regions g.A.Links.word g.A.Allocator.zeros g.A.Links.follows g.A.Allocator.refuses g.A.Allocator.denies g.A.Allocator.frees g.A.Allocator.parts g.A.Allocator.unit
    c.args.self.now.0 c.args.self.now.1 c.args.size c.ask.new.self.0 c.ask.new.self.1 c.args.align c.in-Ok.address (returns-in-Ok-clause-ok g c)

pub returns-in-Ok-clause-block : goal.returns-in-Ok-clause-block
returns-in-Ok-clause-block g c = aligned_block g.A.Links.regions g.A.Links.word g.A.Allocator.zeros g.A.Links.follows g.A.Allocator.refuses g.A.Allocator.denies g.A.Allocator.frees g.A.Allocator.parts g.A.Allocator.unit
    c.args.self.now.0 c.args.self.now.1 c.args.size c.ask.new.self.0 c.ask.new.self.1 c.args.align c.in-Ok.address (returns-in-Ok-clause-ok g c)

pub returns-in-Ok-clause-enough : goal.returns-in-Ok-clause-enough
returns-in-Ok-clause-enough g c = block_enough (state_of g.A.Links.word c.ask.new.self.0) c.in-Ok.address c.args.size (returns-in-Ok-clause-block g c)

pub returns-in-Err-clause-ok : goal.returns-in-Err-clause-ok
returns-in-Err-clause-ok g c = on_ok (λ (address : ℕ). IsServedEmptied g.A.Links.regions g.A.Links.word g.A.Allocator.zeros g.A.Links.follows g.A.Allocator.refuses g.A.Allocator.denies g.A.Allocator.frees g.A.Allocator.parts g.A.Allocator.unit
    c.args.self.now.0 c.args.self.now.1 c.args.size c.args.align address c.ask_again.new.self.0 c.ask_again.new.self.1) (λ (address : ℕ). IsServedAligned g.A.Links.regions g.A.Links.word g.A.Allocator.zeros g.A.Links.follows g.A.Allocator.refuses g.A.Allocator.denies g.A.Allocator.frees g.A.Allocator.parts g.A.Allocator.unit
    c.args.self.now.0 c.args.self.now.1 c.args.size c.args.align address c.ask_again.new.self.0 c.ask_again.new.self.1) (λ address served. inr served) c.ask_again.result
    (served_again g.A.Links.regions g.A.Links.word g.A.Allocator.zeros g.A.Links.follows g.A.Allocator.refuses g.A.Allocator.denies g.A.Allocator.frees g.A.Allocator.parts g.A.Allocator.unit
    c.args.self.now.0 c.ask.new.self.0 c.ask_again.new.self.0 c.args.self.now.1 c.ask_again.new.self.1 c.args.size c.args.align c.in-Err.error c.in-Err.ensures.err c.ask_again.result
    (subst (λ (rows : List ℕ). IsAskedAgain g.A.Links.regions g.A.Links.word g.A.Allocator.zeros g.A.Links.follows g.A.Allocator.refuses g.A.Allocator.denies g.A.Allocator.frees g.A.Allocator.parts g.A.Allocator.unit
    c.ask.new.self.0 rows c.args.size c.args.align c.in-Err.error c.ask_again.result c.ask_again.new.self.0 c.ask_again.new.self.1) c.ask.ensures.rows c.ask_again.ensures))

pub returns-in-Err-clause-gained : goal.returns-in-Err-clause-gained
returns-in-Err-clause-gained g c = gained_all_aligned g.A.Links.regions g.A.Links.word g.A.Allocator.zeros g.A.Links.follows g.A.Allocator.refuses g.A.Allocator.denies g.A.Allocator.frees g.A.Allocator.parts g.A.Allocator.unit
    c.args.self.now.0 c.ask_again.new.self.0 c.args.self.now.1 c.ask_again.new.self.1 c.args.size c.args.align c.are_held.ensures.held c.ask_again.result (returns-in-Err-clause-ok g c)

pub returns-in-Err-clause-multiple : goal.returns-in-Err-clause-multiple
returns-in-Err-clause-multiple g c = on_ok (λ (address : ℕ). IsServedAligned g.A.Links.regions g.A.Links.word g.A.Allocator.zeros g.A.Links.follows g.A.Allocator.refuses g.A.Allocator.denies g.A.Allocator.frees g.A.Allocator.parts g.A.Allocator.unit
    c.args.self.now.0 c.args.self.now.1 c.args.size c.args.align address c.ask_again.new.self.0 c.ask_again.new.self.1) (λ (address : ℕ). address % c.args.align ≡ 0)
    (aligned_multiple g.A.Links.regions g.A.Links.word g.A.Allocator.zeros g.A.Links.follows g.A.Allocator.refuses g.A.Allocator.denies g.A.Allocator.frees g.A.Allocator.parts g.A.Allocator.unit
    c.args.self.now.0 c.args.self.now.1 c.args.size c.ask_again.new.self.0 c.ask_again.new.self.1 c.args.align) c.ask_again.result (returns-in-Err-clause-ok g c)

pub returns-in-Err-clause-block : goal.returns-in-Err-clause-block
returns-in-Err-clause-block g c = on_ok (λ (address : ℕ). IsServedAligned g.A.Links.regions g.A.Links.word g.A.Allocator.zeros g.A.Links.follows g.A.Allocator.refuses g.A.Allocator.denies g.A.Allocator.frees g.A.Allocator.parts g.A.Allocator.unit
    c.args.self.now.0 c.args.self.now.1 c.args.size c.args.align address c.ask_again.new.self.0 c.ask_again.new.self.1) (λ (address : ℕ). IsBlock (state_of g.A.Links.word c.ask_again.new.self.0) address c.args.size)
    (aligned_block g.A.Links.regions g.A.Links.word g.A.Allocator.zeros g.A.Links.follows g.A.Allocator.refuses g.A.Allocator.denies g.A.Allocator.frees g.A.Allocator.parts g.A.Allocator.unit
    c.args.self.now.0 c.args.self.now.1 c.args.size c.ask_again.new.self.0 c.ask_again.new.self.1 c.args.align) c.ask_again.result (returns-in-Err-clause-ok g c)

pub returns-in-Err-clause-enough : goal.returns-in-Err-clause-enough
returns-in-Err-clause-enough g c = on_ok (λ (address : ℕ). IsBlock (state_of g.A.Links.word c.ask_again.new.self.0) address c.args.size) (λ (address : ℕ). c.args.size ≤ usable (state_of g.A.Links.word c.ask_again.new.self.0) address)
    (λ address block. block_enough (state_of g.A.Links.word c.ask_again.new.self.0) address c.args.size block) c.ask_again.result (returns-in-Err-clause-block g c)

pub returns-in-Err-clause-err : goal.returns-in-Err-clause-err
returns-in-Err-clause-err g c = refused_again g.A.Links.regions g.A.Links.word g.A.Allocator.zeros g.A.Links.follows g.A.Allocator.refuses g.A.Allocator.denies g.A.Allocator.frees g.A.Allocator.parts g.A.Allocator.unit
    c.args.self.now.0 c.ask.new.self.0 c.ask_again.new.self.0 c.args.self.now.1 c.ask_again.new.self.1 c.args.size c.args.align c.in-Err.error c.in-Err.ensures.err c.ask_again.result
    (subst (λ (rows : List ℕ). IsAskedAgain g.A.Links.regions g.A.Links.word g.A.Allocator.zeros g.A.Links.follows g.A.Allocator.refuses g.A.Allocator.denies g.A.Allocator.frees g.A.Allocator.parts g.A.Allocator.unit
    c.ask.new.self.0 rows c.args.size c.args.align c.in-Err.error c.ask_again.result c.ask_again.new.self.0 c.ask_again.new.self.1) c.ask.ensures.rows c.ask_again.ensures)

pub returns-in-Err-clause-stays : goal.returns-in-Err-clause-stays
returns-in-Err-clause-stays g c = stays_refused g.A.Links.regions g.A.Links.word g.A.Allocator.zeros g.A.Links.follows g.A.Allocator.refuses g.A.Allocator.denies g.A.Allocator.frees g.A.Allocator.parts g.A.Allocator.unit
    c.args.self.now.0 c.ask_again.new.self.0 c.args.self.now.1 c.ask_again.new.self.1 c.ask_again.result
    (live_again g.A.Links.regions g.A.Links.word g.A.Allocator.zeros g.A.Links.follows g.A.Allocator.refuses g.A.Allocator.denies g.A.Allocator.frees g.A.Allocator.parts g.A.Allocator.unit
    c.args.self.now.0 c.ask.new.self.0 c.ask_again.new.self.0 c.args.self.now.1 c.ask_again.new.self.1 c.args.size c.args.align c.in-Err.error c.in-Err.ensures.err c.ask_again.result
    (subst (λ (rows : List ℕ). IsAskedAgain g.A.Links.regions g.A.Links.word g.A.Allocator.zeros g.A.Links.follows g.A.Allocator.refuses g.A.Allocator.denies g.A.Allocator.frees g.A.Allocator.parts g.A.Allocator.unit
    c.ask.new.self.0 rows c.args.size c.args.align c.in-Err.error c.ask_again.result c.ask_again.new.self.0 c.ask_again.new.self.1) c.ask.ensures.rows c.ask_again.ensures))
