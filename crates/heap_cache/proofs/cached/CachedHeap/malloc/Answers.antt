use Rattle.std.proofs.Common.{List, ℕ, ◌≤◌, inl, refl, subst}
use Rattle.heap_cache.specs.Served.{IsAskedAgain, IsServed}
use Rattle.dlmalloc.specs.Heap.{state_of}
use Rattle.dlmalloc.specs.Blocks.{IsBlock, usable}
use Rattle.heap_cache.proofs.ServeLemmas.{served_after_none, refused_after_none, live_again, served_block, block_enough, on_ok}
use Rattle.heap_cache.proofs.LiveLemmas.{gained, gained_served, stays_refused}
use Rattle.heap_cache.proofs.cached.CachedHeap.malloc.Goals as goal

pub returns-in-Ok-clause-ok : goal.returns-in-Ok-clause-ok
returns-in-Ok-clause-ok g c = inl c.in-Ok.ensures.ok

pub returns-in-Ok-clause-gained : goal.returns-in-Ok-clause-gained
returns-in-Ok-clause-gained g c = gained_served g.A.Links.regions g.A.Links.word g.A.Allocator.zeros g.A.Links.follows g.A.Allocator.refuses g.A.Allocator.denies g.A.Allocator.frees g.A.Allocator.parts g.A.Allocator.unit
    c.args.self.now.0 c.give.new.self.0 c.args.self.now.1 c.give.new.self.1 c.args.size c.in-Ok.address c.are_held.ensures.within c.are_held.ensures.held (inl c.in-Ok.ensures.ok)

pub returns-in-Err-clause-ok : goal.returns-in-Err-clause-ok
returns-in-Err-clause-ok g c = served_after_none g.A.Links.regions g.A.Links.word g.A.Allocator.zeros g.A.Links.follows g.A.Allocator.refuses g.A.Allocator.denies g.A.Allocator.frees g.A.Allocator.parts g.A.Allocator.unit
    c.args.self.now.0 c.give.new.self.0 c.ask_again.new.self.0 c.args.self.now.1 c.ask_again.new.self.1 c.args.size 16 c.in-Err.error c.in-Err.ensures.err c.in-Err.ensures.none refl c.ask_again.result
    (subst (λ (rows : List ℕ). IsAskedAgain g.A.Links.regions g.A.Links.word g.A.Allocator.zeros g.A.Links.follows g.A.Allocator.refuses g.A.Allocator.denies g.A.Allocator.frees g.A.Allocator.parts g.A.Allocator.unit
    c.give.new.self.0 rows c.args.size 16 c.in-Err.error c.ask_again.result c.ask_again.new.self.0 c.ask_again.new.self.1) c.in-Err.ensures.same c.ask_again.ensures)

pub returns-in-Err-clause-gained : goal.returns-in-Err-clause-gained
returns-in-Err-clause-gained g c = gained g.A.Links.regions g.A.Links.word g.A.Allocator.zeros g.A.Links.follows g.A.Allocator.refuses g.A.Allocator.denies g.A.Allocator.frees g.A.Allocator.parts g.A.Allocator.unit
    c.args.self.now.0 c.ask_again.new.self.0 c.args.self.now.1 c.ask_again.new.self.1 c.args.size c.are_held.ensures.within c.are_held.ensures.held c.ask_again.result (returns-in-Err-clause-ok g c)

pub returns-in-Err-clause-err : goal.returns-in-Err-clause-err
returns-in-Err-clause-err g c = refused_after_none g.A.Links.regions g.A.Links.word g.A.Allocator.zeros g.A.Links.follows g.A.Allocator.refuses g.A.Allocator.denies g.A.Allocator.frees g.A.Allocator.parts g.A.Allocator.unit
    c.args.self.now.0 c.give.new.self.0 c.ask_again.new.self.0 c.args.self.now.1 c.ask_again.new.self.1 c.args.size 16 c.in-Err.error c.in-Err.ensures.err c.in-Err.ensures.none refl c.ask_again.result
    (subst (λ (rows : List ℕ). IsAskedAgain g.A.Links.regions g.A.Links.word g.A.Allocator.zeros g.A.Links.follows g.A.Allocator.refuses g.A.Allocator.denies g.A.Allocator.frees g.A.Allocator.parts g.A.Allocator.unit
    c.give.new.self.0 rows c.args.size 16 c.in-Err.error c.ask_again.result c.ask_again.new.self.0 c.ask_again.new.self.1) c.in-Err.ensures.same c.ask_again.ensures)

pub returns-in-Err-clause-stays : goal.returns-in-Err-clause-stays
returns-in-Err-clause-stays g c = stays_refused g.A.Links.regions g.A.Links.word g.A.Allocator.zeros g.A.Links.follows g.A.Allocator.refuses g.A.Allocator.denies g.A.Allocator.frees g.A.Allocator.parts g.A.Allocator.unit
    c.args.self.now.0 c.ask_again.new.self.0 c.args.self.now.1 c.ask_again.new.self.1 c.ask_again.result
    (live_again g.A.Links.regions g.A.Links.word g.A.Allocator.zeros g.A.Links.follows g.A.Allocator.refuses g.A.Allocator.denies g.A.Allocator.frees g.A.Allocator.parts g.A.Allocator.unit
    c.args.self.now.0 c.give.new.self.0 c.ask_again.new.self.0 c.args.self.now.1 c.ask_again.new.self.1 c.args.size 16 c.in-Err.error c.in-Err.ensures.err c.ask_again.result
    (subst (λ (rows : List ℕ). IsAskedAgain g.A.Links.regions g.A.Links.word g.A.Allocator.zeros g.A.Links.follows g.A.Allocator.refuses g.A.Allocator.denies g.A.Allocator.frees g.A.Allocator.parts g.A.Allocator.unit
    c.give.new.self.0 rows c.args.size 16 c.in-Err.error c.ask_again.result c.ask_again.new.self.0 c.ask_again.new.self.1) c.in-Err.ensures.same c.ask_again.ensures))

pub returns-in-Ok-clause-block : goal.returns-in-Ok-clause-block
returns-in-Ok-clause-block g c = served_block g.A.Links.regions g.A.Links.word g.A.Allocator.zeros g.A.Links.follows g.A.Allocator.refuses g.A.Allocator.denies g.A.Allocator.frees g.A.Allocator.parts g.A.Allocator.unit
    c.args.self.now.0 c.args.self.now.1 c.args.size c.give.new.self.0 c.give.new.self.1 c.in-Ok.address (inl c.in-Ok.ensures.ok)

pub returns-in-Ok-clause-enough : goal.returns-in-Ok-clause-enough
returns-in-Ok-clause-enough g c = block_enough (state_of g.A.Links.word c.give.new.self.0) c.in-Ok.address c.args.size (returns-in-Ok-clause-block g c)

pub returns-in-Err-clause-block : goal.returns-in-Err-clause-block
returns-in-Err-clause-block g c = on_ok (λ (address : ℕ). IsServed g.A.Links.regions g.A.Links.word g.A.Allocator.zeros g.A.Links.follows g.A.Allocator.refuses g.A.Allocator.denies g.A.Allocator.frees g.A.Allocator.parts g.A.Allocator.unit
    c.args.self.now.0 c.args.self.now.1 c.args.size address c.ask_again.new.self.0 c.ask_again.new.self.1) (λ (address : ℕ). IsBlock (state_of g.A.Links.word c.ask_again.new.self.0) address c.args.size)
    (served_block g.A.Links.regions g.A.Links.word g.A.Allocator.zeros g.A.Links.follows g.A.Allocator.refuses g.A.Allocator.denies g.A.Allocator.frees g.A.Allocator.parts g.A.Allocator.unit
    c.args.self.now.0 c.args.self.now.1 c.args.size c.ask_again.new.self.0 c.ask_again.new.self.1) c.ask_again.result (returns-in-Err-clause-ok g c)

pub returns-in-Err-clause-enough : goal.returns-in-Err-clause-enough
returns-in-Err-clause-enough g c = on_ok (λ (address : ℕ). IsBlock (state_of g.A.Links.word c.ask_again.new.self.0) address c.args.size) (λ (address : ℕ). c.args.size ≤ usable (state_of g.A.Links.word c.ask_again.new.self.0) address)
    (λ address block. block_enough (state_of g.A.Links.word c.ask_again.new.self.0) address c.args.size block) c.ask_again.result (returns-in-Err-clause-block g c)
