use Rattle.dlmalloc.proofs.Names.{refl, sym, subst, arith, AreWordsOf, IsSameHeap, words_in}
use Rattle.heap_memory.specs.Words.{AreFilled}
use Rattle.dlmalloc.proofs.Blocks.Words.{block_words, same_heap, same_binned}
use Rattle.dlmalloc.proofs.Blocks.GivenSize.{handed_written}
use Rattle.dlmalloc.proofs.heap.Dlmalloc.calloc.Goals as goal
use Rattle.dlmalloc.proofs.heap.Dlmalloc.calloc.Goals.{After-fill_counted}

pub fill_counted-requires : goal.fill_counted-requires
fill_counted-requires g c =
    let handed = c.in-Ok.ensures.allocated.handed in
    subst (λ n. AreWordsOf (g.A.Links.regions c.malloc.new.self.system) c.in-Ok.address n) (sym c.words_in.ensures)
    (block_words handed.sound handed.block c.args.size (omega arith))

-- the words that hold the block's bytes are cleared
cleared : (g : _) (c : After-fill_counted g) → AreFilled (g.A.Links.regions c.malloc.new.self.system) (g.A.Links.word c.malloc.new.self.system)
    c.in-Ok.address (words_in c.args.size) 0 (g.A.Links.word c.fill_counted.new.self)
cleared g c = subst (λ n. AreFilled (g.A.Links.regions c.malloc.new.self.system) (g.A.Links.word c.malloc.new.self.system) c.in-Ok.address n 0
    (g.A.Links.word c.fill_counted.new.self)) c.words_in.ensures c.fill_counted.ensures.filled

-- and the heap is the same
same : (g : _) (c : After-fill_counted g) →
    IsSameHeap g.A.Links.regions g.A.Links.word g.A.Links.follows c.malloc.new.self (record c.malloc.new.self { system = c.fill_counted.new.self })
same g c =
    let handed = c.in-Ok.ensures.allocated.handed in let filled = c.fill_counted.ensures in
    same_heap handed.sound handed.block g.A.Links.follows c.args.size (omega arith) _ filled.regions filled.follows (cleared g c).elsewhere

pub returns-in-Ok-clause-allocated : goal.returns-in-Ok-clause-allocated
returns-in-Ok-clause-allocated g c =
    let now = (goal.at.returns-in-Ok-clause-allocated g c).After-fill_counted in
    let allocated = c.in-Ok.ensures.allocated in let handed = allocated.handed in
    record {
      served = record {
        middle = c.malloc.new.self;
        served = allocated.served;
        handed = handed;
        cleared = cleared g now;
        same = same g now;
        index = λ b. (
          same_binned handed.sound handed.block c.law_index_stays.ensures c.args.size (omega arith) c.fill_counted.new.self
              c.fill_counted.ensures.regions (cleared g now).elsewhere b,
          λ n. refl,
        );
      };
      handed = handed_written g.A.Links.follows_on c.malloc.new.self handed (same g now) (cleared g now).elsewhere;
      member = allocated.member;
    }

pub returns-in-Ok-clause-intact : goal.returns-in-Ok-clause-intact
returns-in-Ok-clause-intact g c =
    let now = (goal.at.returns-in-Ok-clause-intact g c).After-fill_counted in let handed = c.in-Ok.ensures.allocated.handed in
    record {
      sound = (same g now).sound;
      linked = same_binned handed.sound handed.block c.law_index_stays.ensures c.args.size (omega arith) c.fill_counted.new.self
          c.fill_counted.ensures.regions (cleared g now).elsewhere c.malloc.ensures.intact.linked;
    }
