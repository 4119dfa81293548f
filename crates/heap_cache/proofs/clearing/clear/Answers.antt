use Rattle.std.proofs.Common.{ℕ, ◌∙◌, [], ap, arith, subst, sym}
use Rattle.heap_memory.specs.Words.{AreWordsOf, AreFilled}
use Rattle.dlmalloc.specs.Heap.{state_of}
use Rattle.dlmalloc.specs.Blocks.{IsBlock}
use Rattle.dlmalloc.specs.Written.{words_in}
use Rattle.dlmalloc.specs.declared.heap.Dlmalloc.{Dlmalloc}
use Rattle.dlmalloc.proofs.Blocks.Words.{block_words}
use Rattle.heap_cache.specs.Cleared.{IsCleared}
use Rattle.heap_cache.specs.Live.{IsOtherBlock, KeepBytes}
use Rattle.heap_cache.proofs.ClearLemmas.{written_intact, written_stays, written_others}
use Rattle.heap_cache.proofs.clearing.clear.Goals as goal

pub fill_counted-requires : goal.fill_counted-requires
fill_counted-requires g c =
    let block = subst (λ (was : Dlmalloc g.row.A.Denot). IsBlock (state_of g.A.Links.word was) c.args.address c.args.size) (sym c.heap.view_is) c.requires.block in
    let words = block_words {regions = g.A.Links.regions} c.heap.invariant.sound block c.args.size (omega arith) in
    subst (λ (count : ℕ). AreWordsOf (g.A.Links.regions c.allocator_mut.result.now) c.args.address count) (sym c.words_in.ensures)
    (subst (λ (system : g.row.A.Denot). AreWordsOf (g.A.Links.regions system) c.args.address (words_in c.args.size)) (sym c.allocator_mut.ensures.value) words)

pub invariant_of-heap : goal.invariant_of-heap
invariant_of-heap g c =
    let heap = c.heap.inside.heap in
    let block = subst (λ (was : Dlmalloc g.row.A.Denot). IsBlock (state_of g.A.Links.word was) c.args.address c.args.size) (sym c.heap.view_is) c.requires.block in
    let same = c.fill_counted.ensures.regions ∙ ap g.A.Links.regions c.allocator_mut.ensures.value in
    let filled = subst (λ (count : ℕ). AreFilled (g.A.Links.regions heap.system) (g.A.Links.word heap.system) c.args.address count 0 (g.A.Links.word c.fill_counted.new.self)) c.words_in.ensures
    (subst (λ (system : g.row.A.Denot). AreFilled (g.A.Links.regions system) (g.A.Links.word system) c.args.address c.words_in.result 0 (g.A.Links.word c.fill_counted.new.self)) c.allocator_mut.ensures.value c.fill_counted.ensures.filled) in
    written_intact g.A.Links.regions g.A.Links.word heap c.heap.invariant c.args.address c.args.size block c.args.size (omega arith) c.fill_counted.new.self same filled.elsewhere c.law_rests_outside.ensures

pub returns-clause-cleared : goal.returns-clause-cleared
returns-clause-cleared g c =
    let heap = c.heap.inside.heap in
    let block = subst (λ (was : Dlmalloc g.row.A.Denot). IsBlock (state_of g.A.Links.word was) c.args.address c.args.size) (sym c.heap.view_is) c.requires.block in
    let same = c.fill_counted.ensures.regions ∙ ap g.A.Links.regions c.allocator_mut.ensures.value in
    let filled = subst (λ (count : ℕ). AreFilled (g.A.Links.regions heap.system) (g.A.Links.word heap.system) c.args.address count 0 (g.A.Links.word c.fill_counted.new.self)) c.words_in.ensures
    (subst (λ (system : g.row.A.Denot). AreFilled (g.A.Links.regions system) (g.A.Links.word system) c.args.address c.words_in.result 0 (g.A.Links.word c.fill_counted.new.self)) c.allocator_mut.ensures.value c.fill_counted.ensures.filled) in
    let followed = subst (λ (system : g.row.A.Denot). g.A.Links.follows system [] c.fill_counted.new.self) c.allocator_mut.ensures.value c.fill_counted.ensures.follows in
    subst (λ (was : Dlmalloc g.row.A.Denot). IsCleared g.A.Links.regions g.A.Links.word g.A.Links.follows was c.args.size c.args.address (record heap { system = c.fill_counted.new.self })) c.heap.view_is
    (record {
      filled = filled;
      zero = λ k low high whole. filled.here k low (omega (arith, high)) whole;
      stays = written_stays g.A.Links.regions g.A.Links.word heap c.heap.invariant c.args.address c.args.size block c.args.size (omega arith) c.fill_counted.new.self same filled.elsewhere g.A.Links.follows followed c.law_rests_outside.ensures c.law_order_rests_outside.ensures;
    })

pub returns-clause-others : goal.returns-clause-others
returns-clause-others g c =
    let heap = c.heap.inside.heap in
    let block = subst (λ (was : Dlmalloc g.row.A.Denot). IsBlock (state_of g.A.Links.word was) c.args.address c.args.size) (sym c.heap.view_is) c.requires.block in
    let same = c.fill_counted.ensures.regions ∙ ap g.A.Links.regions c.allocator_mut.ensures.value in
    let filled = subst (λ (count : ℕ). AreFilled (g.A.Links.regions heap.system) (g.A.Links.word heap.system) c.args.address count 0 (g.A.Links.word c.fill_counted.new.self)) c.words_in.ensures
    (subst (λ (system : g.row.A.Denot). AreFilled (g.A.Links.regions system) (g.A.Links.word system) c.args.address c.words_in.result 0 (g.A.Links.word c.fill_counted.new.self)) c.allocator_mut.ensures.value c.fill_counted.ensures.filled) in
    subst (λ (was : Dlmalloc g.row.A.Denot). KeepBytes g.A.Links.word was (record heap { system = c.fill_counted.new.self }) (IsOtherBlock (state_of g.A.Links.word was) c.args.address)) c.heap.view_is
    (written_others g.A.Links.regions g.A.Links.word heap c.heap.invariant c.args.address c.args.size block c.args.size (omega arith) c.fill_counted.new.self same filled.elsewhere c.law_rests_outside.ensures)
