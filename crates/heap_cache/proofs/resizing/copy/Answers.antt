use Rattle.std.proofs.Common.{◌≤◌, ◌⊎◌, ◌+◌, ◌*◌, ℕ, ◌∙◌, [], ap, subst, sym}
use Rattle.heap_memory.specs.Words.{AreWordsOf, AreCopied}
use Rattle.dlmalloc.specs.Heap.{state_of}
use Rattle.dlmalloc.specs.Blocks.{HasBlock, usable}
use Rattle.dlmalloc.specs.Written.{words_in}
use Rattle.dlmalloc.specs.declared.heap.Dlmalloc.{Dlmalloc}
use Rattle.dlmalloc.proofs.Blocks.Words.{block_words}
use Rattle.heap_cache.specs.Resized.{IsCopied}
use Rattle.heap_cache.specs.Live.{IsOtherBlock, KeepBytes}
use Rattle.heap_cache.proofs.ClearLemmas.{written_intact, written_stays, written_others}
use Rattle.heap_cache.proofs.MoveLemmas.{full_block, words_apart}
use Rattle.heap_cache.proofs.resizing.copy.Goals as goal

pub copy_counted-requires-clause-from : goal.copy_counted-requires-clause-from
copy_counted-requires-clause-from g c =
    let block = full_block (state_of g.A.Links.word c.heap.inside.heap) c.args.from (subst (λ (was : Dlmalloc g.row.A.Denot). HasBlock (state_of g.A.Links.word was) c.args.from) (sym c.heap.view_is) c.requires.from) in
    let within = subst (λ (was : Dlmalloc g.row.A.Denot). c.args.count ≤ usable (state_of g.A.Links.word was) c.args.from) (sym c.heap.view_is) c.requires.within in
    let words = block_words {regions = g.A.Links.regions} c.heap.invariant.sound block c.args.count within in
    subst (λ (count : ℕ). AreWordsOf (g.A.Links.regions c.allocator_mut.result.now) c.args.from count) (sym c.words_in.ensures)
    (subst (λ (system : g.row.A.Denot). AreWordsOf (g.A.Links.regions system) c.args.from (words_in c.args.count)) (sym c.allocator_mut.ensures.value) words)

pub copy_counted-requires-clause-to : goal.copy_counted-requires-clause-to
copy_counted-requires-clause-to g c =
    let block = full_block (state_of g.A.Links.word c.heap.inside.heap) c.args.to (subst (λ (was : Dlmalloc g.row.A.Denot). HasBlock (state_of g.A.Links.word was) c.args.to) (sym c.heap.view_is) c.requires.to) in
    let room = subst (λ (was : Dlmalloc g.row.A.Denot). c.args.count ≤ usable (state_of g.A.Links.word was) c.args.to) (sym c.heap.view_is) c.requires.room in
    let words = block_words {regions = g.A.Links.regions} c.heap.invariant.sound block c.args.count room in
    subst (λ (count : ℕ). AreWordsOf (g.A.Links.regions c.allocator_mut.result.now) c.args.to count) (sym c.words_in.ensures)
    (subst (λ (system : g.row.A.Denot). AreWordsOf (g.A.Links.regions system) c.args.to (words_in c.args.count)) (sym c.allocator_mut.ensures.value) words)

pub copy_counted-requires-clause-apart : goal.copy_counted-requires-clause-apart
copy_counted-requires-clause-apart g c =
    let heap = c.heap.inside.heap in
    let one = subst (λ (was : Dlmalloc g.row.A.Denot). HasBlock (state_of g.A.Links.word was) c.args.from) (sym c.heap.view_is) c.requires.from in
    let two = subst (λ (was : Dlmalloc g.row.A.Denot). HasBlock (state_of g.A.Links.word was) c.args.to) (sym c.heap.view_is) c.requires.to in
    let within = subst (λ (was : Dlmalloc g.row.A.Denot). c.args.count ≤ usable (state_of g.A.Links.word was) c.args.from) (sym c.heap.view_is) c.requires.within in
    let room = subst (λ (was : Dlmalloc g.row.A.Denot). c.args.count ≤ usable (state_of g.A.Links.word was) c.args.to) (sym c.heap.view_is) c.requires.room in
    subst (λ (count : ℕ). (c.args.from + 8 * count ≤ c.args.to) ⊎ (c.args.to + 8 * count ≤ c.args.from)) (sym c.words_in.ensures)
    (words_apart g.A.Links.regions g.A.Links.word heap c.heap.invariant.sound c.args.from c.args.to c.args.count one two c.requires.apart within room)

pub invariant_of-heap : goal.invariant_of-heap
invariant_of-heap g c =
    let heap = c.heap.inside.heap in
    let two = subst (λ (was : Dlmalloc g.row.A.Denot). HasBlock (state_of g.A.Links.word was) c.args.to) (sym c.heap.view_is) c.requires.to in
    let room = subst (λ (was : Dlmalloc g.row.A.Denot). c.args.count ≤ usable (state_of g.A.Links.word was) c.args.to) (sym c.heap.view_is) c.requires.room in
    let same = c.copy_counted.ensures.regions ∙ ap g.A.Links.regions c.allocator_mut.ensures.value in
    let copied = subst (λ (count : ℕ). AreCopied (g.A.Links.regions heap.system) (g.A.Links.word heap.system) c.args.from c.args.to count (g.A.Links.word c.copy_counted.new.self)) c.words_in.ensures
    (subst (λ (system : g.row.A.Denot). AreCopied (g.A.Links.regions system) (g.A.Links.word system) c.args.from c.args.to c.words_in.result (g.A.Links.word c.copy_counted.new.self)) c.allocator_mut.ensures.value c.copy_counted.ensures.copied) in
    written_intact g.A.Links.regions g.A.Links.word heap c.heap.invariant c.args.to (usable (state_of g.A.Links.word heap) c.args.to) (full_block (state_of g.A.Links.word heap) c.args.to two) c.args.count room
    c.copy_counted.new.self same copied.elsewhere c.law_rests_outside.ensures

pub returns-clause-copied : goal.returns-clause-copied
returns-clause-copied g c =
    let heap = c.heap.inside.heap in
    let two = subst (λ (was : Dlmalloc g.row.A.Denot). HasBlock (state_of g.A.Links.word was) c.args.to) (sym c.heap.view_is) c.requires.to in
    let room = subst (λ (was : Dlmalloc g.row.A.Denot). c.args.count ≤ usable (state_of g.A.Links.word was) c.args.to) (sym c.heap.view_is) c.requires.room in
    let same = c.copy_counted.ensures.regions ∙ ap g.A.Links.regions c.allocator_mut.ensures.value in
    let copied = subst (λ (count : ℕ). AreCopied (g.A.Links.regions heap.system) (g.A.Links.word heap.system) c.args.from c.args.to count (g.A.Links.word c.copy_counted.new.self)) c.words_in.ensures
    (subst (λ (system : g.row.A.Denot). AreCopied (g.A.Links.regions system) (g.A.Links.word system) c.args.from c.args.to c.words_in.result (g.A.Links.word c.copy_counted.new.self)) c.allocator_mut.ensures.value c.copy_counted.ensures.copied) in
    let followed = subst (λ (system : g.row.A.Denot). g.A.Links.follows system [] c.copy_counted.new.self) c.allocator_mut.ensures.value c.copy_counted.ensures.follows in
    subst (λ (was : Dlmalloc g.row.A.Denot). IsCopied g.A.Links.regions g.A.Links.word g.A.Links.follows was c.args.from c.args.to c.args.count (record heap { system = c.copy_counted.new.self })) c.heap.view_is
    (record {
      copied = copied;
      stays = written_stays g.A.Links.regions g.A.Links.word heap c.heap.invariant c.args.to (usable (state_of g.A.Links.word heap) c.args.to) (full_block (state_of g.A.Links.word heap) c.args.to two) c.args.count room
          c.copy_counted.new.self same copied.elsewhere g.A.Links.follows followed c.law_rests_outside.ensures c.law_order_rests_outside.ensures;
    })

pub returns-clause-others : goal.returns-clause-others
returns-clause-others g c =
    let heap = c.heap.inside.heap in
    let two = subst (λ (was : Dlmalloc g.row.A.Denot). HasBlock (state_of g.A.Links.word was) c.args.to) (sym c.heap.view_is) c.requires.to in
    let room = subst (λ (was : Dlmalloc g.row.A.Denot). c.args.count ≤ usable (state_of g.A.Links.word was) c.args.to) (sym c.heap.view_is) c.requires.room in
    let same = c.copy_counted.ensures.regions ∙ ap g.A.Links.regions c.allocator_mut.ensures.value in
    let copied = subst (λ (count : ℕ). AreCopied (g.A.Links.regions heap.system) (g.A.Links.word heap.system) c.args.from c.args.to count (g.A.Links.word c.copy_counted.new.self)) c.words_in.ensures
    (subst (λ (system : g.row.A.Denot). AreCopied (g.A.Links.regions system) (g.A.Links.word system) c.args.from c.args.to c.words_in.result (g.A.Links.word c.copy_counted.new.self)) c.allocator_mut.ensures.value c.copy_counted.ensures.copied) in
    subst (λ (was : Dlmalloc g.row.A.Denot). KeepBytes g.A.Links.word was (record heap { system = c.copy_counted.new.self }) (IsOtherBlock (state_of g.A.Links.word was) c.args.to)) c.heap.view_is
    (written_others g.A.Links.regions g.A.Links.word heap c.heap.invariant c.args.to (usable (state_of g.A.Links.word heap) c.args.to) (full_block (state_of g.A.Links.word heap) c.args.to two) c.args.count room
    c.copy_counted.new.self same copied.elsewhere c.law_rests_outside.ensures)
