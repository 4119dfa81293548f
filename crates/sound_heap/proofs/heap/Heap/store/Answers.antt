use Rattle.std.proofs.Common.{arith, ◌+◌, ◌≤◌, [], ◌∙◌, ap, sym, subst}
use Rattle.heap_memory.specs.Words.{IsStored}
use Rattle.dlmalloc.specs.Heap.{state_of}
use Rattle.sound_heap.specs.Heap.{HasBlock, usable, StaysInState}
use Rattle.sound_heap.proofs.BlockWords.{word_inside, still_intact, still_ordered}
use Rattle.sound_heap.proofs.heap.Heap.store.Goals as goal

pub overflow_add-address : goal.overflow_add-address
overflow_add-address g c =
    let block = subst (λ heap. HasBlock (state_of g.A.Links.word heap) c.args.address) (sym c.self.view_is) c.requires.block in
    let within = subst (λ heap. c.args.offset + 8 ≤ usable (state_of g.A.Links.word heap) c.args.address) (sym c.self.view_is) c.requires.within in
    let small = (word_inside g.A.Links.regions g.A.Links.word c.self.inside.heap c.self.invariant.sound c.args.address block
    c.args.offset within c.requires.aligned).1 in
    omega (arith, small)

pub store-requires : goal.store-requires
store-requires g c =
    let block = subst (λ heap. HasBlock (state_of g.A.Links.word heap) c.args.address) (sym c.self.view_is) c.requires.block in
    let within = subst (λ heap. c.args.offset + 8 ≤ usable (state_of g.A.Links.word heap) c.args.address) (sym c.self.view_is) c.requires.within in
    rw c.allocator_mut.ensures.value (word_inside g.A.Links.regions g.A.Links.word c.self.inside.heap c.self.invariant.sound
    c.args.address block c.args.offset within c.requires.aligned).0

pub invariant_of-self : goal.invariant_of-self
invariant_of-self g c =
    let block = subst (λ heap. HasBlock (state_of g.A.Links.word heap) c.args.address) (sym c.self.view_is) c.requires.block in
    let within = subst (λ heap. c.args.offset + 8 ≤ usable (state_of g.A.Links.word heap) c.args.address) (sym c.self.view_is) c.requires.within in
    let value = c.allocator_mut.ensures.value in
    let stored = subst (λ system. IsStored (g.A.Links.regions system) (g.A.Links.word system)
    (c.args.address + c.args.offset) c.args.value (g.A.Links.word c.store.new.self)) value c.store.ensures.stored in
    (still_intact g.A.Links.regions g.A.Links.word c.self.inside.heap c.self.invariant.sound c.args.address block
    c.law_rests_outside.ensures c.self.invariant.linked
    c.args.offset c.args.value c.store.new.self within c.requires.aligned (c.store.ensures.regions ∙ ap g.A.Links.regions value) stored).0

-- the heap stays in its state
stays : goal.returns-clause-stays
stays g c =
    let block = subst (λ heap. HasBlock (state_of g.A.Links.word heap) c.args.address) (sym c.self.view_is) c.requires.block in
    let within = subst (λ heap. c.args.offset + 8 ≤ usable (state_of g.A.Links.word heap) c.args.address) (sym c.self.view_is) c.requires.within in
    let value = c.allocator_mut.ensures.value in
    let same = c.store.ensures.regions ∙ ap g.A.Links.regions value in
    let stored = subst (λ system. IsStored (g.A.Links.regions system) (g.A.Links.word system)
    (c.args.address + c.args.offset) c.args.value (g.A.Links.word c.store.new.self)) value c.store.ensures.stored in
    subst (λ heap. StaysInState g.A.Links.regions g.A.Links.word g.A.Links.follows heap
    (record c.self.inside.heap { system = c.store.new.self })) c.self.view_is (record {
      state = (still_intact g.A.Links.regions g.A.Links.word c.self.inside.heap c.self.invariant.sound c.args.address
          block c.law_rests_outside.ensures c.self.invariant.linked c.args.offset c.args.value c.store.new.self within
          c.requires.aligned same stored).1;
      regions_same = same;
      followed = subst (λ system. g.A.Links.follows system [] c.store.new.self) value c.store.ensures.follows;
      index = still_ordered g.A.Links.regions g.A.Links.word c.self.inside.heap c.self.invariant.sound c.args.address
          block c.law_order_rests_outside.ensures c.args.offset c.args.value c.store.new.self within c.requires.aligned
          same stored;
    })

pub returns-clause-stays : goal.returns-clause-stays
returns-clause-stays g c = stays g c

pub returns-clause-block : goal.returns-clause-block
returns-clause-block g c = subst (λ heap. HasBlock heap c.args.address) (sym (stays g c).state) c.requires.block

pub returns-clause-usable : goal.returns-clause-usable
returns-clause-usable g c = ap (λ heap. usable heap c.args.address) (stays g c).state
