use Rattle.dlmalloc.proofs.Names.{◌≡◌, ◌+◌, true, false, nat_le, nat_lt, Some, sym, ◌∙◌, ap, arith, nat_tests, Free, extent_at, extents_in, state_of}
use Rattle.dlmalloc.proofs.Extents.Lookup.{extent}
use Rattle.std.proofs.lemmas.Bool.{not-false, not-true}
use Rattle.dlmalloc.proofs.Cuts.OneStepOrTwo.{as_turned}
use Rattle.dlmalloc.proofs.Bins.Changes.{binned_beside}
use Rattle.dlmalloc.proofs.Frees.WhatCallsWant.{head_there, behind_there, behind_small}
use Rattle.dlmalloc.proofs.Resizing.InPlace.{shrinks, stays, grows, has_no_room, chunk_told, top_behind, free_behind, used_behind}
use Rattle.dlmalloc.proofs.Bins.Order.{order_same, bins_kept, turned_same}
use Rattle.dlmalloc.proofs.heap.Dlmalloc.resize_chunk.Goals as goal
use Rattle.dlmalloc.proofs.heap.Dlmalloc.resize_chunk.Goals.{After-size-free}

pub size-size-requires : goal.size-size-requires
size-size-requires g c = head_there c.requires.intact.sound c.requires.chunk.1

pub free_tail-requires-clause-split : goal.free_tail-requires-clause-split
free_tail-requires-clause-split g c = record {
  chunk = chunk_told c.requires.intact.sound c.requires.chunk.1 c.size-size.ensures.value;
  bytes = c.requires.bytes;
  room = (let fits = c.if-n-size.true in let rest = c.if-size-n-ge-LEAST_CHUNK.true in omega arith);
}

pub returns-then-size-n-ge-LEAST_CHUNK-clause-resized : goal.returns-then-size-n-ge-LEAST_CHUNK-clause-resized
returns-then-size-n-ge-LEAST_CHUNK-clause-resized g c =
    let there = chunk_told c.requires.intact.sound c.requires.chunk.1 c.size-size.ensures.value in
    let fits = c.if-n-size.true in let rest = c.if-size-n-ge-LEAST_CHUNK.true in
    λ yes. shrinks (state_of g.A.Links.word c.args.self.now) c.args.n there (omega arith) ∙ ap Some (sym c.free_tail.ensures.state)

pub returns-else-size-n-ge-LEAST_CHUNK-clause-resized : goal.returns-else-size-n-ge-LEAST_CHUNK-clause-resized
returns-else-size-n-ge-LEAST_CHUNK-clause-resized g c =
    let there = chunk_told c.requires.intact.sound c.requires.chunk.1 c.size-size.ensures.value in
    let fits = c.if-n-size.true in let few = c.if-size-n-ge-LEAST_CHUNK.false in
    λ yes. stays (state_of g.A.Links.word c.args.self.now) c.args.n there fits (omega arith)

pub returns-else-size-n-ge-LEAST_CHUNK-clause-held : goal.returns-else-size-n-ge-LEAST_CHUNK-clause-held
returns-else-size-n-ge-LEAST_CHUNK-clause-held g c =
    let there = chunk_told c.requires.intact.sound c.requires.chunk.1 c.size-size.ensures.value in
    let fits = c.if-n-size.true in let few = c.if-size-n-ge-LEAST_CHUNK.false in
    λ yes. (c.size-size.result, there, fits, omega arith)

pub overflow_add-next : goal.overflow_add-next
overflow_add-next g c =
    let there = chunk_told c.requires.intact.sound c.requires.chunk.1 c.size-size.ensures.value in
    let small = behind_small c.requires.intact.sound there in grind arith

pub returns-then-more-self-clause-none : goal.returns-then-more-self-clause-none
returns-then-more-self-clause-none g c =
    let there = chunk_told c.requires.intact.sound c.requires.chunk.1 c.size-size.ensures.value in
    let more = c.if-n-size.false in let little = c.if-more-self.true in
    let room : nat_lt c.args.n (c.size-size.result + c.args.self.now.top_size) ≡ false = grind (arith, nat_tests) in
    λ no. has_no_room (state_of g.A.Links.word c.args.self.now) c.args.n there more (top_behind c.requires.intact.sound there c.if-next-self.true) room

pub grow_into_top-requires-clause-take : goal.grow_into_top-requires-clause-take
grow_into_top-requires-clause-take g c = record {
  chunk = chunk_told c.requires.intact.sound c.requires.chunk.1 c.size-size.ensures.value;
  next = c.if-next-self.true;
  whole = c.requires.bytes.whole;
  more = c.if-n-size.false;
  room = (let more = c.if-n-size.false in let much = c.if-more-self.false in omega arith);
}

pub returns-then-next-self-clause-resized : goal.returns-then-next-self-clause-resized
returns-then-next-self-clause-resized g c =
    let there = chunk_told c.requires.intact.sound c.requires.chunk.1 c.size-size.ensures.value in
    let more = c.if-n-size.false in let much = c.if-more-self.false in
    let room : nat_lt c.args.n (c.size-size.result + c.args.self.now.top_size) ≡ true = grind (arith, nat_tests) in
    λ yes. grows (state_of g.A.Links.word c.args.self.now) c.args.n there more
    (top_behind c.requires.intact.sound there c.if-next-self.true) room ∙ ap Some (sym c.grow_into_top.ensures.grown.state)

pub inuse-requires : goal.inuse-requires
inuse-requires g c =
    let there = chunk_told c.requires.intact.sound c.requires.chunk.1 c.size-size.ensures.value in
    behind_there c.requires.intact.sound there

pub returns-then-inuse-clause-none : goal.returns-then-inuse-clause-none
returns-then-inuse-clause-none g c =
    let there = chunk_told c.requires.intact.sound c.requires.chunk.1 c.size-size.ensures.value in
    λ no. used_behind c.requires.intact.sound there c.if-next-self.false c.args.n c.if-n-size.false (not-true _ (sym c.inuse.ensures.value ∙ c.if-inuse.true))

-- the chunk after it is free, and has the size that was read
free_chunk : (g : _) (c : After-size-free g) → extent_at (c.args.at + c.size-size.result) (extents_in (state_of g.A.Links.word c.args.self.now))
    ≡ Some (extent (c.args.at + c.size-size.result) c.size-free.result Free)
free_chunk g c = free_behind c.requires.intact.sound (chunk_told c.requires.intact.sound c.requires.chunk.1 c.size-size.ensures.value) c.if-next-self.false
    (not-false _ (sym c.inuse.ensures.value ∙ c.if-inuse.false)) c.size-free.ensures.value

pub size-free-requires : goal.size-free-requires
size-free-requires g c =
    let there = chunk_told c.requires.intact.sound c.requires.chunk.1 c.size-size.ensures.value in
    behind_there c.requires.intact.sound there

pub returns-then-free-more-clause-none : goal.returns-then-free-more-clause-none
returns-then-free-more-clause-none g c =
    let there = chunk_told c.requires.intact.sound c.requires.chunk.1 c.size-size.ensures.value in
    let more = c.if-n-size.false in let little = c.if-free-more.true in
    let room : nat_le c.args.n (c.size-size.result + c.size-free.result) ≡ false = grind (arith, nat_tests) in
    let free = free_chunk g (goal.at.returns-then-free-more-clause-none g c).After-size-free in
    λ no. has_no_room (state_of g.A.Links.word c.args.self.now) c.args.n there more free room

pub grow_into_free-requires-clause-take : goal.grow_into_free-requires-clause-take
grow_into_free-requires-clause-take g c = record {
  chunk = chunk_told c.requires.intact.sound c.requires.chunk.1 c.size-size.ensures.value;
  next = free_chunk g (goal.at.grow_into_free-requires-clause-take g c).After-size-free;
  whole = c.requires.bytes.whole;
  more = c.if-n-size.false;
  room = (let more = c.if-n-size.false in let much = c.if-free-more.false in omega arith);
}

pub returns-clause-resized : goal.returns-clause-resized
returns-clause-resized g c =
    let there = chunk_told c.requires.intact.sound c.requires.chunk.1 c.size-size.ensures.value in
    let more = c.if-n-size.false in let much = c.if-free-more.false in
    let room : nat_le c.args.n (c.size-size.result + c.size-free.result) ≡ true = grind (arith, nat_tests) in
    let free = free_chunk g (goal.at.returns-clause-resized g c).After-size-free in
    λ yes. grows (state_of g.A.Links.word c.args.self.now) c.args.n there more free room ∙ ap Some (sym c.grow_into_free.ensures.state)

pub returns-then-next-self-clause-turned : goal.returns-then-next-self-clause-turned
returns-then-next-self-clause-turned g c =
    let e = c.grow_into_top.ensures.grown in
    record {
      moved = as_turned e.moves.moved;
      bins = bins_kept (λ b. (binned_beside c.law_index_stays.ensures c.requires.intact.sound e.moves (ap (λ s. s.victim) e.state) b, order_same b.index))
          c.requires.intact.linked;
    }

pub returns-else-size-n-ge-LEAST_CHUNK-clause-turned : goal.returns-else-size-n-ge-LEAST_CHUNK-clause-turned
returns-else-size-n-ge-LEAST_CHUNK-clause-turned g c = turned_same g.A.Links.follows c.requires.intact (g.A.Links.follows_none c.args.self.now.system)

pub returns-then-more-self-clause-turned : goal.returns-then-more-self-clause-turned
returns-then-more-self-clause-turned g c = turned_same g.A.Links.follows c.requires.intact (g.A.Links.follows_none c.args.self.now.system)

pub returns-then-inuse-clause-turned : goal.returns-then-inuse-clause-turned
returns-then-inuse-clause-turned g c = turned_same g.A.Links.follows c.requires.intact (g.A.Links.follows_none c.args.self.now.system)

pub returns-then-free-more-clause-turned : goal.returns-then-free-more-clause-turned
returns-then-free-more-clause-turned g c = turned_same g.A.Links.follows c.requires.intact (g.A.Links.follows_none c.args.self.now.system)
