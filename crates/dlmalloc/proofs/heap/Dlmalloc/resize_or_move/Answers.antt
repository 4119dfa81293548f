use Rattle.dlmalloc.proofs.Names.{◌≡◌, ◌≢◌, ◌<◌, inl, None, true, refl, sym, ap, subst, arith, rules, nat_le, nat_tests, limit, state_of, IsMemberServed, padded, chosen, asked, pass_steps}
use Rattle.dlmalloc.proofs.Resizing.InPlaceOrElsewhere.{chunk_there, stays_there}
use Rattle.dlmalloc.proofs.Blocks.HandedOut.{on_ok}
use Rattle.dlmalloc.specs.OneChunk.{HoldsBytes}
use Rattle.dlmalloc.proofs.heap.Dlmalloc.resize_or_move.Goals as goal

pub resize_chunk-requires : goal.resize_chunk-requires
resize_chunk-requires g c = record {
  intact = c.requires.holds.intact;
  chunk = (c.requires.holds.block.1.extent.size, chunk_there c.requires.holds.block.1);
  bytes = search rules;
}

pub returns-then-resize_chunk-clause-resized : goal.returns-then-resize_chunk-clause-resized
returns-then-resize_chunk-clause-resized g c =
    let request = c.request2size.ensures in let done = c.resize_chunk.ensures in let yes = c.if-resize_chunk.true in
    let small : c.args.size < limit c.args.self.now.granularity =
    (let less = c.if-size-max_request.false in let is = c.max_request.ensures.is in omega arith) in
    inl (
      c.requires.least,
      refl,
      stays_there c.requires.holds.intact.sound c.requires.holds.block.1 c.requires.holds.held small request.is request.holds request.near
          (done.resized yes) (done.held yes) done.others done.turned.moved done.turned.bins.order,
    )

pub returns-then-size-max_request-clause-refused : goal.returns-then-size-max_request-clause-refused
returns-then-size-max_request-clause-refused g c =
    let least = c.requires.least in
    let test : nat_le c.args.align 16 ≡ true = grind (arith, nat_tests) in
    record {
      refused = rw test (let is = c.max_request.ensures.is in let more = c.if-size-max_request.true in omega arith);
      same = record {
        followed = search rules;
        refused = search rules;
        state = refl;
        sound = c.requires.holds.intact.sound;
        regions_same = refl;
        words = λ k is. refl;
        index = λ b. (b, λ n. refl);
      };
      untouched = λ large. refl;
    }

pub move_block-requires : goal.move_block-requires
move_block-requires g c = subst (λ heap. HoldsBytes g.A.Links heap c.args.ptr c.args.held c.args.align)
    (sym (c.resize_chunk.ensures.same c.if-resize_chunk.false)) c.requires.holds

pub returns-clause-member : goal.returns-clause-member
returns-clause-member g c =
    on_ok c.move_block.result (λ address member other.
    subst (λ heap. IsMemberServed g.A.Links.regions g.A.Links.word heap c.args.size c.args.align address) (c.resize_chunk.ensures.same c.if-resize_chunk.false)
    member) c.move_block.ensures.member

pub returns-clause-counted : goal.returns-clause-counted
returns-clause-counted g c = λ some.
    let old = c.args.self.now in
    let same : c.resize_chunk.new.self ≡ old = c.resize_chunk.ensures.same c.if-resize_chunk.false in
    let few = c.resize_chunk.ensures.none_counted c.if-resize_chunk.false in
    let segments = ap (λ heap. pass_steps (state_of g.A.Links.word heap)) same in
    let moved = c.move_block.ensures.counted (subst (λ heap. chosen (state_of g.A.Links.word heap)
    (padded (asked c.args.size c.args.align)) ≢ None) (sym same) some) in
    omega arith
