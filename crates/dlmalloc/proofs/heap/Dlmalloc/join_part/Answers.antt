use Rattle.dlmalloc.proofs.Names.{◌+◌, ◌-◌, [], sym, subst, ◌∙◌, arith, refl, HasHead, HasFoot}
use Rattle.dlmalloc.proofs.Resizing.IntoFree.{free_end_small, free_at_whole, free_sizes_whole, free_head_there, free_foot_there, free_stores, into_victim, into_binned, whole_victim, whole_binned}
use Rattle.dlmalloc.proofs.heap.Dlmalloc.join_part.Goals as goal

pub overflow_add-all : goal.overflow_add-all
overflow_add-all g c = let s = free_end_small c.requires.sound c.requires.take in grind arith

pub overflow_add-was_victim : goal.overflow_add-was_victim
overflow_add-was_victim g c = let s = free_end_small c.requires.sound c.requires.take in grind arith

pub set_inuse-requires : goal.set_inuse-requires
set_inuse-requires g c =
    let can = c.requires.take in let sound = c.requires.sound in
    let m = free_at_whole sound can in let w = free_sizes_whole sound can in
    record {
      size = omega arith;
      head = free_head_there sound can c.args.at (omega arith) (omega arith) (omega arith);
      next = free_head_there sound can (c.args.at + (c.args.size + c.args.free)) (omega arith) (omega arith) (omega arith);
    }

pub set_inuse-requires-else-rest-lt-LEAST_CHUNK : goal.set_inuse-requires-else-rest-lt-LEAST_CHUNK
set_inuse-requires-else-rest-lt-LEAST_CHUNK g c =
    let can = c.requires.take in let sound = c.requires.sound in
    let m = free_at_whole sound can in let whole = c.requires.take.whole in let room = c.requires.take.room in
    record {
      size = omega arith;
      head = free_head_there sound can c.args.at (omega arith) (omega arith) (omega arith);
      next = free_head_there sound can (c.args.at + c.args.n) (omega arith) (omega arith) (omega arith);
    }

pub overflow_add-at : goal.overflow_add-at
overflow_add-at g c =
    let s = free_end_small c.requires.sound c.requires.take in
    let room = c.requires.take.room in grind arith

pub set_size_and_pinuse_of_free_chunk-requires : goal.set_size_and_pinuse_of_free_chunk-requires
set_size_and_pinuse_of_free_chunk-requires g c =
    let can = c.requires.take in let sound = c.requires.sound in
    let m = free_at_whole sound can in let w = free_sizes_whole sound can in
    let whole = c.requires.take.whole in let room = c.requires.take.room in
    let same = sym c.set_inuse-else-rest-lt-LEAST_CHUNK.ensures.stores.regions in
    let rest = c.args.at + c.args.n in let end = rest + (c.args.size + c.args.free - c.args.n) in
    record {
      size = omega arith;
      head = subst (λ rs. HasHead rs rest) same (free_head_there sound can rest (omega arith) (omega arith) (omega arith));
      foot = subst (λ rs. HasFoot rs end) same (free_foot_there sound can end (omega arith) (omega arith) (omega arith));
    }

pub overflow_add-self : goal.overflow_add-self
overflow_add-self g c =
    let s = free_end_small c.requires.sound c.requires.take in
    let room = c.requires.take.room in grind arith

pub returns-then-was_victim : goal.returns-then-was_victim
returns-then-was_victim g c =
    let less = c.if-rest-lt-LEAST_CHUNK.true in let room = c.requires.take.room in let e = c.set_inuse.ensures.stores in
    let can = c.requires.take in
    record {
      joined = whole_victim c.requires.sound can e.regions g.A.Links.follows e.follows (omega arith) e.stored c.if-was_victim.true;
      counted = omega arith;
    }

pub returns-else-was_victim : goal.returns-else-was_victim
returns-else-was_victim g c =
    let less = c.if-rest-lt-LEAST_CHUNK.true in let room = c.requires.take.room in let e = c.set_inuse.ensures.stores in
    let can = c.requires.take in
    record {
      joined = whole_binned c.requires.sound can e.regions g.A.Links.follows e.follows (omega arith) e.stored c.if-was_victim.false;
      counted = omega arith;
    }

pub returns-then-was_victim-2 : goal.returns-then-was_victim-2
returns-then-was_victim-2 g c =
    let more = c.if-rest-lt-LEAST_CHUNK.false in let room = c.requires.take.room in
    let first = c.set_inuse-else-rest-lt-LEAST_CHUNK.ensures.stores in let second = c.set_size_and_pinuse_of_free_chunk.ensures.stores in
    let can = c.requires.take in
    let stored = free_stores c.requires.sound can first.regions first.stored second.stored in
    let followed = g.A.Links.follows_on _ _ _ [] [] [] first.follows second.follows refl in
    record {
      joined = into_victim c.requires.sound can (second.regions ∙ first.regions) g.A.Links.follows followed (omega arith) stored c.if-was_victim-2.true;
      counted = omega arith;
    }

pub returns-else-was_victim-2 : goal.returns-else-was_victim-2
returns-else-was_victim-2 g c =
    let more = c.if-rest-lt-LEAST_CHUNK.false in let room = c.requires.take.room in
    let first = c.set_inuse-else-rest-lt-LEAST_CHUNK.ensures.stores in let second = c.set_size_and_pinuse_of_free_chunk.ensures.stores in
    let can = c.requires.take in
    let stored = free_stores c.requires.sound can first.regions first.stored second.stored in
    let followed = g.A.Links.follows_on _ _ _ [] [] [] first.follows second.follows refl in
    record {
      joined = into_binned c.requires.sound can (second.regions ∙ first.regions) g.A.Links.follows followed (omega arith) stored c.if-was_victim-2.false;
      counted = omega arith;
    }
