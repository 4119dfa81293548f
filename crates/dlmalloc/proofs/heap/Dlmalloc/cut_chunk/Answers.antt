use Rattle.dlmalloc.proofs.Names.{rules, refl, ◌+◌, ◌-◌, inl, inr, sym, subst, ◌∙◌, arith, HasHead, HasFoot}
use Rattle.dlmalloc.proofs.Cuts.FreeChunk.{whole_victim, whole_other, split_victim, split_other, at_whole, size_whole, stores}
use Rattle.dlmalloc.proofs.Cuts.ChunkPlace.{end_small, head_at, foot_at}
use Rattle.dlmalloc.proofs.heap.Dlmalloc.cut_chunk.Goals.{then-at-self-2-via-then-at-self-2, then-at-self-2-via-else-at-self-2+then-n-lt-LEAST_LARGE}
use Rattle.dlmalloc.proofs.heap.Dlmalloc.cut_chunk.Goals as goal

pub set_inuse_and_pinuse-requires : goal.set_inuse_and_pinuse-requires
set_inuse_and_pinuse-requires g c =
    let m = at_whole c.requires.sound c.args.n c.requires.cut.chunk in
    let w = size_whole c.requires.sound c.args.n c.requires.cut.chunk in
    record {
      size = omega arith;
      head = head_at c.requires.sound c.requires.cut.chunk refl c.args.at (omega arith) (omega arith) (omega arith);
      next = head_at c.requires.sound c.requires.cut.chunk refl (c.args.at + c.args.size) (omega arith) (omega arith) (omega arith);
    }

pub set_size_and_pinuse_of_inuse_chunk-requires-clause-head : goal.set_size_and_pinuse_of_inuse_chunk-requires-clause-head
set_size_and_pinuse_of_inuse_chunk-requires-clause-head g c =
    let m = at_whole c.requires.sound c.args.n c.requires.cut.chunk in
    head_at c.requires.sound c.requires.cut.chunk refl c.args.at (omega arith) (omega arith) (omega arith)

pub overflow_add-at : goal.overflow_add-at
overflow_add-at g c =
    let e = end_small c.requires.sound c.requires.cut.chunk refl in
    let f = c.requires.cut.fits in grind arith

pub overflow_add-self : goal.overflow_add-self
overflow_add-self g c =
    let e = end_small c.requires.sound c.requires.cut.chunk refl in
    let f = c.requires.cut.fits in grind arith

pub set_size_and_pinuse_of_free_chunk-requires : goal.set_size_and_pinuse_of_free_chunk-requires
set_size_and_pinuse_of_free_chunk-requires g c =
    let m = at_whole c.requires.sound c.args.n c.requires.cut.chunk in
    let w = size_whole c.requires.sound c.args.n c.requires.cut.chunk in
    let n_whole = c.requires.cut.bytes.whole in let fits = c.requires.cut.fits in
    let same = sym c.set_size_and_pinuse_of_inuse_chunk.ensures.stores.regions in
    record {
      size = omega arith;
      head = subst (λ rs. HasHead rs (c.args.at + c.args.n)) same
          (head_at c.requires.sound c.requires.cut.chunk refl (c.args.at + c.args.n) (omega arith) (omega arith) (omega arith));
      foot = subst (λ rs. HasFoot rs (c.args.at + c.args.n + (c.args.size - c.args.n))) same
          (foot_at c.requires.sound c.requires.cut.chunk refl (c.args.at + c.args.n + (c.args.size - c.args.n)) (omega arith) (omega arith) (omega arith));
    }

pub returns-then-at-self : goal.returns-then-at-self
returns-then-at-self g c =
    let less = c.if-rest-lt-LEAST_CHUNK.true in let e = c.set_inuse_and_pinuse.ensures.stores in
    let t = whole_victim c.requires.sound c.args.n c.requires.cut.chunk c.set_inuse_and_pinuse.new.memory e.regions (omega arith) e.stored c.if-at-self.true in
    record {
      cut = record {
        taken = record { state = t.take.state; more = t.take.more };
        rest = t.rest;
        moves = record {
          moved = record { sound = t.take.sound; words = t.take.words; regions_same = e.regions; followed = e.follows };
          free = t.free;
          bins = refl;
        };
      };
      counted = omega arith;
    }

pub returns-else-at-self : goal.returns-else-at-self
returns-else-at-self g c =
    let less = c.if-rest-lt-LEAST_CHUNK.true in let e = c.set_inuse_and_pinuse.ensures.stores in
    let t = whole_other c.requires.sound c.args.n c.requires.cut.chunk c.set_inuse_and_pinuse.new.memory e.regions (omega arith) e.stored c.if-at-self.false in
    record {
      cut = record {
        taken = record { state = t.take.state; more = t.take.more };
        rest = t.rest;
        moves = record {
          moved = record { sound = t.take.sound; words = t.take.words; regions_same = e.regions; followed = e.follows };
          free = t.free;
          bins = refl;
        };
      };
      counted = omega arith;
    }

pub returns-then-at-self-2 : goal.returns-then-at-self-2
returns-then-at-self-2 g c =
    let middle = c.set_size_and_pinuse_of_inuse_chunk.new.memory in
    let system = c.set_size_and_pinuse_of_free_chunk.new.memory in
    let first = c.set_size_and_pinuse_of_inuse_chunk.ensures.stores in
    let second = c.set_size_and_pinuse_of_free_chunk.ensures.stores in let more = c.if-rest-lt-LEAST_CHUNK.false in
    let fits = c.requires.cut.fits in let same = second.regions ∙ first.regions in
    let stored = stores c.requires.sound c.args.n c.requires.cut.chunk middle system first.regions fits first.stored second.stored in
    let t = split_victim c.requires.sound c.args.n c.requires.cut.chunk system same c.requires.cut.bytes.whole c.requires.cut.bytes.least (omega arith) stored
    (elim c.then-at-self-2.branch [
      | then-at-self-2-via-then-at-self-2 w ↦ inl w.if-at-self-2.true
      | then-at-self-2-via-else-at-self-2+then-n-lt-LEAST_LARGE w ↦ inr w.if-n-lt-LEAST_LARGE.true
    ]) in
    record {
      cut = record {
        taken = record { state = t.take.state; more = t.take.more };
        rest = t.rest;
        moves = record {
          moved = record { sound = t.take.sound; words = t.take.words; regions_same = same; followed = search rules };
          free = t.free;
          bins = refl;
        };
      };
      counted = omega arith;
    }

pub returns-else-n-lt-LEAST_LARGE : goal.returns-else-n-lt-LEAST_LARGE
returns-else-n-lt-LEAST_LARGE g c =
    let middle = c.set_size_and_pinuse_of_inuse_chunk.new.memory in
    let system = c.set_size_and_pinuse_of_free_chunk.new.memory in
    let first = c.set_size_and_pinuse_of_inuse_chunk.ensures.stores in
    let second = c.set_size_and_pinuse_of_free_chunk.ensures.stores in let more = c.if-rest-lt-LEAST_CHUNK.false in
    let fits = c.requires.cut.fits in let same = second.regions ∙ first.regions in
    let stored = stores c.requires.sound c.args.n c.requires.cut.chunk middle system first.regions fits first.stored second.stored in
    let t = split_other c.requires.sound c.args.n c.requires.cut.chunk system same c.requires.cut.bytes.whole c.requires.cut.bytes.least (omega arith) stored
    c.if-at-self-2.false c.if-n-lt-LEAST_LARGE.false in
    record {
      cut = record {
        taken = record { state = t.take.state; more = t.take.more };
        rest = t.rest;
        moves = record {
          moved = record { sound = t.take.sound; words = t.take.words; regions_same = same; followed = search rules };
          free = t.free;
          bins = refl;
        };
      };
      counted = omega arith;
    }
