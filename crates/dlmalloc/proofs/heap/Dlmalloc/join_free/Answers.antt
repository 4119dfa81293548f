use Rattle.dlmalloc.proofs.Names.{◌<◌, ◌≤◌, ◌⊎◌, inl, inr, refl, arith, rules, nat_tests}
use Rattle.dlmalloc.proofs.Frees.WhatCallsWant.{from_there, goes_on}
use Rattle.dlmalloc.proofs.Frees.BeforeTop.{small_top, from_some, top_victim, top_other}
use Rattle.dlmalloc.proofs.Frees.OfChunk.{whole_size, room, end_head, end_foot, end_told, as_victim, as_other}
use Rattle.dlmalloc.proofs.heap.Dlmalloc.join_free.Goals.{else-from-self-via-then-from-self+else-self-to, else-from-self-via-else-from-self, else-from-self-2-via-then-from-self-2+else-self-to-2, else-from-self-2-via-else-from-self-2}
use Rattle.dlmalloc.proofs.heap.Dlmalloc.join_free.Goals as goal

pub store_counted-requires : goal.store_counted-requires
store_counted-requires g c = (from_there c.requires.sound c.requires.chunk c.requires.from).granted

pub make_free-requires : goal.make_free-requires
make_free-requires g c =
    let on = goes_on c.requires.sound c.requires.chunk c.requires.from c.requires.to c.if-to-self.false in
    let r = room c.requires.sound c.requires.chunk c.requires.from c.requires.to on in
    record {
      size = whole_size c.requires.sound c.requires.chunk c.requires.from c.requires.to on;
      long = omega arith;
      head = from_there c.requires.sound c.requires.chunk c.requires.from;
      foot = end_foot c.requires.sound c.requires.chunk c.requires.from c.requires.to on;
      next = end_head c.requires.sound c.requires.chunk c.requires.from c.requires.to on;
      told = λ told. end_told c.requires.sound c.requires.chunk c.requires.from c.requires.to on (grind (arith, nat_tests));
    }

pub overflow_add-self : goal.overflow_add-self
overflow_add-self g c = let s = small_top c.requires.sound c.requires.chunk c.requires.from c.requires.to c.if-to-self.true in grind arith

pub overflow_add-from : goal.overflow_add-from
overflow_add-from g c = let s = (from_there c.requires.sound c.requires.chunk c.requires.from).small in grind arith

pub overflow_add-self-then-to-self : goal.overflow_add-self-then-to-self
overflow_add-self-then-to-self g c = let s = small_top c.requires.sound c.requires.chunk c.requires.from c.requires.to c.if-to-self.true in
    let l = from_some c.requires.sound c.requires.chunk c.requires.from c.requires.to c.if-to-self.true in grind arith

pub returns-then-self-to : goal.returns-then-self-to
returns-then-self-to g c =
    let o = top_victim c.requires.sound c.requires.chunk c.requires.from c.requires.to c.if-to-self.true c.store_counted.new.self
    c.store_counted.ensures.regions c.store_counted.ensures.stored c.if-from-self.true c.if-self-to.true in
    record {
      freed = record { state = o.state; less = o.less; records = o.records };
      around = o.around;
      joined = o.joined;
      victim = inr (c.if-from-self.true, c.if-self-to.true, inl refl);
      moves = record {
        moved = record { sound = o.sound; words = o.words; regions_same = search rules; followed = search rules };
        free = o.free;
        bins = refl;
      };
      counted = omega arith;
    }

pub returns-else-from-self : goal.returns-else-from-self
returns-else-from-self g c =
    let out : (c.args.self.now.victim < c.args.from) ⊎ (c.args.to ≤ c.args.self.now.victim) =
    elim c.else-from-self.branch [
      | else-from-self-via-then-from-self+else-self-to w ↦ inr w.if-self-to.false
      | else-from-self-via-else-from-self w ↦ inl w.if-from-self.false
    ] in
    let o = top_other c.requires.sound c.requires.chunk c.requires.from c.requires.to c.if-to-self.true c.store_counted.new.self c.store_counted.ensures.regions
    c.store_counted.ensures.stored out in
    record {
      freed = record { state = o.state; less = o.less; records = o.records };
      around = o.around;
      joined = o.joined;
      victim = inl refl;
      moves = record {
        moved = record { sound = o.sound; words = o.words; regions_same = search rules; followed = search rules };
        free = o.free;
        bins = refl;
      };
      counted = omega arith;
    }

pub returns-then-self-to-2 : goal.returns-then-self-to-2
returns-then-self-to-2 g c =
    let on = goes_on c.requires.sound c.requires.chunk c.requires.from c.requires.to c.if-to-self.false in
    let o = as_victim c.requires.sound c.requires.chunk c.requires.from c.requires.to on c.make_free.new.memory c.make_free.ensures.freed.regions
    c.make_free.ensures.freed.stored
    c.if-from-self-2.true c.if-self-to-2.true in
    record {
      freed = record { state = o.state; less = o.less; records = o.records };
      around = o.around;
      joined = o.joined;
      victim = inr (c.if-from-self-2.true, c.if-self-to-2.true, inr refl);
      moves = record {
        moved = record { sound = o.sound; words = o.words; regions_same = c.make_free.ensures.freed.regions; followed = c.make_free.ensures.freed.follows };
        free = o.free;
        bins = refl;
      };
      counted = omega arith;
    }

pub returns-else-from-self-2 : goal.returns-else-from-self-2
returns-else-from-self-2 g c =
    let on = goes_on c.requires.sound c.requires.chunk c.requires.from c.requires.to c.if-to-self.false in
    let out : (c.args.self.now.victim < c.args.from) ⊎ (c.args.to ≤ c.args.self.now.victim) =
    elim c.else-from-self-2.branch [
      | else-from-self-2-via-then-from-self-2+else-self-to-2 w ↦ inr w.if-self-to-2.false
      | else-from-self-2-via-else-from-self-2 w ↦ inl w.if-from-self-2.false
    ] in
    let o = as_other c.requires.sound c.requires.chunk c.requires.from c.requires.to on c.make_free.new.memory c.make_free.ensures.freed.regions
    c.make_free.ensures.freed.stored out in
    record {
      freed = record { state = o.state; less = o.less; records = o.records };
      around = o.around;
      joined = o.joined;
      victim = inl refl;
      moves = record {
        moved = record { sound = o.sound; words = o.words; regions_same = c.make_free.ensures.freed.regions; followed = c.make_free.ensures.freed.follows };
        free = o.free;
        bins = refl;
      };
      counted = omega arith;
    }
