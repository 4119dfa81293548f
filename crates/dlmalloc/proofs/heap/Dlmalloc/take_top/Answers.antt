use Rattle.dlmalloc.proofs.Names.{rules, ◌+◌, refl, sym, subst, ◌∙◌, arith, IsWordOf}
use Rattle.dlmalloc.proofs.Cuts.Top.{top_head, rest_head, top_taken, top_free, others_still, head_boundary, foot_boundary, stores}
use Rattle.dlmalloc.proofs.heap.Dlmalloc.take_top.Goals as goal

pub set_size_and_pinuse_of_inuse_chunk-requires-clause-head : goal.set_size_and_pinuse_of_inuse_chunk-requires-clause-head
set_size_and_pinuse_of_inuse_chunk-requires-clause-head g c = top_head c.requires.sound c.requires.there c.args.n
    c.requires.bytes.whole c.requires.bytes.least c.requires.fits

pub store_counted-requires : goal.store_counted-requires
store_counted-requires g c = subst (λ rs. IsWordOf rs (c.args.self.now.top + c.args.n + 8)) (sym c.set_size_and_pinuse_of_inuse_chunk.ensures.stores.regions)
    (rest_head c.requires.sound c.requires.there c.args.n c.requires.bytes.whole c.requires.bytes.least c.requires.fits).granted

pub returns : goal.returns
returns g c =
    let system = c.store_counted.new.self in let first = c.set_size_and_pinuse_of_inuse_chunk.ensures.stores in
    let second = c.store_counted.ensures in let same = second.regions ∙ first.regions in
    let stored = stores c.requires.sound c.requires.there c.args.n c.requires.bytes.whole c.requires.bytes.least c.requires.fits
    c.set_size_and_pinuse_of_inuse_chunk.new.memory system first.regions first.stored second.stored in
    let t = top_taken c.requires.sound c.requires.there c.args.n c.requires.bytes.whole c.requires.bytes.least c.requires.fits system same stored in
    record {
      chunk = search rules;
      cut = record {
        taken = record { state = t.state; more = t.more };
        head = head_boundary c.requires.sound c.requires.there c.args.n c.requires.bytes.whole c.requires.bytes.least c.requires.fits system same stored;
        foot = foot_boundary c.requires.sound c.requires.there c.args.n c.requires.bytes.whole c.requires.bytes.least c.requires.fits system same stored;
        others = others_still c.requires.sound c.requires.there c.args.n c.requires.bytes.whole c.requires.bytes.least c.requires.fits system same stored;
        moves = record {
          moved = record { sound = t.sound; words = t.words; regions_same = same; followed = search rules };
          free = top_free c.requires.sound c.requires.there c.args.n c.requires.bytes.whole c.requires.bytes.least c.requires.fits system same stored;
          bins = refl;
        };
      };
      counted = omega arith;
    }

pub overflow_add-self : goal.overflow_add-self
overflow_add-self g c =
    let s = (rest_head c.requires.sound c.requires.there c.args.n c.requires.bytes.whole c.requires.bytes.least c.requires.fits).small in
    grind arith

pub overflow_add-self-2 : goal.overflow_add-self-2
overflow_add-self-2 g c =
    let s = (rest_head c.requires.sound c.requires.there c.args.n c.requires.bytes.whole c.requires.bytes.least c.requires.fits).small in
    grind arith
