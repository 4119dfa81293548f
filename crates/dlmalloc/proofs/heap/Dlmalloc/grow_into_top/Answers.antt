use Rattle.dlmalloc.proofs.Names.{◌≡◌, ◌+◌, ◌-◌, [], sym, subst, ◌∙◌, arith, refl, IsWordOf}
use Rattle.dlmalloc.proofs.Resizing.IntoTop.{top_first_head, top_rest_head, into_top, into_top_free}
use Rattle.dlmalloc.proofs.heap.Dlmalloc.grow_into_top.Goals as goal

pub overflow_add-self : goal.overflow_add-self
overflow_add-self g c = let s = (top_rest_head c.requires.sound c.requires.take).small in grind arith

pub set_inuse-requires : goal.set_inuse-requires
set_inuse-requires g c = record {
  size = omega (arith, c.requires.take.whole);
  head = top_first_head c.requires.sound c.requires.take;
  next = top_rest_head c.requires.sound c.requires.take;
}

pub overflow_add-self-2 : goal.overflow_add-self-2
overflow_add-self-2 g c = let s = (top_rest_head c.requires.sound c.requires.take).small in grind arith

pub store_counted-requires : goal.store_counted-requires
store_counted-requires g c = subst (λ rs. IsWordOf rs (c.args.at + c.args.n + 8)) (sym c.set_inuse.ensures.stores.regions)
    (top_rest_head c.requires.sound c.requires.take).granted

pub returns : goal.returns
returns g c =
    let first = c.set_inuse.ensures.stores in let second = c.store_counted.ensures in let less = c.requires.take.more in
    let room = c.requires.take.room in let sound = c.requires.sound in
    let can = c.requires.take in
    let rest = c.args.self.now.top_size - (c.args.n - c.args.size) in
    let rest_is : rest ≡ c.args.size + c.args.self.now.top_size - c.args.n = omega arith in
    let t = into_top sound can first.regions second.regions rest_is first.stored second.stored in
    record {
      grown = record {
        state = t.state;
        held = t.held;
        others = t.others;
        moves = record {
          moved = record {
            sound = t.sound;
            words = t.words;
            regions_same = second.regions ∙ first.regions;
            followed = g.A.Links.follows_on _ _ _ [] [] [] first.follows second.follows refl;
          };
          free = into_top_free sound can first.regions second.regions rest_is first.stored second.stored;
          bins = refl;
        };
      };
      counted = (let told = c.set_inuse.ensures.counted in let stored = second.counted in omega arith);
    }
