use Rattle.dlmalloc.proofs.Names.{◌+◌, [], sym, subst, arith, refl, HasHead}
use Rattle.dlmalloc.proofs.Resizing.Split.{end_small, first_head, second_head, rest_whole, is_split}
use Rattle.dlmalloc.proofs.heap.Dlmalloc.split.Goals as goal

pub set_inuse-requires : goal.set_inuse-requires
set_inuse-requires g c = record {
  size = (let whole = c.requires.split.bytes.whole in omega arith);
  head = first_head c.requires.sound c.requires.split;
  next = second_head c.requires.sound c.requires.split;
}

pub overflow_add-at : goal.overflow_add-at
overflow_add-at g c =
    let end = end_small c.requires.sound c.requires.split in
    let room = c.requires.split.room in grind arith

pub set_size_and_pinuse_of_inuse_chunk-requires : goal.set_size_and_pinuse_of_inuse_chunk-requires
set_size_and_pinuse_of_inuse_chunk-requires g c =
    let can = c.requires.split in
    record {
      size = rest_whole c.requires.sound can;
      head = subst (λ rs. HasHead rs (c.args.at + c.args.n)) (sym c.set_inuse.ensures.stores.regions) (second_head c.requires.sound can);
    }

pub returns : goal.returns
returns g c =
    let first = c.set_inuse.ensures.stores in let second = c.set_size_and_pinuse_of_inuse_chunk.ensures.stores in
    let followed = g.A.Links.follows_on _ _ _ [] [] [] first.follows second.follows refl in
    record {
      split = is_split c.requires.sound c.requires.split first.regions second.regions first.stored second.stored followed;
      counted = (let told = c.set_inuse.ensures.counted in let more = c.set_size_and_pinuse_of_inuse_chunk.ensures.counted in omega arith);
    }
