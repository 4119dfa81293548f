use Rattle.dlmalloc.proofs.Names.{refl, arith, whole_each}
use Rattle.dlmalloc.proofs.Grants.PutBefore.{IsInTwo}
use Rattle.dlmalloc.proofs.Grants.BeforeWhich.{two_heads, before_head, head_ends}
use Rattle.dlmalloc.proofs.heap.Dlmalloc.prepend_head.Goals as goal

pub overflow_add-self : goal.overflow_add-self
overflow_add-self g c =
    let e = head_ends c.requires.sound c.args.grant.now c.requires.before.behind in
    let low = c.requires.before.room.fresh.low in
    grind arith

pub put_two-requires : goal.put_two-requires
put_two-requires g c = two_heads c.requires.before.room

pub returns : goal.returns
returns g c =
    let regions = g.A.Links.regions in let heap = c.args.self.now in let put = c.put_two.ensures in
    let halves : IsInTwo regions g.A.Links.word g.A.Links.follows heap c.args.grant.now c.args.n c.put_two.new.memory = record {
      fresh = c.requires.before.room.fresh;
      multiple = c.requires.before.room.bytes.whole;
      least = c.requires.before.room.bytes.least;
      room = c.requires.before.room.room;
      whole = whole_each (regions heap.system) (g.A.Links.whole heap.system);
      same = put.rest.regions;
      first = put.first;
      second = put.second;
      followed = put.rest.follows;
    } in
    record {
      put = record { prepended = before_head c.requires.sound halves c.requires.before.behind (λ k inside first second. put.rest.elsewhere k inside (first, second)); same = record { bins = refl; victim = refl } };
    }
