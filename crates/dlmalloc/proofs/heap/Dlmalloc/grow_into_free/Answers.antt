use Rattle.dlmalloc.proofs.Names.{◌≡◌, ◌+◌, ◌-◌, ◌≢◌, [], sym, ◌∙◌, ap, subst, arith, Used, Free, extents_in, extent_at, grown_into, HasSameOthers, IsTurned, state_of, IsFreeAt, KeepsOrder}
use Rattle.dlmalloc.proofs.Extents.Lookup.{extent}
use Rattle.dlmalloc.proofs.Resizing.IntoFree.{free_end_small}
use Rattle.dlmalloc.proofs.Moves.WithBins.{turned}
use Rattle.dlmalloc.proofs.Bins.Changes.{not_rebinned, none_binned}
use Rattle.dlmalloc.proofs.Cuts.BinsMeanwhile.{into_victim, into_whole, into_part, part_other, part_came}
use Rattle.dlmalloc.proofs.Bins.Order.{lessened_as, added_as, order_less, order_left, in_order, bins_kept}
use Rattle.dlmalloc.proofs.heap.Dlmalloc.grow_into_free.Goals as goal
use Rattle.dlmalloc.proofs.heap.Dlmalloc.grow_into_free.Goals.{After-join_part, Else-was_victim}

pub overflow_add-was_victim : goal.overflow_add-was_victim
overflow_add-was_victim g c = let s = free_end_small c.requires.intact.sound c.requires.take in grind arith

pub overflow_add-rest : goal.overflow_add-rest
overflow_add-rest g c = let s = free_end_small c.requires.intact.sound c.requires.take in grind arith

pub overflow_add-at : goal.overflow_add-at
overflow_add-at g c =
    let s = free_end_small c.requires.intact.sound c.requires.take in
    let room = c.requires.take.room in grind arith

pub overflow_add-at-2 : goal.overflow_add-at-2
overflow_add-at-2 g c =
    let s = free_end_small c.requires.intact.sound c.requires.take in
    let room = c.requires.take.room in grind arith

-- ---- what the two calls leave

state : (g : _) (c : After-join_part g) → state_of g.A.Links.word c.join_part.new.self ≡ grown_into (state_of g.A.Links.word c.args.self.now)
    (extent c.args.at c.args.size Used) (extent (c.args.at + c.args.size) c.args.free Free) c.args.n
state g c = c.join_part.ensures.joined.state
    ∙ ap (λ s. grown_into s (extent c.args.at c.args.size Used) (extent (c.args.at + c.args.size) c.args.free Free) c.args.n) c.unbin.ensures.bins.same.state

others : (g : _) (c : After-join_part g) →
    HasSameOthers (state_of g.A.Links.word c.args.self.now) (state_of g.A.Links.word c.join_part.new.self) c.args.at c.args.at
others g c =
    subst (λ s. HasSameOthers s (state_of g.A.Links.word c.join_part.new.self) c.args.at c.args.at) c.unbin.ensures.bins.same.state c.join_part.ensures.joined.others

moved : (g : _) (c : After-join_part g) → IsTurned g.A.Links.regions g.A.Links.word g.A.Links.follows c.args.self.now c.join_part.new.self
moved g c =
    let e = c.join_part.ensures.joined in
    turned g.A.Links.regions g.A.Links.word g.A.Links.follows g.A.Links.follows_on c.unbin.ensures.bins.same e.moves.moved
    (not_rebinned g.A.Links.follows e.moves.moved.sound (g.A.Links.follows_none c.join_part.new.self.system))

other : (g : _) (c : Else-was_victim g) → c.args.at + c.args.size ≢ c.unbin.new.self.victim
other g c = λ is. c.if-was_victim.false (is ∙ ap (λ h. h.victim) c.unbin.ensures.bins.same.fields)

pub returns-then-was_victim : goal.returns-then-was_victim
returns-then-was_victim g c =
    let now = (goal.at.returns-then-was_victim g c).After-join_part in let one = c.unbin.ensures.bins in let e = c.join_part.ensures.joined in
    let mine = c.if-was_victim.true ∙ sym (ap (λ h. h.victim) one.same.fields) in
    let order : KeepsOrder g.A.Links.regions g.A.Links.word c.args.self.now c.join_part.new.self = λ b.
    let left = one.loose [] b (λ none. none) in
    let after = into_victim c.law_index_stays.ensures one.same.sound e mine (none_binned left.0 (λ n free. mine)) in
    (after.0, order_left b.index left.0.index after.0.index (lessened_as c.args.free (c.args.at + c.args.size) b.index left.0.index left.1) after.1) in
    let bins = bins_kept order c.requires.intact.linked in
    record { state = state g now; held = e.held; grown = record { others = others g now; turned = record { moved = moved g now; bins = bins } }; counted = omega arith }

pub returns-then-rest-lt-LEAST_CHUNK : goal.returns-then-rest-lt-LEAST_CHUNK
returns-then-rest-lt-LEAST_CHUNK g c =
    let at = goal.at.returns-then-rest-lt-LEAST_CHUNK g c in let now = at.After-join_part in
    let one = c.unbin.ensures.bins in let e = c.join_part.ensures.joined in let little = c.if-rest-lt-LEAST_CHUNK.true in let room = c.requires.take.room in
    let order : KeepsOrder g.A.Links.regions g.A.Links.word c.args.self.now c.join_part.new.self = λ b.
    let left = one.loose [] b (λ none. none) in (
      into_whole c.law_index_stays.ensures one.same.sound e (other g at.Else-was_victim) left.0 (omega arith),
      order_less b.index left.0.index (lessened_as c.args.free (c.args.at + c.args.size) b.index left.0.index left.1),
    ) in
    let bins = bins_kept order c.requires.intact.linked in
    record { state = state g now; held = e.held; grown = record { others = others g now; turned = record { moved = moved g now; bins = bins } }; counted = omega arith }

pub bin-requires : goal.bin-requires
bin-requires g c =
    let at = goal.at.bin-requires g c in let one = c.unbin.ensures.bins in let e = c.join_part.ensures.joined in
    let many = c.if-rest-lt-LEAST_CHUNK.false in let more = c.requires.take.more in let room = c.requires.take.room in
    record {
      sound = e.moves.moved.sound;
      free = e.rest (omega arith);
      other = part_other c.law_index_stays.ensures one.same.sound e
          (other g at.Else-was_victim) (omega arith) (omega arith);
      loose = (
        [],
        into_part c.law_index_stays.ensures one.same.sound e
            (other g at.Else-was_victim) (one.loose [] c.requires.intact.linked (λ none. none)).0 (omega arith),
      );
    }

pub returns : goal.returns
returns g c =
    let at = goal.at.returns g c in let now = at.After-join_part in let old = c.args.self.now in let new = c.bin.new.self in
    let one = c.unbin.ensures.bins in let e = c.join_part.ensures.joined in let last = c.bin.ensures.bins in
    let many = c.if-rest-lt-LEAST_CHUNK.false in let room = c.requires.take.room in let rest = c.args.at + c.args.n in
    let rest_size = c.args.size + c.args.free - c.args.n in
    let order : KeepsOrder g.A.Links.regions g.A.Links.word old new = λ b.
    let left = one.loose [] b (λ none. none) in
    let after = last.binned []
    (into_part c.law_index_stays.ensures one.same.sound e (other g at.Else-was_victim) left.0 (omega arith)) (λ none. none) in (
      after.0,
      in_order rest_size rest b.index left.0.index after.0.index (lessened_as c.args.free (c.args.at + c.args.size) b.index left.0.index left.1)
          (added_as rest_size rest left.0.index after.0.index after.1)
          (λ is. part_came c.law_index_stays.ensures one.same.sound e (other g at.Else-was_victim) (omega arith)
          (let m = c.requires.take.more in omega arith) (subst (λ s. IsFreeAt s rest rest_size) (sym one.same.state) (b.holds.free rest rest_size is))),
    ) in
    record {
      state = last.same.state ∙ state g now;
      held = (e.held.0, ap (λ s. extent_at c.args.at (extents_in s)) last.same.state ∙ e.held.1, e.held.2, e.held.3);
      grown = record {
        others = subst (λ s. HasSameOthers (state_of g.A.Links.word old) s c.args.at c.args.at) (sym last.same.state) (others g now);
        turned = record {
          moved = turned g.A.Links.regions g.A.Links.word g.A.Links.follows g.A.Links.follows_on one.same e.moves.moved last.same;
          bins = bins_kept order c.requires.intact.linked;
        };
      };
      counted = omega arith;
    }
