use Rattle.dlmalloc.proofs.Names.{◌≡◌, ◌+◌, ◌-◌, ◌<◌, ◌∙◌, [], ◌∷◌, refl, rules, sym, subst, arith, Released, IsWordOf, whole_each, IsShortened, trim_threshold, Dlmalloc}
use Rattle.dlmalloc.proofs.Segments.HeadTop.{top_low, ends}
use Rattle.dlmalloc.proofs.Returns.TopShortened.{head_given, within, rest_some, rest_whole, top_still, foot_still, is_shortened}
use Rattle.dlmalloc.proofs.heap.Dlmalloc.cut_top.Goals as goal

pub overflow_sub-size : goal.overflow_sub-size
overflow_sub-size g c = within c.requires.sound c.requires.there c.args.cut c.requires.whole c.requires.room

pub free_part-requires : goal.free_part-requires
free_part-requires g c = record {
  run = head_given c.requires.sound c.requires.there;
  some = rest_some c.requires.sound c.requires.there c.args.cut c.requires.whole c.requires.room;
  within = search rules;
  whole = rest_whole c.requires.sound c.requires.there c.args.cut c.requires.whole c.requires.room (g.A.Links.whole c.args.self.now.system);
}

pub close_top-requires : goal.close_top-requires
close_top-requires g c =
    let heap = c.args.self.now in let room = c.requires.room in
    let closes = ends c.requires.sound c.requires.there in let low = top_low c.requires.sound c.requires.there in
    let whole = whole_each (g.A.Links.regions heap.system) (g.A.Links.whole heap.system) in
    let taken = c.free_part.ensures.regions c.if-not-free_part.false in
    record {
      low = low;
      room = omega arith;
      high = search rules;
      top = top_still c.requires.sound c.requires.there c.args.cut c.requires.whole room whole c.free_part.new.self taken;
      foot = foot_still c.requires.sound c.requires.there c.args.cut c.requires.whole room whole c.free_part.new.self taken;
    }

pub returns-clause-cut : goal.returns-clause-cut
returns-clause-cut g c = λ is.
    let regions = g.A.Links.regions in let word = g.A.Links.word in let heap = c.args.self.now in
    let less = c.args.cut in let freed = c.free_part.ensures in let middle = c.free_part.new.self in
    let closed = c.close_top.ensures.closed in let new = c.close_top.new.self in
    let whole = whole_each (regions heap.system) (g.A.Links.whole heap.system) in
    let taken = c.if-not-free_part.false in
    let after : Dlmalloc _ = record heap {
      system = new.system;
      size = heap.size - less;
      top_size =
          heap.base + (heap.size - less) - 80 - heap.top;
      trim_check = trim_threshold;
    } in
    let is : new ≡ after = c.close_top.ensures.fields in
    subst (λ h. IsShortened regions word g.A.Links.follows heap less h) (sym is) (is_shortened c.requires.sound c.requires.there less c.requires.whole
    c.requires.room whole new.system (closed.regions ∙ freed.regions taken) closed.head closed.foot_head
    (λ k inside at_top at_foot. (let was = subst (λ rs. IsWordOf rs k) closed.regions inside in closed.elsewhere k was at_top at_foot ∙ freed.words k was))
    (g.A.Links.follows_on heap.system middle new.system (Released heap.base heap.size (heap.size - less) ∷ []) []
    (Released heap.base heap.size (heap.size - less) ∷ []) (freed.follows taken) closed.follows refl))

pub returns-clause-there : goal.returns-clause-there
returns-clause-there g c =
    let heap = c.args.self.now in
    let left : 0 < heap.size - c.args.cut = rest_some c.requires.sound c.requires.there c.args.cut c.requires.whole c.requires.room in
    subst (λ h. 0 < h.size) (sym c.close_top.ensures.fields) left
