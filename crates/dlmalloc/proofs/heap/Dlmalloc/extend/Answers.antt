use Rattle.dlmalloc.proofs.Names.{◌≡◌, ◌+◌, ◌-◌, ◌<◌, inr, [], refl, sym, subst, arith, whole_each, IsAdmitted, state_of, FreeMoves, IsSameBins}
use Rattle.dlmalloc.proofs.Segments.HeadTold.{bare_head}
use Rattle.dlmalloc.proofs.Grants.BehindHead.{behind_means, IsExtended, extended_heap, extended_sound, extended_state, extended_used, extended_words, extended_free}
use Rattle.dlmalloc.proofs.Segments.HeadTop.{top_low, ends, top_word, end_whole}
use Rattle.dlmalloc.proofs.heap.Dlmalloc.extend.Goals as goal

pub overflow_add-self : goal.overflow_add-self
overflow_add-self g c =
    let m = behind_means c.args.grant.now (bare_head c.args.self.now) c.requires.behind in
    let high = c.requires.fresh.high in let begins = m.0 in
    grind arith

pub close_top-requires : goal.close_top-requires
close_top-requires g c =
    let heap = c.args.self.now in let grant = c.args.grant.now in let f = c.requires.fresh in
    let m = behind_means grant (bare_head heap) c.requires.behind in
    let whole = end_whole c.requires.sound c.requires.there in
    let e = ends c.requires.sound c.requires.there in let long = f.long in let high = f.high in
    record {
      low = top_low c.requires.sound c.requires.there;
      room = omega arith;
      high = omega arith;
      top = top_word c.requires.sound c.requires.there;
      foot = record {
        granted = f.run.covered (heap.base + (heap.size + grant.size) - 72) (omega arith) (omega arith);
        aligned = omega arith;
      };
    }

pub returns : goal.returns
returns g c =
    let regions = g.A.Links.regions in let word = g.A.Links.word in let heap = c.args.self.now in
    let grant = c.args.grant.now in let fresh = c.requires.fresh in let there = c.requires.there in
    let closed = c.close_top.ensures.closed in let new = c.close_top.new.self in
    let m = behind_means grant (bare_head heap) c.requires.behind in
    let long = fresh.long in let e = ends c.requires.sound there in
    let some : 0 < heap.size + grant.size = omega arith in
    let stored : IsExtended regions word heap grant new.system = record {
      fresh = fresh;
      some = there;
      behind = c.requires.behind;
      whole = whole_each (regions heap.system) (g.A.Links.whole heap.system);
      same = closed.regions;
      head = closed.head;
      foot = closed.foot_head;
      kept = closed.elsewhere;
    } in
    let is : new ≡ extended_heap heap grant new.system = c.close_top.ensures.fields in
    record {
      admitted = record {
        joined = subst (λ h. IsAdmitted regions word g.A.Links.follows heap grant h) (sym is) (record {
          state = extended_state c.requires.sound stored;
          sound = extended_sound c.requires.sound stored;
          there = some;
          room = omega arith;
          begins = inr (there, c.requires.behind, refl);
          regions_same = closed.regions;
          followed = closed.follows;
          used = extended_used c.requires.sound stored;
          words = extended_words c.requires.sound stored;
          new_words = λ k inside low high a b. closed.elsewhere k inside a (λ at_foot. b (omega arith));
        });
        free = subst (λ h. FreeMoves (state_of word heap) (state_of word h) [] []) (sym is) (extended_free c.requires.sound stored);
        same = subst (λ h. IsSameBins heap h) (sym is) (record { bins = refl; victim = refl });
      };
    }
