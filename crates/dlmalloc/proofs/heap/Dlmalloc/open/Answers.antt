use Rattle.dlmalloc.proofs.Names.{◌≡◌, ◌<◌, inl, refl, sym, subst, arith, [], IsAdmitted, state_of, FreeMoves, IsSameBins}
use Rattle.dlmalloc.proofs.Grants.Opened.{opened_heap, opened_sound, opened_state, opened_used, opened_free}
use Rattle.dlmalloc.proofs.Extents.Top.{head_tags}
use Rattle.dlmalloc.proofs.heap.Dlmalloc.open.Goals as goal

pub returns : goal.returns
returns g c =
    let regions = g.A.Links.regions in let word = g.A.Links.word in let heap = c.args.self.now in
    let grant = c.args.grant.now in let fresh = c.requires.fresh in let made = c.make_head.ensures.closed in
    let new = c.make_head.new.self in
    let after = opened_heap heap grant new.system c.countdown_from-self.result in
    let is : new ≡ after = c.make_head.ensures.fields in
    let long = fresh.long in
    let some : 0 < grant.size = omega arith in
    let sound = opened_sound new.system c.requires.sound fresh made.regions made.head made.foot_head c.requires.none c.countdown_from-self.ensures in
    record {
      admitted = record {
        joined = subst (λ h. IsAdmitted regions word g.A.Links.follows heap grant h) (sym is) (record {
          state = opened_state new.system c.requires.sound fresh made.regions made.head made.foot_head c.requires.none c.countdown_from-self.ensures;
          sound = sound;
          there = some;
          room = omega arith;
          begins = inl refl;
          regions_same = made.regions;
          followed = made.follows;
          used = opened_used new.system c.requires.sound fresh made.regions made.head made.foot_head c.requires.none c.countdown_from-self.ensures;
          words = λ k inside apart recorded. (let tags = head_tags sound some k apart in made.elsewhere k inside tags.0 (λ is. tags.1 (omega arith)));
          new_words = λ k inside low high a b. made.elsewhere k inside a (λ is. b (omega arith));
        });
        free = subst (λ h. FreeMoves (state_of word heap) (state_of word h) [] []) (sym is)
            (opened_free new.system c.requires.sound fresh made.regions made.head made.foot_head c.requires.none c.countdown_from-self.ensures);
        same = subst (λ h. IsSameBins heap h) (sym is) (record { bins = refl; victim = refl });
      };
    }
