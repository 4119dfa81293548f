use Rattle.dlmalloc.proofs.Names.{◌≡◌, ℕ, ◌+◌, ◌-◌, ◌%◌, ◌<◌, ◌≤◌, ◌∙◌, inl, inr, ◌==◌, nat_le, if◌then◌else◌, [], ◌∷◌, refl, sym, ap, subst, arith, IsWordOf, state_of, IsFreeAt, IsSameBins, FreeMoves, IsAdmitted, IsRecordAt}
use Rattle.dlmalloc.proofs.Segments.HeadTop.{top_low, top_whole, top_sizes, ends, end_whole, head_low, head_small, head_word}
use Rattle.dlmalloc.proofs.Grants.TopLeft.{large_at}
use Rattle.dlmalloc.proofs.Grants.NewHead.{new_head, record_of_head, bounds_of, beside_head, IsNewHead}
use Rattle.dlmalloc.proofs.Grants.NewHeadStored.{ends_same, told_same, record_kept, new_added}
use Rattle.dlmalloc.proofs.heap.Dlmalloc.change_head.Goals as goal

pub leave_top-record-requires : goal.leave_top-record-requires
leave_top-record-requires g c =
    let heap = c.args.self.now in let e = ends c.requires.sound c.requires.segment.there in
    let whole = top_whole c.requires.sound c.requires.segment.there in
    let sizes = top_sizes c.requires.sound c.requires.segment.there in let low = top_low c.requires.sound c.requires.segment.there in
    let small = head_small c.requires.sound c.requires.segment.there in
    record {
      foot = record {
        aligned = omega arith;
        small = omega arith;
        granted = head_word c.requires.sound c.requires.segment.there (heap.top + heap.top_size) (omega arith) (omega arith) (omega arith);
      };
    }

pub put_record-requires : goal.put_record-requires
put_record-requires g c =
    let heap = c.args.self.now in let sound = c.requires.sound in let there = c.requires.segment.there in
    let b = bounds_of sound there c.leave_top-record.ensures.place in let whole = end_whole sound there in
    let small = head_small sound there in let top = top_low sound there in
    let same = ends_same heap c.leave_top-record.ensures.fields in
    record {
      aligned = omega arith;
      end_aligned = omega arith;
      room = omega arith;
      high = omega arith;
      granted = λ k low high m.
          subst (λ rs. IsWordOf rs k) (sym c.leave_top-record.ensures.rest.regions) (head_word sound there k (omega arith) (omega arith) m);
    }

pub overflow_add-end : goal.overflow_add-end
overflow_add-end g c =
    let small = head_small c.requires.sound c.requires.segment.there in
    let same = ends_same c.args.self.now c.leave_top-record.ensures.fields in
    grind arith

pub overflow_add-self : goal.overflow_add-self
overflow_add-self g c =
    let b = bounds_of c.requires.sound c.requires.segment.there c.leave_top-record.ensures.place in
    let small = head_small c.requires.sound c.requires.segment.there in let room = b.1 in
    grind arith

pub make_head-requires : goal.make_head-requires
make_head-requires g c =
    let f = c.requires.segment.fresh in let grant = c.args.grant.now in let long = f.long in
    let same = sym (c.put_record.ensures.rest.regions ∙ c.leave_top-record.ensures.rest.regions) in
    record {
      low = omega arith;
      room = omega arith;
      high = f.high;
      top = subst (λ rs. IsWordOf rs (grant.base + 8)) same
          (record { granted = f.run.covered (grant.base + 8) (omega arith) (omega arith); aligned = omega arith });
      foot = subst (λ rs. IsWordOf rs (grant.base + grant.size - 72)) same
          (record { granted = f.run.covered (grant.base + grant.size - 72) (omega arith) (omega arith); aligned = omega arith });
    }

pub returns : goal.returns
returns g c =
    let regions = g.A.Links.regions in let word = g.A.Links.word in let heap = c.args.self.now in
    let grant = c.args.grant.now in let fresh = c.requires.segment.fresh in let there = c.requires.segment.there in
    let left = c.leave_top-record.ensures in let middle = c.leave_top-record.new.self in
    let at = c.leave_top-record.result in let put = c.put_record.ensures in let system = c.put_record.new.memory in
    let made = c.make_head.ensures.closed in let new = c.make_head.new.self in
    let b = bounds_of c.requires.sound there left.place in let low = head_low c.requires.sound there in
    let above = top_low c.requires.sound there in let sizes = top_sizes c.requires.sound there in
    let e = ends c.requires.sound there in let end_same = ends_same heap left.fields in
    let apart = beside_head c.requires.sound there grant fresh in
    let told : IsRecordAt (word system) at (record_of_head heap) (heap.base + heap.size) (at == heap.top) =
    told_same at heap left.fields put.told in
    let into : (k : ℕ) → IsWordOf (regions heap.system) k → IsWordOf (regions middle.system) k =
    λ k inside. subst (λ rs. IsWordOf rs k) (sym left.rest.regions) inside in
    let onto : (k : ℕ) → IsWordOf (regions heap.system) k → IsWordOf (regions system) k =
    λ k inside. subst (λ rs. IsWordOf rs k) (sym (put.rest.regions ∙ left.rest.regions)) inside in
    let of_head : (k : ℕ) → heap.base ≤ k → k < heap.base + heap.size → k % 8 ≡ 0 → word new.system k ≡ word system k = λ k from to m.
    made.elsewhere k (onto k (head_word c.requires.sound there k from to m)) (λ is. elim apart [ inl before ↦ omega arith | inr behind ↦ omega arith ])
    (λ is. elim apart [ inl before ↦ omega arith | inr behind ↦ omega arith ]) in
    let stored : IsNewHead regions word heap grant new.system at = record {
      fresh = fresh;
      some = there;
      beside = c.requires.segment.beside;
      no_join = c.requires.segment.apart;
      same = made.regions ∙ (put.rest.regions ∙ left.rest.regions);
      at_is = left.place;
      head = made.head;
      foot = made.foot_head;
      recorded = record_kept (word new.system) (omega arith) b.1 (λ k from to m. of_head k (omega arith) to m) told;
      left_foot = λ large. of_head (heap.top + heap.top_size) (omega arith) (omega arith) (omega (arith, top_whole c.requires.sound there))
          ∙ (put.rest.elsewhere (heap.top + heap.top_size) (into (heap.top + heap.top_size)
          (head_word c.requires.sound there (heap.top + heap.top_size) (omega arith)
          (omega arith) (omega (arith, top_whole c.requires.sound there)))) (inl (large_at heap.top heap.top_size left.place large)) ∙ left.foot large);
      kept = λ k inside out free not_top not_foot. made.elsewhere k (onto k inside) not_top not_foot ∙ (put.rest.elsewhere k (into k inside)
          (elim out [ inl before ↦ inl before | inr behind ↦ inr (omega arith) ]) ∙ left.rest.elsewhere k inside free);
    } in
    let added = new_added g.A.Links.follows c.requires.sound stored (g.A.Links.follows_on heap.system system new.system [] [] []
    (g.A.Links.follows_on heap.system middle.system system [] [] [] left.rest.follows put.rest.follows refl) made.follows refl) in
    let is = c.make_head.ensures.fields ∙ ap (λ h. new_head h grant new.system at) left.fields in
    record {
      admitted = record {
        joined = subst (λ h. IsAdmitted regions word g.A.Links.follows heap grant h) (sym is) added.0;
        free = subst (λ h. FreeMoves (state_of word heap) (state_of word h) [] (if nat_le 32 heap.top_size then heap.top ∷ [] else [])) (sym is) added.1;
        same = subst (λ h. IsSameBins heap h) (sym is) (record { bins = refl; victim = refl });
      };
      rest = λ many. subst (λ h. IsFreeAt (state_of word h) heap.top heap.top_size) (sym is) (added.2 many);
    }
