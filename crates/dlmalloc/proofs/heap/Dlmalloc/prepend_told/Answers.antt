use Rattle.dlmalloc.proofs.Names.{◌≡◌, ℕ, ◌+◌, ◌-◌, ◌∙◌, [], refl, sym, subst, arith, IsWordOf, whole_each, CanHoldTwo}
use Rattle.dlmalloc.proofs.Grants.PutBefore.{IsInTwo}
use Rattle.dlmalloc.proofs.Grants.BeforeWhich.{two_heads, before_told, told_place}
use Rattle.dlmalloc.proofs.heap.Dlmalloc.prepend_told.Goals as goal

pub load_counted-size-requires : goal.load_counted-size-requires
load_counted-size-requires g c = (told_place c.requires.sound c.args.grant.now c.requires.before.behind).size_word

pub store_counted-requires : goal.store_counted-requires
store_counted-requires g c = (told_place c.requires.sound c.args.grant.now c.requires.before.behind).base_word

pub store_counted-requires-2 : goal.store_counted-requires-2
store_counted-requires-2 g c = subst (λ rs. IsWordOf rs (c.args.payload + 8)) (sym c.store_counted.ensures.regions)
    (told_place c.requires.sound c.args.grant.now c.requires.before.behind).size_word

pub overflow_add-payload : goal.overflow_add-payload
overflow_add-payload g c = let high = (told_place c.requires.sound c.args.grant.now c.requires.before.behind).high in grind arith

pub overflow_add-payload-2 : goal.overflow_add-payload-2
overflow_add-payload-2 g c = let high = (told_place c.requires.sound c.args.grant.now c.requires.before.behind).high in grind arith

pub overflow_add-grant : goal.overflow_add-grant
overflow_add-grant g c =
    let sum = (told_place c.requires.sound c.args.grant.now c.requires.before.behind).sum in
    let size = c.load_counted-size.ensures.value in
    grind arith

pub put_two-requires : goal.put_two-requires
put_two-requires g c = subst (λ rs. CanHoldTwo rs c.args.grant.now.base c.args.n (c.args.grant.now.size - c.args.n))
    (sym (c.store_counted-2.ensures.regions ∙ c.store_counted.ensures.regions)) (two_heads c.requires.before.room)

pub returns : goal.returns
returns g c =
    let regions = g.A.Links.regions in let word = g.A.Links.word in let heap = c.args.self.now in
    let grant = c.args.grant.now in let payload = c.args.payload in let one = c.store_counted.ensures in
    let two = c.store_counted-2.ensures in let put = c.put_two.ensures in
    let p = told_place c.requires.sound grant c.requires.before.behind in
    let at_first = c.store_counted.new.self in let at_second = c.store_counted-2.new.self in
    let system = c.put_two.new.memory in let same = two.regions ∙ one.regions in
    let into : (k : ℕ) → IsWordOf (regions heap.system) k → IsWordOf (regions at_second) k = λ k inside. subst (λ rs. IsWordOf rs k) (sym same) inside in
    let onto : (k : ℕ) → IsWordOf (regions heap.system) k → IsWordOf (regions at_first) k = λ k inside. subst (λ rs. IsWordOf rs k) (sym one.regions) inside in
    let room = c.requires.before.room.room in
    let base : word system payload ≡ grant.base =
    put.rest.elsewhere payload (into payload p.base_word) (
      (λ is. p.apart payload (omega arith) (omega arith) (omega arith) (omega arith)),
      (λ is. p.apart payload (omega arith) (omega arith) (omega arith) (omega arith)),
    )
    ∙ (two.stored.elsewhere payload (onto payload p.base_word) (λ is. omega arith) ∙ one.stored.here) in
    let size : word system (payload + 8) ≡ grant.size + word heap.system (payload + 8) =
    put.rest.elsewhere (payload + 8) (into (payload + 8) p.size_word) (
      (λ is. p.apart (payload + 8) (omega arith) (omega arith) (omega arith) (omega arith)),
      (λ is. p.apart (payload + 8) (omega arith) (omega arith) (omega arith) (omega arith)),
    )
    ∙ (two.stored.here ∙ (λ i. grant.size + c.load_counted-size.ensures.value i)) in
    let halves : IsInTwo regions word g.A.Links.follows heap grant c.args.n system = record {
      fresh = c.requires.before.room.fresh;
      multiple = c.requires.before.room.bytes.whole;
      least = c.requires.before.room.bytes.least;
      room = c.requires.before.room.room;
      whole = whole_each (regions heap.system) (g.A.Links.whole heap.system);
      same = put.rest.regions ∙ same;
      first = put.first;
      second = put.second;
      followed = g.A.Links.follows_on heap.system at_second system [] [] []
          (g.A.Links.follows_on heap.system at_first at_second [] [] [] one.follows two.follows refl) put.rest.follows refl;
    } in
    record {
      put = record {
        prepended = before_told c.requires.sound halves c.requires.before.behind base size
            (λ k inside not_first not_second not_base not_size. put.rest.elsewhere k (into k inside) (not_first, not_second)
            ∙ (two.stored.elsewhere k (onto k inside) not_size ∙ one.stored.elsewhere k inside not_base));
        same = record { bins = refl; victim = refl };
      };
    }
