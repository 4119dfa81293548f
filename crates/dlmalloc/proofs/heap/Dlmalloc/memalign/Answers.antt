use Rattle.dlmalloc.proofs.Names.{◌≡◌, ◌+◌, ◌≤◌, None, refl, subst, arith, rules, padded, chosen, state_of, limit}
use Rattle.dlmalloc.proofs.Bins.Members.{member_high}
use Rattle.dlmalloc.specs.Served.{IsRefusedWith}
use Rattle.dlmalloc.proofs.Requests.Aligned.{limit_small, enlarged_is, too_large, served_aligned}
use Rattle.dlmalloc.proofs.heap.Dlmalloc.memalign.Goals.{then-size-limit-via-then-size-limit, then-size-limit-via-else-size-limit+then-align-limit}
use Rattle.dlmalloc.proofs.heap.Dlmalloc.memalign.Goals as goal

pub returns-then-size-limit-clause-refused : goal.returns-then-size-limit-clause-refused
returns-then-size-limit-clause-refused g c =
    let more : c.max_request-limit.result ≤ c.args.size + c.args.align = elim c.then-size-limit.branch [
      | then-size-limit-via-then-size-limit w ↦ (let t = w.if-size-limit.true in omega arith)
      | then-size-limit-via-else-size-limit+then-align-limit w ↦ (let t = w.if-align-limit.true in omega arith)
    ] in
    record {
      refused = too_large (limit c.args.self.now.granularity) c.args.size c.args.align
          (subst (λ bound. bound ≤ c.args.size + c.args.align) c.max_request-limit.ensures.is more);
      same = record {
        followed = search rules;
        refused = search rules;
        state = refl;
        sound = c.requires.intact.sound;
        regions_same = refl;
        words = λ k is. refl;
        index = λ b. (b, λ n. refl);
      };
      untouched = λ large. refl;
    }

pub overflow_add-n-2 : goal.overflow_add-n-2
overflow_add-n-2 g c =
    let small = limit_small c.args.self.now.granularity c.requires.intact.sound.granularity.1 in
    let bound = c.max_request-limit.ensures.is in let near = c.request2size-n.ensures.near in
    let less = c.if-align-limit.false in omega arith

pub returns-in-Ok-clause-served : goal.returns-in-Ok-clause-served
returns-in-Ok-clause-served g c =
    let n = c.request2size-n.ensures in
    served_aligned c.args.size n.is n.holds n.near c.in-Ok.ensures.served c.align_block.ensures.aligned

pub returns-in-Err-clause-refused : goal.returns-in-Err-clause-refused
returns-in-Err-clause-refused g c =
    subst (λ m. IsRefusedWith g.A.Links.regions g.A.Links.word g.A.Links.follows g.A.Allocator.refuses g.A.Allocator.denies c.args.self.now m c.in-Err.error
    c.c_malloc.new.self) (enlarged_is c.args.size c.args.align c.request2size-n.ensures.is) c.in-Err.ensures.refused

pub returns-in-Ok-clause-member : goal.returns-in-Ok-clause-member
returns-in-Ok-clause-member g c =
    member_high g.A.Links.regions g.A.Links.word c.args.self.now c.args.size c.args.align c.in-Ok.block c.requires.align.1
    (enlarged_is c.args.size c.args.align c.request2size-n.ensures.is) c.align_block.ensures.aligned.place c.in-Ok.ensures.member

pub returns-in-Ok-clause-counted : goal.returns-in-Ok-clause-counted
returns-in-Ok-clause-counted g c = λ some.
    let few = c.c_malloc.ensures.counted (λ none. some (subst (λ m. chosen (state_of g.A.Links.word c.args.self.now) (padded m) ≡ None)
    (enlarged_is c.args.size c.args.align c.request2size-n.ensures.is) none)) in
    omega arith
