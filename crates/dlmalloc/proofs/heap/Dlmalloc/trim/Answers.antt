use Rattle.dlmalloc.proofs.Names.{◌≡◌, ◌-◌, ◌^◌, ◌<◌, true, false, ◌||◌, if◌then◌else◌, inl, inr, refl, sym, subst, arith, nat_lt, nat_tests, limit, IsTrimmed, IsBinned, state_of}
use Rattle.dlmalloc.proofs.Bins.Changes.{same_check}
use Rattle.dlmalloc.proofs.Returns.Trim.{is_not_made, untouched, limit_small, trim_gave, trim_gave_up}
use Rattle.dlmalloc.proofs.heap.Dlmalloc.trim.Goals.{then-pad-max_request-via-then-pad-max_request, then-pad-max_request-via-else-pad-max_request+then-self-eq0, then-is_cut-via-then-is_cut, then-is_cut-via-else-is_cut+then-released-gt0}
use Rattle.dlmalloc.proofs.Returns.PassSteps.{after_cut_pass}
use Rattle.dlmalloc.proofs.heap.Dlmalloc.trim.Goals as goal

pub trim_top-is_cut-requires-clause-small : goal.trim_top-is_cut-requires-clause-small
trim_top-is_cut-requires-clause-small g c =
    let few = limit_small c.args.self.now.granularity c.requires.intact.sound.granularity.1 in
    let is = c.max_request.ensures.is in let below = c.if-pad-max_request.false in
    grind (arith, nat_tests)

pub returns-then-is_cut-clause-trimmed : goal.returns-then-is_cut-clause-trimmed
returns-then-is_cut-clause-trimmed g c =
    let heap = c.args.self.now in let is = c.max_request.ensures.is in let below = c.if-pad-max_request.false in
    let other = c.if-self-eq0.false in
    let small : c.args.pad < limit heap.granularity = grind (arith, nat_tests) in
    let some : 0 < heap.size = grind (arith, nat_tests) in
    let given : (c.trim_top-is_cut.result || nat_lt 0 c.release_unused_segments-released.result) ≡ true = elim c.then-is_cut.branch [
      | then-is_cut-via-then-is_cut w ↦ (let first = w.if-is_cut.true in rw first refl)
      | then-is_cut-via-else-is_cut+then-released-gt0 w ↦ (let first = w.if-is_cut.false in let more = w.if-released-gt0.true in
          let test : nat_lt 0 c.release_unused_segments-released.result ≡ true = grind (arith, nat_tests) in rw (first, test) refl)
    ] in
    trim_gave g.met.A.Allocator.fixed g.A.Links.follows_on some small
    c.trim_top-is_cut.ensures.cut c.trim_top-is_cut.ensures.there c.release_unused_segments-released.ensures.passed c.trim_top-is_cut.ensures.answer
    c.trim_top-is_cut.ensures.index given

pub returns-clause-trimmed : goal.returns-clause-trimmed
returns-clause-trimmed g c =
    let heap = c.args.self.now in let is = c.max_request.ensures.is in let below = c.if-pad-max_request.false in
    let other = c.if-self-eq0.false in
    let small : c.args.pad < limit heap.granularity = grind (arith, nat_tests) in
    let some : 0 < heap.size = grind (arith, nat_tests) in
    let first = c.if-is_cut.false in let none = c.if-released-gt0.false in
    let test : nat_lt 0 c.release_unused_segments-released.result ≡ false = grind (arith, nat_tests) in
    let given : (c.trim_top-is_cut.result || nat_lt 0 c.release_unused_segments-released.result) ≡ false = rw (first, test) refl in
    subst (λ h. IsTrimmed g.A.Links.regions g.A.Links.word g.A.Links.follows (g.A.Allocator.frees heap.system) (g.A.Allocator.parts heap.system)
    (g.A.Allocator.unit heap.system) heap c.args.pad false h) (sym c.give_up.ensures)
    (trim_gave_up g.met.A.Allocator.fixed g.A.Links.follows_on some small c.trim_top-is_cut.ensures.cut c.trim_top-is_cut.ensures.there
    c.release_unused_segments-released.ensures.passed c.trim_top-is_cut.ensures.answer c.trim_top-is_cut.ensures.index given)

pub returns-clause-linked : goal.returns-clause-linked
returns-clause-linked g c = subst (λ h. IsBinned g.A.Links.regions g.A.Links.word h) (sym c.give_up.ensures)
    (same_check (if nat_lt c.release_unused_segments-released.new.self.trim_check c.release_unused_segments-released.new.self.top_size then 2 ^ 64 - 1
    else c.release_unused_segments-released.new.self.trim_check) c.release_unused_segments-released.ensures.linked)

pub returns-then-pad-max_request-clause-trimmed : goal.returns-then-pad-max_request-clause-trimmed
returns-then-pad-max_request-clause-trimmed g c =
    let heap = c.args.self.now in let is = c.max_request.ensures.is in
    untouched g.A.Links.word heap c.args.pad g.A.Links.follows (g.A.Allocator.frees heap.system) (g.A.Allocator.parts heap.system) (g.A.Allocator.unit
    heap.system) c.requires.intact.sound (g.A.Links.follows_none heap.system) (is_not_made g.A.Links.word heap c.args.pad (elim c.then-pad-max_request.branch [
      | then-pad-max_request-via-then-pad-max_request w ↦ inl (let more = w.if-pad-max_request.true in omega arith)
      | then-pad-max_request-via-else-pad-max_request+then-self-eq0 w ↦ inr w.if-self-eq0.true
    ]))

pub returns-then-is_cut-clause-counted : goal.returns-then-is_cut-clause-counted
returns-then-is_cut-clause-counted g c =
    let start = c.args.self.now.system in let first = c.trim_top-is_cut.ensures.counted in
    let pass = c.release_unused_segments-released.ensures.counted in
    let same = after_cut_pass (g.A.Allocator.parts start) (g.A.Allocator.unit start) c.args.pad
    (state_of g.A.Links.word c.args.self.now) c.trim_top-is_cut.ensures.cut.state in
    omega arith

pub returns-clause-counted : goal.returns-clause-counted
returns-clause-counted g c =
    let start = c.args.self.now.system in let first = c.trim_top-is_cut.ensures.counted in
    let pass = c.release_unused_segments-released.ensures.counted in
    let same = after_cut_pass (g.A.Allocator.parts start) (g.A.Allocator.unit start) c.args.pad
    (state_of g.A.Links.word c.args.self.now) c.trim_top-is_cut.ensures.cut.state in
    omega arith
