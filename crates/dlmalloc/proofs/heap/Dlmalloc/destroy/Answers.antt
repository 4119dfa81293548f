use Rattle.dlmalloc.proofs.Names.{◌+◌, [], ◌∷◌, filter, subst, refl, arith, is_own, taken_back, AreGivenBack, told_of}
use Rattle.dlmalloc.proofs.Returns.Everything.{head_given, head_is_run, read_high, read_word, is_run, on_given, sum_fits, fewer_given, destroyed}
use Rattle.dlmalloc.proofs.heap.Dlmalloc.destroy.Goals as goal

pub give_back-released-requires : goal.give_back-released-requires
give_back-released-requires g c =
    record { run = head_is_run c.requires.sound c.if-self-eq0.false c.head_record-head.ensures }

pub loop-payload-init : goal.loop-payload-init
loop-payload-init g c = head_given g.A.Links.follows_on c.requires.sound c.if-self-eq0.false g.A.Links.follows_none c.head_record-head.ensures
    c.give_back-released.ensures

pub record_at-told-requires : goal.record_at-told-requires
record_at-told-requires g c =
    let given = c.loop-payload.invariant in let more = c.loop-payload-test.true in let payload = c.loop-payload.payload in
    record {
      high = read_high c.requires.sound given more;
      base = read_word c.requires.sound given more payload (omega arith) (omega arith) refl;
      size = read_word c.requires.sound given more (payload + 8) (omega arith) (omega arith) (omega arith);
      next = read_word c.requires.sound given more (payload + 16) (omega arith) (omega arith) (omega arith);
      flags = read_word c.requires.sound given more (payload + 24) (omega arith) (omega arith) (omega arith);
    }

pub give_back-released-requires-in-loop-payload : goal.give_back-released-requires-in-loop-payload
give_back-released-requires-in-loop-payload g c =
    record { run = is_run c.requires.sound c.loop-payload.invariant c.loop-payload-test.true c.record_at-told.ensures.told }

pub overflow_add-released : goal.overflow_add-released
overflow_add-released g c =
    let frees = (g.met.A.Allocator.fixed c.args.self.system c.loop-payload.system _ c.loop-payload.invariant.given.followed).frees_same in
    let given = subst (λ f. AreGivenBack g.A.Links.regions g.A.Links.word g.A.Links.follows
    (taken_back f (filter is_own (told_of c.record_at-told.result ∷ []))) c.loop-payload.system
    c.give_back-released-in-loop-payload.result c.give_back-released-in-loop-payload.new.system) frees
    c.give_back-released-in-loop-payload.ensures in
    let fits = sum_fits g.A.Links.follows_on c.requires.sound c.loop-payload.invariant c.loop-payload-test.true c.record_at-told.ensures.told given in
    grind arith

pub loop-payload-smaller : goal.loop-payload-smaller
loop-payload-smaller g c =
    let frees = (g.met.A.Allocator.fixed c.args.self.system c.loop-payload.system _ c.loop-payload.invariant.given.followed).frees_same in
    let given = subst (λ f. AreGivenBack g.A.Links.regions g.A.Links.word g.A.Links.follows
    (taken_back f (filter is_own (told_of c.record_at-told.result ∷ []))) c.loop-payload.system
    c.give_back-released-in-loop-payload.result c.give_back-released-in-loop-payload.new.system) frees
    c.give_back-released-in-loop-payload.ensures in
    fewer_given g.A.Links.follows_on c.requires.sound c.loop-payload.invariant c.loop-payload-test.true c.record_at-told.ensures.told given

pub loop-payload-preserved : goal.loop-payload-preserved
loop-payload-preserved g c =
    let frees = (g.met.A.Allocator.fixed c.args.self.system c.loop-payload.system _ c.loop-payload.invariant.given.followed).frees_same in
    let given = subst (λ f. AreGivenBack g.A.Links.regions g.A.Links.word g.A.Links.follows
    (taken_back f (filter is_own (told_of c.record_at-told.result ∷ []))) c.loop-payload.system
    c.give_back-released-in-loop-payload.result c.give_back-released-in-loop-payload.new.system) frees
    c.give_back-released-in-loop-payload.ensures in
    on_given g.A.Links.follows_on c.requires.sound c.loop-payload.invariant c.loop-payload-test.true c.record_at-told.ensures.told given

pub returns : goal.returns
returns g c = destroyed c.requires.sound c.loop-payload.invariant c.loop-payload-test.false
