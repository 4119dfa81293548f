use Rattle.std.proofs.Common.{ℕ, ◌+◌, ◌*◌, List, [], refl, ◌∙◌, subst, arith}
use Rattle.heap_memory.specs.declared.grant.Grant.{Grant}
use Rattle.heap_memory.specs.Words.{IsStored}
use Rattle.heap_memory.proofs.WordRuns.{copied_more}
use Rattle.heap_memory.proofs.links.Links.copy_counted.Goals as goal

pub loop-i-preserved : goal.loop-i-preserved
loop-i-preserved g c =
    let kept = c.loop-i.invariant in
    let old = c.args.self.now in
    let mid = c.loop-i.self in
    let new = c.store_counted.new.self in
    let Stored : List Grant → ℕ → Type 0 = λ regions value. IsStored regions (g.Self.Links.word mid) (c.args.to + 8 * c.loop-i.i) value (g.Self.Links.word new) in
    let stored = subst (λ regions. Stored regions (g.Self.Links.word mid (c.args.from + 8 * c.loop-i.i))) kept.regions
    (subst (Stored (g.Self.Links.regions mid)) c.load_counted-word.ensures.value c.store_counted.ensures.stored) in
    record {
      copied = copied_more (g.Self.Links.regions old) (g.Self.Links.word old) (g.Self.Links.word mid) (g.Self.Links.word new) c.args.from c.args.to c.args.count c.loop-i.i
          c.requires.from c.requires.to c.requires.apart c.loop-i-test.true kept.copied stored;
      regions = c.store_counted.ensures.regions ∙ kept.regions;
      follows = g.Self.Links.follows_on old mid new [] [] [] kept.follows c.store_counted.ensures.follows refl;
      counted = omega (arith, kept.counted, c.load_counted-word.ensures.counted, c.store_counted.ensures.counted);
    }
