use Rattle.dlmalloc.proofs.Names.{◌+◌, ◌^◌, ◌<◌, sym, subst, refl, ◌∙◌, arith, length, records_from}
use Rattle.dlmalloc.proofs.Segments.Walk.{fewer_left}
use Rattle.dlmalloc.proofs.Grants.SegmentBehind.{PassedBehind, as_passed, begun_behind, told_word, told_high, found_behind, onward_behind, none_behind}
use Rattle.dlmalloc.proofs.heap.Dlmalloc.find_behind.Goals as goal

pub loop-payload-init : goal.loop-payload-init
loop-payload-init g c = begun_behind c.requires.sound c.requires.there c.args.grant.now (sym c.is_before_head.ensures ∙ c.if-is_before_head.false)

pub is_before_told-requires : goal.is_before_told-requires
is_before_told-requires g c =
    let word = told_word c.requires.sound c.requires.there c.args.grant.now c.loop-payload.invariant c.loop-payload-test.true in
    record {
      end = c.requires.high;
      high = told_high c.requires.sound c.requires.there c.args.grant.now c.loop-payload.invariant c.loop-payload-test.true;
      base = word c.loop-payload.payload (omega arith) (omega arith) refl;
      flags = word (c.loop-payload.payload + 24) (omega arith) (omega arith) (omega arith);
    }

pub load_counted-payload-requires : goal.load_counted-payload-requires
load_counted-payload-requires g c = told_word c.requires.sound c.requires.there c.args.grant.now c.loop-payload.invariant c.loop-payload-test.true
    (c.loop-payload.payload + 16) (omega arith) (omega arith) (omega arith)

pub overflow_add-payload : goal.overflow_add-payload
overflow_add-payload g c = let high = told_high c.requires.sound c.requires.there c.args.grant.now c.loop-payload.invariant
    c.loop-payload-test.true in grind arith

pub loop-payload-smaller : goal.loop-payload-smaller
loop-payload-smaller g c =
    let words = g.A.Links.word c.args.self.now.system in
    subst (λ p. length (records_from words (2 ^ 64) p) < length (records_from words (2 ^ 64) c.loop-payload.payload))
    (sym c.load_counted-payload.ensures.value) (fewer_left c.requires.sound (as_passed c.loop-payload.invariant) c.loop-payload-test.true)

pub loop-payload-preserved : goal.loop-payload-preserved
loop-payload-preserved g c =
    subst (PassedBehind g.A.Links.word c.args.self.now c.args.grant.now) (sym c.load_counted-payload.ensures.value) (onward_behind c.requires.sound
    c.requires.there c.args.grant.now c.loop-payload.invariant c.loop-payload-test.true (sym c.is_before_told.ensures ∙ c.if-is_before_told.false))

pub returns-then-is_before_told-clause-found : goal.returns-then-is_before_told-clause-found
returns-then-is_before_told-clause-found g c = found_behind c.requires.sound c.requires.there c.args.grant.now c.loop-payload.invariant c.loop-payload-test.true
    (sym c.is_before_told.ensures ∙ c.if-is_before_told.true)

pub returns-clause-none : goal.returns-clause-none
returns-clause-none g c = λ is. none_behind c.requires.sound c.requires.there c.args.grant.now c.loop-payload.invariant c.loop-payload-test.false
