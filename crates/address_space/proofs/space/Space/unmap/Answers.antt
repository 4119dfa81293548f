use Rattle.std.proofs.Common.{◌≡◌, ◌∙◌, ℕ, ◌+◌, ◌-◌, ◌/◌, subst, arith}
use Rattle.address_space.specs.Changing.{IsUnmapped}
use Rattle.address_space.specs.Seen.{tables_of}
use Rattle.address_space.proofs.Unmapped.{part_of_range, unmapped_init, unmapped_step, untouched}
use Rattle.address_space.proofs.space.Space.unmap.Goals as goal

pub loop-end-init : goal.loop-end-init
loop-end-init c = unmapped_init (tables_of c.args.self.now) c.number-first.result (c.number-first.result + c.args.pages) (omega arith)

pub unmap_last-requires-clause-range : goal.unmap_last-requires-clause-range
unmap_last-requires-clause-range c =
    let first = c.number-first.ensures.value in
    let page = c.in-Some.ensures.first in
    let to = c.loop-end.invariant.to in
    let less = c.loop-end-test.true in
    part_of_range (c.args.start / 4096) c.args.pages c.number-first.result (c.loop-end.end - c.number-first.result)
    c.in-Some.ensures.good.canonical (omega (arith, first, page)) (omega (arith, first, page, to, less))
    (omega (arith, less))

pub loop-end-preserved : goal.loop-end-preserved
loop-end-preserved c =
    let first = c.number-first.ensures.value in
    let page = c.in-Some.ensures.first in
    let some = c.in-Some.ensures.good.canonical.some in
    let range = part_of_range (c.args.start / 4096) c.args.pages c.number-first.result
    (c.number-first.result + c.args.pages - c.number-first.result) c.in-Some.ensures.good.canonical
    (omega (arith, first, page)) (omega (arith, first, page)) (omega (arith, some)) in
    unmapped_step (tables_of c.args.self.now) (tables_of c.loop-end.self) (tables_of c.unmap_last.new.self)
    c.number-first.result (c.number-first.result + c.args.pages) c.loop-end.end c.loop-end.count c.in-Ok.part.first
    c.in-Ok.part.count
    c.args.self.now.kept.tree range c.loop-end.invariant c.in-Ok.ensures.ok.gone c.in-Ok.ensures.ok.from c.in-Ok.ensures.ok.less c.in-Ok.ensures.ok.to

pub returns-in-Err-clause-err : goal.returns-in-Err-clause-err
returns-in-Err-clause-err c =
    c.in-Err.ensures.err
    ∙ untouched (tables_of c.args.self.now) (tables_of c.loop-end.self) c.number-first.result
    (c.number-first.result + c.args.pages) c.loop-end.end c.loop-end.count c.loop-end.invariant c.in-Err.ensures.over

pub returns-clause-ok : goal.returns-clause-ok
returns-clause-ok c =
    let first = c.number-first.ensures.value in
    let page = c.in-Some.ensures.first in
    let from = c.loop-end.invariant.from in
    let done = c.loop-end-test.false in
    let old = tables_of c.args.self.now in
    let new = tables_of c.loop-end.self in
    let start : c.loop-end.end ≡ c.args.start / 4096 = omega (arith, first, page, from, done) in
    let pages : c.number-first.result + c.args.pages - c.loop-end.end ≡ c.args.pages = omega (arith, from, done) in
    subst (λ (n : ℕ). IsUnmapped old new n c.args.pages c.loop-end.count) start
    (subst (λ (n : ℕ). IsUnmapped old new c.loop-end.end n c.loop-end.count) pages c.loop-end.invariant.gone)
