use Rattle.std.proofs.Common.{◌≡◌, ℕ, ◌+◌, ◌∙◌, sym, subst, arith}
use Rattle.std.specs.Prelude.{IsSome}
use Rattle.paging_core.specs.Walk.{walk_of}
use Rattle.address_space.specs.PageCopies.{ArePagesCopied}
use Rattle.address_space.proofs.Mapped.{canonical_in}
use Rattle.address_space.proofs.Unmapped.{part_of_range}
use Rattle.address_space.proofs.Duplicated.{none_copied, more_copied}
use Rattle.address_space.proofs.copying.copy_pages.Goals as goal

pub loop-step-init : goal.loop-step-init
loop-step-init c = none_copied c.args.frames.now c.args.root c.args.from c.args.to

pub page_at-requires : goal.page_at-requires
page_at-requires c = canonical_in c.args.from c.args.pages (c.args.from + c.loop-step.step) c.requires.source.canonical (omega arith) (omega arith)

pub page_at-requires-in-loop-step : goal.page_at-requires-in-loop-step
page_at-requires-in-loop-step c = canonical_in c.args.to c.args.pages (c.args.to + c.loop-step.step) c.requires.target.canonical (omega arith) (omega arith)

pub copy_to-requires-clause-tables : goal.copy_to-requires-clause-tables
copy_to-requires-clause-tables c =
    let t = c.requires.tables in
    let i = c.loop-step.invariant in
    let size = i.size in
    let below = t.below in
    record {
      below = omega (arith, size, below);
      tree = (t.tree.0, i.tree t.tree.0 t.tree.1);
      no_large = λ slot. i.larges slot ∙ t.no_large slot;
    }

pub copy_to-requires-clause-source : goal.copy_to-requires-clause-source
copy_to-requires-clause-source c =
    let old = c.args.frames.now in
    let one = c.loop-step.frames in
    let page = c.args.from + c.loop-step.step in
    let same = c.loop-step.invariant.elsewhere page (canonical_in c.args.from c.args.pages page c.requires.source.canonical
    (omega arith) (omega arith)) (λ k less is. c.requires.apart c.loop-step.step k (omega arith) (omega (arith, less))
    is) in
    subst (λ (p : ℕ). IsSome (walk_of one c.args.root p)) (sym c.page_at.ensures) (subst IsSome (sym same) (c.requires.source.mapped c.loop-step.step (omega arith)))

pub copy_to-requires-clause-target : goal.copy_to-requires-clause-target
copy_to-requires-clause-target c =
    let old = c.args.frames.now in
    let one = c.loop-step.frames in
    let page = c.args.to + c.loop-step.step in
    let same = c.loop-step.invariant.elsewhere page (canonical_in c.args.to c.args.pages page c.requires.target.canonical
    (omega arith) (omega arith)) (λ k less is. omega (arith, less, is)) in
    subst (λ (p : ℕ). IsSome (walk_of one c.args.root p)) (sym c.page_at-in-loop-step.ensures)
    (subst IsSome (sym same) (c.requires.target.mapped c.loop-step.step (omega arith)))

pub loop-step-preserved : goal.loop-step-preserved
loop-step-preserved c =
    let step = c.loop-step.step in
    let t = c.requires.tables.tree in
    more_copied c.args.frames.now c.loop-step.frames c.copy_to.new.frames c.args.root c.args.from step c.args.to
    c.page_at.result c.page_at-in-loop-step.result t.0 t.1
    (part_of_range c.args.to c.args.pages c.args.to (step + 1) c.requires.target.canonical (omega arith) (omega arith) (omega arith))
    (canonical_in c.args.from c.args.pages (c.args.from + step) c.requires.source.canonical (omega arith) (omega arith))
    (λ k less is. c.requires.apart step k (omega arith) (omega (arith, less)) is) c.page_at.ensures
    c.page_at-in-loop-step.ensures c.loop-step.invariant c.copy_to.ensures

pub returns : goal.returns
returns c =
    let all : c.loop-step.step ≡ c.args.pages = omega (arith, c.loop-step-test.false) in
    subst (λ (n : ℕ). ArePagesCopied c.args.frames.now c.loop-step.frames c.args.root c.args.from n c.args.to) all c.loop-step.invariant
