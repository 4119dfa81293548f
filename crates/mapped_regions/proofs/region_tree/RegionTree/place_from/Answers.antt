use Rattle.std.proofs.Common.{◌*◌, ◌^◌, sym, subst, arith, List}
use Rattle.machine_model.specs.declared.region.Region.{Region}
use Rattle.meminterval.specs.Entry.{pair_of}
use Rattle.meminterval.specs.Tree.{entries}
use Rattle.machine_model.specs.Place.{IsPlace, HasNoPlace}
use Rattle.mapped_regions.proofs.Passed.{behind_first, starts_across, starts_over, starts_clear, goes_on, clear_gap, clear_end, is_place, no_place}
use Rattle.mapped_regions.proofs.region_tree.RegionTree.place_from.Goals as goal
use Rattle.mapped_regions.proofs.region_tree.RegionTree.place_from.Goals.{in-Some+then-entry-base, in-Some+else-entry-base, in_default}

pub loop-at-init : goal.loop-at-init
loop-at-init c =
    let es = entries c.self.inside.tree in
    let base = c.args.base in
    let n = c.args.n in
    let at = c.match-last_before.at in
    elim c.match-last_before.branch [
      | in-Some+then-entry-base w ↦ starts_across base n es (2 ^ 52) at (pair_of w.in-Some.entry) c.self.invariant.follow
          (sym w.in-Some.ensures) w.if-entry-base.true w.at-is
      | in-Some+else-entry-base w ↦ starts_over base n es (2 ^ 52) at (pair_of w.in-Some.entry) c.self.invariant.follow
          (sym w.in-Some.ensures) (omega (arith, c.requires.window)) w.if-entry-base.false w.at-is
      | in_default w ↦ starts_clear base n es (2 ^ 52) at (sym w.in_default.ensures) (omega (arith, c.requires.window)) w.at-is
    ]

pub overflow_sub-entry : goal.overflow_sub-entry
overflow_sub-entry c =
    let i = behind_first c.loop-at.at 0 (entries c.self.inside.tree) (2 ^ 52) (pair_of c.in-Some-first_from.entry)
    c.self.invariant.follow (sym c.in-Some-first_from.ensures) in
    i.starts

pub returns-in-None : goal.returns-in-None
returns-in-None c =
    let es = entries c.self.inside.tree in
    let at = c.loop-at.at in
    subst (λ (rs : List Region). IsPlace (4096 * c.args.base) c.args.pages rs c.args.n (4096 * at)) c.self.view_is
    (is_place c.args.base c.args.pages c.args.n at es (2 ^ 52) c.loop-at.invariant
    (clear_end at c.args.n 0 es (2 ^ 52) c.self.invariant.follow c.loop-at.invariant.before (sym c.in-None.ensures))
    (omega (arith, c.if-n-end.true, c.loop-at-test.true)))

pub returns-then-entry-at : goal.returns-then-entry-at
returns-then-entry-at c =
    let es = entries c.self.inside.tree in
    let at = c.loop-at.at in
    let next = pair_of c.in-Some-first_from.entry in
    let i = behind_first at 0 es (2 ^ 52) next c.self.invariant.follow (sym c.in-Some-first_from.ensures) in
    subst (λ (rs : List Region). IsPlace (4096 * c.args.base) c.args.pages rs c.args.n (4096 * at)) c.self.view_is
    (is_place c.args.base c.args.pages c.args.n at es (2 ^ 52) c.loop-at.invariant
    (clear_gap at c.args.n 0 es (2 ^ 52) next c.self.invariant.follow c.loop-at.invariant.before
    (sym c.in-Some-first_from.ensures) (omega (arith, c.if-entry-at.true, i.starts)))
    (omega (arith, c.if-n-end.true, c.loop-at-test.true)))

pub loop-at-smaller : goal.loop-at-smaller
loop-at-smaller c =
    let i = behind_first c.loop-at.at 0 (entries c.self.inside.tree) (2 ^ 52) (pair_of c.in-Some-first_from.entry)
    c.self.invariant.follow (sym c.in-Some-first_from.ensures) in
    omega (arith, i.starts, i.some, c.loop-at-test.true)

pub loop-at-preserved : goal.loop-at-preserved
loop-at-preserved c =
    let es = entries c.self.inside.tree in
    let next = pair_of c.in-Some-first_from.entry in
    let i = behind_first c.loop-at.at 0 es (2 ^ 52) next c.self.invariant.follow (sym c.in-Some-first_from.ensures) in
    goes_on c.args.base c.args.n c.loop-at.at es (2 ^ 52) next c.self.invariant.follow c.loop-at.invariant
    (sym c.in-Some-first_from.ensures) (omega (arith, c.if-entry-at.false, i.starts))

pub returns-else-n-end : goal.returns-else-n-end
returns-else-n-end c =
    subst (λ (rs : List Region). HasNoPlace (4096 * c.args.base) c.args.pages rs c.args.n) c.self.view_is
    (no_place c.args.base c.args.pages c.args.n c.loop-at.at (entries c.self.inside.tree) (2 ^ 52) c.loop-at.invariant
    (omega (arith, c.if-n-end.false, c.loop-at-test.true)))

pub returns-after-loop-at : goal.returns-after-loop-at
returns-after-loop-at c =
    subst (λ (rs : List Region). HasNoPlace (4096 * c.args.base) c.args.pages rs c.args.n) c.self.view_is
    (no_place c.args.base c.args.pages c.args.n c.loop-at.at (entries c.self.inside.tree) (2 ^ 52) c.loop-at.invariant (omega (arith, c.loop-at-test.false)))
