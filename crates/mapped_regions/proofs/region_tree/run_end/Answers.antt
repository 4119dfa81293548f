use Rattle.std.proofs.Common.{◌*◌, ◌^◌, arith, sym}
use Rattle.meminterval.specs.Entry.{pair_of}
use Rattle.meminterval.specs.Tree.{entries}
use Rattle.mapped_regions.specs.Pairs.{pair_regions}
use Rattle.mapped_regions.proofs.Passed.{behind_first}
use Rattle.mapped_regions.proofs.Held.{held_join, held_pair}
use Rattle.mapped_regions.proofs.region_tree.run_end.Goals as goal

pub loop-entry-init : goal.loop-entry-init
loop-entry-init c = record { above = omega arith; held = λ address a b. absurd (omega (arith, a, b)) }

pub returns-then-entry-at-clause-above : goal.returns-then-entry-at-clause-above
returns-then-entry-at-clause-above c = c.loop-entry.invariant.above

pub returns-then-entry-at-clause-held : goal.returns-then-entry-at-clause-held
returns-then-entry-at-clause-held c = c.loop-entry.invariant.held

pub loop-entry-smaller : goal.loop-entry-smaller
loop-entry-smaller c =
    let i = behind_first c.loop-entry.at 0 (entries c.args.tree.now) (2 ^ 52) (pair_of c.in-Some.entry) c.requires (sym c.in-Some.ensures) in
    omega (arith, i.starts, i.some, i.within)

pub loop-entry-preserved : goal.loop-entry-preserved
loop-entry-preserved c =
    let es = entries c.args.tree.now in
    let at = c.loop-entry.at in
    let next = pair_of c.in-Some.entry in
    let i = behind_first at 0 es (2 ^ 52) next c.requires (sym c.in-Some.ensures) in
    let above = c.loop-entry.invariant.above in
    let here = held_pair at 0 es (2 ^ 52) next c.requires (sym c.in-Some.ensures) in
    record {
      above = omega (arith, above, i.starts, i.some);
      held = held_join (4096 * c.args.from) (4096 * at) (4096 * next.0.end) (pair_regions es) c.loop-entry.invariant.held
          (λ address a b. here address (omega (arith, a, c.if-entry-at.false)) b);
    }

pub returns-clause-above : goal.returns-clause-above
returns-clause-above c = c.loop-entry.invariant.above

pub returns-clause-held : goal.returns-clause-held
returns-clause-held c = c.loop-entry.invariant.held
