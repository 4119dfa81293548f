use Rattle.std.proofs.Common.{◌≡◌, ◌*◌, ◌^◌, sym, ◌∙◌, ap, subst, arith, List, Some, None}
use Rattle.std.specs.List.{find}
use Rattle.machine_model.specs.declared.region.Region.{Region}
use Rattle.machine_model.specs.Place.{meets}
use Rattle.meminterval.specs.Entry.{pair_of}
use Rattle.meminterval.specs.Tree.{entries}
use Rattle.mapped_regions.proofs.Passed.{EndBefore, behind_first, last_is, clear_gap, clear_end, ends_none}
use Rattle.mapped_regions.specs.Regions.{AreLaid}
use Rattle.mapped_regions.proofs.Listing.{laid}
use Rattle.machine_model.proofs.Regions.{find_none}
use Rattle.mapped_regions.proofs.Meeting.{none_found, meets_last, meets_next}
use Rattle.mapped_regions.proofs.region_tree.RegionTree.lowest_met.Goals as goal
use Rattle.mapped_regions.proofs.region_tree.RegionTree.lowest_met.Goals.{in-Some+else-entry-first, in_default}

pub region-requires : goal.region-requires
region-requires c =
    let i = last_is c.args.first 0 (entries c.self.inside.tree) (2 ^ 52) (pair_of c.in-Some.entry) c.self.invariant.follow (sym c.in-Some.ensures) in
    record { some = omega (arith, i.some); within = i.within; below = omega (arith, i.some, i.within) }

pub returns-then-entry-first-clause-value : goal.returns-then-entry-first-clause-value
returns-then-entry-first-clause-value c =
    let es = entries c.self.inside.tree in
    let e = pair_of c.in-Some.entry in
    ap (λ r. Some r) c.region.ensures
    ∙ sym (meets_last c.args.first c.args.pages 0 es (2 ^ 52) e c.self.invariant.follow (sym c.in-Some.ensures) c.if-entry-first.true)
    ∙ ap (find (meets (4096 * c.args.first) c.args.pages)) c.self.view_is

pub region-requires-then-entry-first-2 : goal.region-requires-then-entry-first-2
region-requires-then-entry-first-2 c =
    let i = behind_first c.args.first 0 (entries c.self.inside.tree) (2 ^ 52) (pair_of c.in-Some-first_from.entry) c.self.invariant.follow (sym c.in-Some-first_from.ensures) in
    record { some = omega (arith, i.some); within = i.within; below = omega (arith, i.some, i.within) }

pub returns-then-entry-first-2-clause-value : goal.returns-then-entry-first-2-clause-value
returns-then-entry-first-2-clause-value c =
    let first = c.args.first in
    let es = entries c.self.inside.tree in
    let next = pair_of c.in-Some-first_from.entry in
    let before : EndBefore first es = elim c.match-last_before.branch [
      | in-Some+else-entry-first w ↦ let i = last_is first 0 es (2 ^ 52) (pair_of w.in-Some.entry) c.self.invariant.follow
          (sym w.in-Some.ensures) in i.before_base first w.if-entry-first.false (omega arith)
      | in_default w ↦ ends_none first first es (omega arith) (sym w.in_default.ensures)
    ] in
    ap (λ r. Some r) c.region-then-entry-first-2.ensures
    ∙ sym (meets_next first c.args.pages 0 es (2 ^ 52) next c.self.invariant.follow before (sym c.in-Some-first_from.ensures) c.if-entry-first-2.true)
    ∙ ap (find (meets (4096 * first) c.args.pages)) c.self.view_is

pub returns-else-entry-first-2-clause-value : goal.returns-else-entry-first-2-clause-value
returns-else-entry-first-2-clause-value c =
    let first = c.args.first in
    let es = entries c.self.inside.tree in
    let next = pair_of c.in-Some-first_from.entry in
    let before : EndBefore first es = elim c.match-last_before.branch [
      | in-Some+else-entry-first w ↦ let i = last_is first 0 es (2 ^ 52) (pair_of w.in-Some.entry) c.self.invariant.follow
          (sym w.in-Some.ensures) in i.before_base first w.if-entry-first.false (omega arith)
      | in_default w ↦ ends_none first first es (omega arith) (sym w.in_default.ensures)
    ] in
    let test = meets (4096 * first) c.args.pages in
    subst (λ (rs : List Region). None ≡ find test rs) c.self.view_is
    (sym (find_none test _ (clear_gap first c.args.pages 0 es (2 ^ 52) next c.self.invariant.follow before
    (sym c.in-Some-first_from.ensures) c.if-entry-first-2.false)))

pub returns-in-None-clause-value : goal.returns-in-None-clause-value
returns-in-None-clause-value c =
    let first = c.args.first in
    let es = entries c.self.inside.tree in
    let before : EndBefore first es = elim c.match-last_before.branch [
      | in-Some+else-entry-first w ↦ let i = last_is first 0 es (2 ^ 52) (pair_of w.in-Some.entry) c.self.invariant.follow
          (sym w.in-Some.ensures) in i.before_base first w.if-entry-first.false (omega arith)
      | in_default w ↦ ends_none first first es (omega arith) (sym w.in_default.ensures)
    ] in
    let test = meets (4096 * first) c.args.pages in
    subst (λ (rs : List Region). None ≡ find test rs) c.self.view_is
    (sym (find_none test _ (clear_end first c.args.pages 0 es (2 ^ 52) c.self.invariant.follow before (sym c.in-None.ensures))))

pub returns-then-entry-first-clause-laid : goal.returns-then-entry-first-clause-laid
returns-then-entry-first-clause-laid c = subst (λ (rs : List Region). AreLaid 0 rs (2 ^ 64)) c.self.view_is
    (laid 0 (entries c.self.inside.tree) (2 ^ 52) c.self.invariant.follow)

pub returns-then-entry-first-2-clause-laid : goal.returns-then-entry-first-2-clause-laid
returns-then-entry-first-2-clause-laid c = subst (λ (rs : List Region). AreLaid 0 rs (2 ^ 64)) c.self.view_is
    (laid 0 (entries c.self.inside.tree) (2 ^ 52) c.self.invariant.follow)

pub returns-else-entry-first-2-clause-laid : goal.returns-else-entry-first-2-clause-laid
returns-else-entry-first-2-clause-laid c = subst (λ (rs : List Region). AreLaid 0 rs (2 ^ 64)) c.self.view_is
    (laid 0 (entries c.self.inside.tree) (2 ^ 52) c.self.invariant.follow)

pub returns-in-None-clause-laid : goal.returns-in-None-clause-laid
returns-in-None-clause-laid c = subst (λ (rs : List Region). AreLaid 0 rs (2 ^ 64)) c.self.view_is
    (laid 0 (entries c.self.inside.tree) (2 ^ 52) c.self.invariant.follow)

pub returns-else-entry-first-2-clause-clear : goal.returns-else-entry-first-2-clause-clear
returns-else-entry-first-2-clause-clear c = none_found (meets (4096 * c.args.first) c.args.pages) c.args.self.now
    (sym (returns-else-entry-first-2-clause-value c))

pub returns-in-None-clause-clear : goal.returns-in-None-clause-clear
returns-in-None-clause-clear c = none_found (meets (4096 * c.args.first) c.args.pages) c.args.self.now (sym (returns-in-None-clause-value c))
