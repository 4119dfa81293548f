use Rattle.std.proofs.Common.{◌∙◌, ◌^◌, sym, arith, inl, inr}
use Rattle.address_space.proofs.RightsEqual.{equal_rights, other_rights}
use Rattle.meminterval.specs.Entry.{pair_of}
use Rattle.meminterval.specs.Tree.{entries}
use Rattle.address_space.proofs.Splits.{last_is, none_last}
use Rattle.address_space.proofs.Joining.{longest_first, longest_none, none_next, none_over, longest_gap, none_later, beside, meeting, longest_beside}
use Rattle.address_space.proofs.runs.around.Goals as goal
use Rattle.std.proofs.lemmas.Bool.{cases_lt}

pub returns-in_default : goal.returns-in_default
returns-in_default c =
    let es = entries c.args.runs.now in
    longest_first es c.args.page c.requires.follow (none_last c.args.page 0 es (2 ^ 52) c.requires.follow c.requires.within (sym c.in_default.ensures))

pub returns-in_default-first_from : goal.returns-in_default-first_from
returns-in_default-first_from c =
    let es = entries c.args.runs.now in
    let e = pair_of c.in-Some.left in
    let i = last_is c.args.page 0 es (2 ^ 52) e c.requires.follow c.requires.within (sym c.in-Some.ensures) in
    longest_none es c.args.page (none_next c.args.page es e i (sym c.in_default-first_from.ensures))

pub returns-then-left-page : goal.returns-then-left-page
returns-then-left-page c =
    let es = entries c.args.runs.now in
    let page = c.args.page in
    let e = pair_of c.in-Some.left in
    let i = last_is page 0 es (2 ^ 52) e c.requires.follow c.requires.within (sym c.in-Some.ensures) in
    elim (cases_lt page e.0.end) [
      | inl over ↦ longest_none es page (none_over page es e i over)
      | inr at ↦ longest_gap page es e c.requires.follow i (omega (arith, at, c.if-left-page.true))
    ]

pub returns-then-right-page : goal.returns-then-right-page
returns-then-right-page c =
    let es = entries c.args.runs.now in
    let page = c.args.page in
    let e = pair_of c.in-Some.left in
    let i = last_is page 0 es (2 ^ 52) e c.requires.follow c.requires.within (sym c.in-Some.ensures) in
    longest_none es page (none_later page es e (pair_of c.in-Some-first_from.right) i (sym c.in-Some-first_from.ensures) c.if-right-page.true)

pub returns-then-ne : goal.returns-then-ne
returns-then-ne c =
    let es = entries c.args.runs.now in
    let page = c.args.page in
    let e = pair_of c.in-Some.left in
    let next = pair_of c.in-Some-first_from.right in
    let i = last_is page 0 es (2 ^ 52) e c.requires.follow c.requires.within (sym c.in-Some.ensures) in
    longest_beside page es e next c.requires.follow i (beside page es e next i (sym c.in-Some-first_from.ensures))
    c.if-left-page.false c.if-right-page.false (other_rights e.1 next.1 (sym c.ne.ensures ∙ c.if-ne.true))

pub returns : goal.returns
returns c =
    let es = entries c.args.runs.now in
    let page = c.args.page in
    let e = pair_of c.in-Some.left in
    let next = pair_of c.in-Some-first_from.right in
    let i = last_is page 0 es (2 ^ 52) e c.requires.follow c.requires.within (sym c.in-Some.ensures) in
    meeting page es e next (beside page es e next i (sym c.in-Some-first_from.ensures)) c.if-left-page.false
    c.if-right-page.false (equal_rights e.1 next.1 (sym c.ne.ensures ∙ c.if-ne.false))
