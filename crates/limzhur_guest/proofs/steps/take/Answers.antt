use Rattle.std.proofs.Common.{◌≡◌, ℕ, ◌+◌, ◌/◌, ◌∙◌, List, sym, ap}
use Rattle.guest_walk.specs.GuestWalk.{AtPage, from_next, finding_of, ending_of}
use Rattle.limzhur_guest.specs.Words.{mode_of}
use Rattle.limzhur_guest.specs.Walks.{onward_from}
use Rattle.limzhur_guest.proofs.Onward.{taken, goes_on}
use Rattle.limzhur_guest.proofs.steps.take.Goals as goal
use Rattle.limzhur_guest.proofs.steps.take.Goals.{After-past_entry}

-- the walk goes on as the step says
stepped : (c : goal.After-past_entry) (words : List ℕ) → onward_from words c.args.walk.now c.args.entry
    ≡ from_next c.mode_of.result c.args.walk.now.width words c.page_of-page.result c.args.walk.now.step c.past_entry.result
stepped c words =
    taken words c.args.walk.now c.args.entry c.mode_of.result c.page_of-page.result (finding_of c.so_far-from.result) c.mode_of.ensures c.page_of-page.ensures c.so_far-from.ensures
    ∙ c.past_entry.ensures.walk words

pub returns-in-Table-clause-onward : goal.returns-in-Table-clause-onward
returns-in-Table-clause-onward c words =
    stepped (goal.at.returns-in-Table-clause-onward c).After-past_entry words
    ∙ (ap (from_next c.mode_of.result c.args.walk.now.width words c.page_of-page.result c.args.walk.now.step) c.in-Table.is
    ∙ goes_on words c.put.new.walk c.mode_of.result c.args.walk.now.width c.page_of-page.result (c.args.walk.now.step + 1) (finding_of c.in-Table.to)
    (c.mode_of.ensures ∙ ap mode_of (sym c.put.ensures.same.1.0))
    (sym c.put.ensures.same.1.1)
    (c.page_of-page.ensures ∙ ap (λ address. address / 4096) (sym c.put.ensures.same.0))
    (sym c.put.ensures.step)
    (sym c.put.ensures.found)
    (c.put.ensures.told ∙ c.requires.goes_on))

pub returns-in-End-Page-clause-onward : goal.returns-in-End-Page-clause-onward
returns-in-End-Page-clause-onward c words =
    stepped (goal.at.returns-in-End-Page-clause-onward c).After-past_entry words
    ∙ (ap (from_next c.mode_of.result c.args.walk.now.width words c.page_of-page.result c.args.walk.now.step) c.in-End-Page.is
    ∙ (ap ending_of c.in-End-Page.field-0-is
    ∙ (ap (λ step. AtPage step (finding_of c.in-End-Page.found)) (sym c.put-in-End-Page.ensures.step)
    ∙ ap (AtPage c.put-in-End-Page.new.walk.step) (sym c.put-in-End-Page.ensures.found))))

pub returns-in-End-NotPresent-clause-onward : goal.returns-in-End-NotPresent-clause-onward
returns-in-End-NotPresent-clause-onward c words =
    stepped (goal.at.returns-in-End-NotPresent-clause-onward c).After-past_entry words
    ∙ (ap (from_next c.mode_of.result c.args.walk.now.width words c.page_of-page.result c.args.walk.now.step) c.in-End-NotPresent.is
    ∙ ap ending_of c.in-End-NotPresent.field-0-is)

pub returns-in-End-Reserved-clause-onward : goal.returns-in-End-Reserved-clause-onward
returns-in-End-Reserved-clause-onward c words =
    stepped (goal.at.returns-in-End-Reserved-clause-onward c).After-past_entry words
    ∙ (ap (from_next c.mode_of.result c.args.walk.now.width words c.page_of-page.result c.args.walk.now.step) c.in-End-Reserved.is
    ∙ ap ending_of c.in-End-Reserved.field-0-is)
