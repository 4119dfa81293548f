use Rattle.std.proofs.Common.{◌∙◌, ap, sym, length, arith}
use Rattle.std.specs.List.{list_any}
use Rattle.heap_memory.specs.Script.{taken_of, left_of}
use Rattle.heap_memory.specs.FlatScript.{gives}
use Rattle.heap_memory.specs.FlatWords.{is_held}
use Rattle.heap_memory.specs.RegionLaws.{ordered_with, whole_with}
use Rattle.heap_memory.proofs.FlatScriptLemmas.{regions_apart, some_with, promised_next, given_next, not_given_next, served, IsServed, granted_all, not_given}
use Rattle.heap_memory.proofs.flat_system.FlatSystemAllocator.alloc.Goals as goal
use Rattle.heap_memory.proofs.flat_system.FlatSystemAllocator.alloc.Goals.{In_ok-grant}

-- the answer is a grant, and the next step of the script gives it
served_here : (c : In_ok-grant) → IsServed (taken_of c.args.self.now.script) (left_of c.args.self.now.script) c.args.size c.in_ok-grant.grant
served_here c = served (taken_of c.args.self.now.script) (left_of c.args.self.now.script) c.args.size c.in_ok-grant.grant (sym c.answer-answer.ensures ∙ c.in_ok-grant.was)

pub returns-clause-apart : goal.returns-clause-apart
returns-clause-apart c =
    let s = served_here (goal.at.returns-clause-apart c).In_ok-grant in
    regions_apart c.in_ok-grant.grant c.args.self.now.regions.items (taken_of c.args.self.now.script) (omega (arith, s.long)) c.args.self.now.some s.clear c.args.self.now.given

pub returns-clause-zeros : goal.returns-clause-zeros
returns-clause-zeros c = λ at low high whole.
    let s = served_here (goal.at.returns-clause-zeros c).In_ok-grant in
    c.args.self.now.zero at whole (c.args.self.now.promised at (s.promised at low high)) (not_given c.in_ok-grant.grant (taken_of c.args.self.now.script) at s.clear low high)

pub invariant_of-self-2-clause-room : goal.invariant_of-self-2-clause-room
invariant_of-self-2-clause-room c =
    let s = served_here (goal.at.invariant_of-self-2-clause-room c).In_ok-grant in
    let left = ap length c.advance.ensures.left in
    omega (arith, s.step, left, c.add_region.ensures.len, c.add_region.ensures.capacity)

pub invariant_of-self-2-clause-promised : goal.invariant_of-self-2-clause-promised
invariant_of-self-2-clause-promised c = λ at promised.
    c.args.self.now.promised at (promised_next (taken_of c.args.self.now.script) (left_of c.args.self.now.script) (taken_of c.advance.new.self) (left_of c.advance.new.self) at c.advance.ensures.taken c.advance.ensures.left promised)

pub invariant_of-self-2-clause-held : goal.invariant_of-self-2-clause-held
invariant_of-self-2-clause-held c =
    let s = served_here (goal.at.invariant_of-self-2-clause-held c).In_ok-grant in
    rw c.add_region.ensures.items (granted_all (is_held c.args.self.now.words.stretches.items) c.in_ok-grant.grant c.args.self.now.regions.items c.args.self.now.held
    (λ at low high. c.args.self.now.promised at (s.promised at low high)))

pub invariant_of-self-2-clause-given : goal.invariant_of-self-2-clause-given
invariant_of-self-2-clause-given c =
    let s = served_here (goal.at.invariant_of-self-2-clause-given c).In_ok-grant in
    rw c.add_region.ensures.items (granted_all (λ at. list_any (λ step. gives at step) (taken_of c.advance.new.self)) c.in_ok-grant.grant c.args.self.now.regions.items
    (λ at granted. given_next (taken_of c.args.self.now.script) (left_of c.args.self.now.script) (taken_of c.advance.new.self) at c.advance.ensures.taken (c.args.self.now.given at granted))
    (λ at low high. rw c.advance.ensures.taken (s.gives at low high)))

pub invariant_of-self-2-clause-zero : goal.invariant_of-self-2-clause-zero
invariant_of-self-2-clause-zero c = λ at whole held none.
    c.args.self.now.zero at whole held (not_given_next (taken_of c.args.self.now.script) (left_of c.args.self.now.script) (taken_of c.advance.new.self) at c.advance.ensures.taken none)

pub invariant_of-self-2-clause-ordered : goal.invariant_of-self-2-clause-ordered
invariant_of-self-2-clause-ordered c =
    let s = served_here (goal.at.invariant_of-self-2-clause-ordered c).In_ok-grant in
    rw c.add_region.ensures.items (ordered_with c.in_ok-grant.grant c.args.self.now.regions.items (omega (arith, s.long))
    (regions_apart c.in_ok-grant.grant c.args.self.now.regions.items (taken_of c.args.self.now.script) (omega (arith, s.long)) c.args.self.now.some s.clear c.args.self.now.given) c.args.self.now.ordered)

pub invariant_of-self-2-clause-some : goal.invariant_of-self-2-clause-some
invariant_of-self-2-clause-some c =
    let s = served_here (goal.at.invariant_of-self-2-clause-some c).In_ok-grant in
    rw c.add_region.ensures.items (some_with c.in_ok-grant.grant c.args.self.now.regions.items (omega (arith, s.long)) c.args.self.now.some)

pub invariant_of-self-2-clause-whole : goal.invariant_of-self-2-clause-whole
invariant_of-self-2-clause-whole c =
    let s = served_here (goal.at.invariant_of-self-2-clause-whole c).In_ok-grant in
    rw c.add_region.ensures.items (whole_with c.in_ok-grant.grant c.args.self.now.regions.items (s.whole c.requires.some) c.args.self.now.whole)
