use Rattle.std.proofs.Common.{◌^◌, ◌∷◌, arith}
use Rattle.meminterval.specs.Tree.{entries}
use Rattle.address_space.proofs.Splits.{follow_length}
use Rattle.address_space.proofs.OneRun.{run_follow, run_within, own_run, inserted_longer, deleted, shortened, IsAmong, run_of}
use Rattle.address_space.proofs.Cutting.{run_set}
use Rattle.address_space.proofs.run_changes.set_run.Goals as goal

pub insert-requires-clause-room : goal.insert-requires-clause-room
insert-requires-clause-room c =
    let es = entries c.args.runs.now in
    let run = c.args.run in
    let h = follow_length 0 es (2 ^ 52) (run_follow es run.start run.end run.rights c.requires.run) in omega (arith, h)

pub shorten-requires-clause-alone : goal.shorten-requires-clause-alone
shorten-requires-clause-alone c =
    let es = entries c.args.runs.now in
    let one = entries c.insert.new.self in
    let two = entries c.delete.new.self in
    let run = c.args.run in
    let h = c.requires.run in
    let w = run_within es run.start run.end run.rights h in
    let is = inserted_longer es one run.start run.end (2 ^ 53) run.rights c.args.rights c.new.result h (omega (arith, w))
    c.new.ensures.start c.new.ensures.end c.in_ok-insert.ensures.ok in
    let then = deleted one two h.front (run_of run.start (2 ^ 53) c.args.rights ∷ h.back) run.start run.end run.rights
    c.new-2.result is h.before c.new-2.ensures.start c.new-2.ensures.end c.delete.ensures in
    own_run two run.start (2 ^ 53) run.end c.args.rights c.new-3.result
    (record { front = h.front; back = h.back; whole = then; before = h.before; some = h.some; behind = h.behind })
    c.new-3.ensures.start c.new-3.ensures.end

pub returns-clause-ok : goal.returns-clause-ok
returns-clause-ok c =
    let es = entries c.args.runs.now in
    let one = entries c.insert.new.self in
    let two = entries c.delete.new.self in
    let new = entries c.shorten.new.self in
    let run = c.args.run in
    let h = c.requires.run in
    let w = run_within es run.start run.end run.rights h in
    let is = inserted_longer es one run.start run.end (2 ^ 53) run.rights c.args.rights c.new.result h (omega (arith, w))
    c.new.ensures.start c.new.ensures.end c.in_ok-insert.ensures.ok in
    let then = deleted one two h.front (run_of run.start (2 ^ 53) c.args.rights ∷ h.back) run.start run.end run.rights
    c.new-2.result is h.before c.new-2.ensures.start c.new-2.ensures.end c.delete.ensures in
    let among : IsAmong two run.start (2 ^ 53) run.end c.args.rights =
    record { front = h.front; back = h.back; whole = then; before = h.before; some = h.some; behind = h.behind } in
    run_set es new run.start run.end run.rights c.args.rights h (shortened two new run.start (2 ^ 53) run.end run.end
    c.args.rights c.new-3.result among c.new-3.ensures.start c.new-3.ensures.end c.shorten.ensures.pairs)
