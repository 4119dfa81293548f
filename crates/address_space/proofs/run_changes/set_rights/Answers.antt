use Rattle.std.proofs.Common.{◌≡◌, ℕ, List, ap, subst}
use Rattle.meminterval.specs.Tree.{entries}
use Rattle.meminterval.specs.declared.interval.Interval.{Interval}
use Rattle.paging_core.specs.declared.page_table.Rights.{Rights}
use Rattle.address_space.specs.Joining.{AreRunsJoined}
use Rattle.address_space.proofs.OneRun.{run_follow, run_apart, start_apart}
use Rattle.address_space.proofs.Setting.{set_added, rejoined}
use Rattle.address_space.proofs.run_changes.set_rights.Goals as goal

pub spread-requires-clause-order : goal.spread-requires-clause-order
spread-requires-clause-order c =
    run_apart (entries c.set_from.new.runs) c.args.first c.in-Ok.stop c.args.rights c.args.end c.in-Ok.ensures.ok.set.run
    (c.in-Ok.ensures.ok.keeps.apart c.args.end c.in_ok-part.ensures.ok.apart) c.requires.span.some

pub spread-requires-clause-begins : goal.spread-requires-clause-begins
spread-requires-clause-begins c = start_apart (entries c.set_from.new.runs) c.args.first c.in-Ok.stop c.args.rights c.in-Ok.ensures.ok.set.run

pub join-requires-clause-follow : goal.join-requires-clause-follow
join-requires-clause-follow c = run_follow (entries c.spread.new.runs) c.args.first c.args.end c.args.rights c.spread.ensures.run

pub returns-in-Ok-clause-ok : goal.returns-in-Ok-clause-ok
returns-in-Ok-clause-ok c =
    let order = run_apart (entries c.set_from.new.runs) c.args.first c.in-Ok.stop c.args.rights c.args.end
    c.in-Ok.ensures.ok.set.run (c.in-Ok.ensures.ok.keeps.apart c.args.end c.in_ok-part.ensures.ok.apart) c.requires.span.some in
    set_added (entries c.args.runs.now) (entries c.part.new.runs) (entries c.set_from.new.runs) (entries c.spread.new.runs)
    (entries c.join.new.runs) (entries c.join-in-Ok.new.runs) c.args.first c.in-Ok.stop c.args.end c.args.rights
    c.requires.span.longest c.requires.span.some order c.in_ok-part.ensures.ok c.in-Ok.ensures.ok.set c.spread.ensures c.join.ensures c.join-in-Ok.ensures

pub returns-in-Err-clause-err : goal.returns-in-Err-clause-err
returns-in-Err-clause-err c =
    let same : entries c.set_from.new.runs ≡ entries c.part.new.runs = ap entries c.in-Err.ensures.err in
    rejoined (entries c.args.runs.now) (entries c.part.new.runs) (entries c.join-in-Err.new.runs) c.args.end
    c.requires.span.follow c.requires.span.longest c.in_ok-part.ensures.ok
    (subst (λ (es : List (Interval ℕ × Rights)). AreRunsJoined es (entries c.join-in-Err.new.runs) c.args.end) same c.join-in-Err.ensures)
