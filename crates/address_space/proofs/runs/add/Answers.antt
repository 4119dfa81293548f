use Rattle.std.proofs.Common.{◌≡◌, ◌∙◌, ◌^◌, ℕ, List, arith, ap}
use Rattle.std.specs.Ordering.{nat_cmp}
use Rattle.paging_core.specs.declared.page_table.Rights.{Rights}
use Rattle.meminterval.specs.declared.interval.Interval.{Interval}
use Rattle.meminterval.specs.Tree.{entries}
use Rattle.meminterval.specs.Entries.{with_entry}
use Rattle.meminterval.specs.Interval.{by_ends}
use Rattle.address_space.proofs.Splits.{follow_length}
use Rattle.address_space.proofs.Adding.{put, added}
use Rattle.address_space.proofs.runs.add.Goals as goal

put_in : (es new : List (Interval ℕ × Rights)) (i : Interval ℕ) (first end : ℕ) (rights : Rights) → i.start ≡ first →
    i.end ≡ end → new ≡ with_entry (by_ends nat_cmp) (i, rights) es →
    new ≡ with_entry (by_ends nat_cmp) (record { start = first; end = end }, rights) es
put_in es new i first end rights s e is =
    is ∙ (ap (λ (p : ℕ). with_entry (by_ends nat_cmp) (record { start = p; end = i.end }, rights) es) s
    ∙ ap (λ (p : ℕ). with_entry (by_ends nat_cmp) (record { start = first; end = p }, rights) es) e)

pub insert-requires-clause-room : goal.insert-requires-clause-room
insert-requires-clause-room c = let h = follow_length 0 (entries c.args.runs.now) (2 ^ 52) c.requires.span.follow in omega (arith, h)

pub join-requires-clause-follow : goal.join-requires-clause-follow
join-requires-clause-follow c =
    let p = put (entries c.args.runs.now) (entries c.insert.new.self) c.args.first c.args.end c.args.rights
    c.requires.span.follow c.requires.span.some c.requires.span.within c.requires.clear
    (put_in (entries c.args.runs.now) (entries c.insert.new.self) c.new.result c.args.first c.args.end c.args.rights
    c.new.ensures.start c.new.ensures.end c.in_ok-insert.ensures.ok) in
    p.follow

pub returns-clause-ok : goal.returns-clause-ok
returns-clause-ok c =
    let p = put (entries c.args.runs.now) (entries c.insert.new.self) c.args.first c.args.end c.args.rights
    c.requires.span.follow c.requires.span.some c.requires.span.within c.requires.clear
    (put_in (entries c.args.runs.now) (entries c.insert.new.self) c.new.result c.args.first c.args.end c.args.rights
    c.new.ensures.start c.new.ensures.end c.in_ok-insert.ensures.ok) in
    added (entries c.args.runs.now) (entries c.insert.new.self) (entries c.join.new.runs) (entries c.join-2.new.runs)
    c.args.first c.args.end c.args.rights c.requires.span.follow c.requires.span.longest c.requires.clear p c.join.ensures
    c.join-2.ensures
