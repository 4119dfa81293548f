use Rattle.std.proofs.Common.{◌^◌, sym, arith}
use Rattle.meminterval.specs.Entry.{pair_of}
use Rattle.meminterval.specs.Tree.{entries}
use Rattle.address_space.proofs.Splits.{last_is, none_last}
use Rattle.address_space.proofs.Changes.{none_below}
use Rattle.address_space.proofs.Clear.{split_clear, split_last}
use Rattle.address_space.proofs.OneRun.{apart_below, split_apart}
use Rattle.address_space.proofs.runs.run_below.Goals as goal

pub returns-in_default : goal.returns-in_default
returns-in_default c =
    let es = entries c.args.runs.now in
    let none = none_last c.args.page 0 es (2 ^ 52) c.requires.follow c.requires.within (sym c.in_default.ensures) in
    record { none = λ any from below. none_below c.args.page es (2 ^ 52) any none below; alone = apart_below c.args.page es (2 ^ 52) c.args.page none (omega arith) }

pub returns : goal.returns
returns c =
    let es = entries c.args.runs.now in
    let e = pair_of c.in-Some.entry in
    let i = last_is c.args.page 0 es (2 ^ 52) e c.requires.follow c.requires.within (sym c.in-Some.ensures) in
    record {
      run = record { front = i.front; back = i.back; whole = i.whole; before = i.before; some = i.some; behind = i.next };
      starts = i.starts;
      last = split_clear e.0.end c.args.page es (2 ^ 52) (split_last e.0.end c.args.page es (2 ^ 52) e i (omega arith));
      apart = λ order. split_apart e.0.end c.args.page es (2 ^ 52) order (split_last e.0.end c.args.page es (2 ^ 52) e i (omega arith));
    }
