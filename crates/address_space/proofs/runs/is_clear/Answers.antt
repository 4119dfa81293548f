use Rattle.std.proofs.Common.{◌^◌, refl, sym, arith}
use Rattle.std.proofs.lemmas.Bool.Decides.{nat_tests}
use Rattle.meminterval.specs.Entry.{pair_of}
use Rattle.meminterval.specs.Tree.{entries}
use Rattle.address_space.proofs.Splits.{last_is, none_last}
use Rattle.address_space.proofs.Clear.{split_clear, split_last, split_none, clear_last}
use Rattle.address_space.proofs.runs.is_clear.Goals as goal

pub returns-in-Some : goal.returns-in-Some
returns-in-Some c =
    let es = entries c.args.runs.now in
    let e = pair_of c.in-Some.entry in
    let i = last_is c.args.end 0 es (2 ^ 52) e c.requires.follow c.requires.within (sym c.in-Some.ensures) in (
      (λ t. split_clear c.args.first c.args.end es (2 ^ 52) (split_last c.args.first c.args.end es (2 ^ 52) e i (grind (arith, nat_tests, t)))),
      (λ clear. (let h = clear_last c.args.first c.args.end es (2 ^ 52) e c.requires.some i clear in grind (arith, nat_tests, h))),
    )

pub returns-in-None : goal.returns-in-None
returns-in-None c =
    let es = entries c.args.runs.now in (
      (λ t. split_clear c.args.first c.args.end es (2 ^ 52) (split_none c.args.first c.args.end es (2 ^ 52)
          (none_last c.args.end 0 es (2 ^ 52) c.requires.follow c.requires.within (sym c.in-None.ensures)))),
      (λ clear. refl),
    )
