use Rattle.meminterval.specs.Tree.{entries}
use Rattle.address_space.proofs.RunChanges.{taken}
use Rattle.address_space.proofs.run_changes.take.Goals as goal

pub returns-clause-ok : goal.returns-clause-ok
returns-clause-ok c =
    taken (entries c.args.runs.now) (entries c.part.new.runs) (entries c.take_out.new.runs) c.args.first c.args.end
    c.requires.longest c.in_ok-part.ensures.ok c.take_out.ensures c.requires.some
