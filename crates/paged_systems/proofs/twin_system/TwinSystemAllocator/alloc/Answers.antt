use Rattle.std.proofs.lemmas.Result.{IfOk-weaker}
use Rattle.paged_systems.specs.TwinSystem.{paged_of}
use Rattle.paged_systems.proofs.Allocated.{granted, words_stay, denied}
use Rattle.paged_systems.proofs.twin_system.TwinSystemAllocator.alloc.Goals as goal

pub returns-clause-granted : goal.returns-clause-granted
returns-clause-granted c = IfOk-weaker c.grant_bytes.result _ _
    (λ grant is. granted (paged_of c.args.self.now) (paged_of c.grant_bytes.new.self) c.args.size grant c.args.self.now.mapped.kept is) c.grant_bytes.ensures.ok

pub returns-clause-words : goal.returns-clause-words
returns-clause-words c = words_stay (paged_of c.args.self.now) (paged_of c.grant_bytes.new.self) c.args.size c.grant_bytes.result
    c.args.self.now.mapped.kept c.grant_bytes.ensures.ok c.grant_bytes.ensures.err

pub returns-clause-refused : goal.returns-clause-refused
returns-clause-refused c = denied (paged_of c.args.self.now) (paged_of c.grant_bytes.new.self) c.args.size
    c.grant_bytes.result c.grant_bytes.ensures.err c.grant_bytes.ensures.lacks
