use Rattle.std.proofs.lemmas.Result.{IfOk-weaker, IfErr-weaker}
use Rattle.paged_systems.specs.System.{paged}
use Rattle.paged_systems.proofs.Allocated.{good, apart, regions, zeros, words_stay, denied}
use Rattle.paged_systems.proofs.paged_allocator.PagedSystemAllocator.alloc.Goals as goal

pub returns-clause-good : goal.returns-clause-good
returns-clause-good c = IfOk-weaker c.grant_bytes.result _ _ (λ grant is.
    good (paged c.args.self.now) (paged c.grant_bytes.new.self) c.args.size grant c.args.self.now.kept is)
    c.grant_bytes.ensures.ok

pub returns-clause-apart : goal.returns-clause-apart
returns-clause-apart c = IfOk-weaker c.grant_bytes.result _ _ (λ grant is.
    apart (paged c.args.self.now) (paged c.grant_bytes.new.self) c.args.size grant c.args.self.now.kept is)
    c.grant_bytes.ensures.ok

pub returns-clause-regions : goal.returns-clause-regions
returns-clause-regions c = IfOk-weaker c.grant_bytes.result _ _ (λ grant is.
    regions (paged c.args.self.now) (paged c.grant_bytes.new.self) c.args.size grant c.args.self.now.kept is)
    c.grant_bytes.ensures.ok

pub returns-clause-zeros : goal.returns-clause-zeros
returns-clause-zeros c = IfOk-weaker c.grant_bytes.result _ _ (λ grant is.
    zeros (paged c.args.self.now) (paged c.grant_bytes.new.self) c.args.size grant c.args.self.now.kept is)
    c.grant_bytes.ensures.ok

pub returns-clause-words : goal.returns-clause-words
returns-clause-words c = words_stay (paged c.args.self.now) (paged c.grant_bytes.new.self) c.args.size c.grant_bytes.result
    c.args.self.now.kept c.grant_bytes.ensures.ok c.grant_bytes.ensures.err

pub returns-clause-err_follows : goal.returns-clause-err_follows
returns-clause-err_follows c = IfErr-weaker c.grant_bytes.result _ _ (λ fault is. is.follows)
    (denied (paged c.args.self.now) (paged c.grant_bytes.new.self) c.args.size c.grant_bytes.result c.grant_bytes.ensures.err c.grant_bytes.ensures.lacks)
