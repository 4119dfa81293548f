use Rattle.std.proofs.Common.{◌≡◌, ℕ, ◌+◌, subst, arith}
use Rattle.heap_memory.specs.Runs.{without_run}
use Rattle.paged_systems.specs.System.{paged}
use Rattle.paged_systems.specs.Words.{grants_of}
use Rattle.paged_systems.proofs.paged_allocator.PagedSystemAllocator.free.Goals as goal

start_is : (at : ℕ) → at + 0 ≡ at
start_is at = omega arith

pub returns-clause-regions : goal.returns-clause-regions
returns-clause-regions c = λ taken.
    subst (λ (from : ℕ). grants_of (paged c.release.new.self) ≡ without_run from (c.args.at + c.args.size)
    (grants_of (paged c.args.self.now))) (start_is c.args.at) c.release.ensures.regions
