use Rattle.std.proofs.Common.{◌≡◌, ℕ, ◌+◌, ◌<◌, false}
use Rattle.tlb_cache.specs.Cache.{has_page}
use Rattle.tlb_cache.proofs.tlb.Tlb.may_have.Given as goal

abbrev pub invariant-loop-k : goal.invariant-loop-k
invariant-loop-k l = (k : ℕ) → k < l.k → has_page l.self.entries (l.run.first + k) ≡ false
