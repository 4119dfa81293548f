use Rattle.std.proofs.Common.{◌≡◌, take}
use Rattle.tlb_cache.specs.Cache.{left_by_all}
use Rattle.tlb_cache.proofs.cached_system.apply_each.Given as goal

abbrev pub invariant-loop-command : goal.invariant-loop-command
invariant-loop-command l = l.tlb ≡ record l.initial.tlb { entries = left_by_all (take l.command-index l.command-items) l.initial.tlb.entries }
