use Rattle.std.proofs.Common.{inl, inr, refl, sym, ◌∙◌}
use Rattle.heap_cache.proofs.cached.CachedHeap.ask_again.Goals as goal

pub returns : goal.returns
returns g c = inr (sym c.is_of_request.ensures ∙ c.if-is_of_request.false, c.ask_emptied.ensures)
