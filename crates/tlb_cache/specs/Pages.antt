-- Pages that a command covers, as the code has them.
use Rattle.std.specs.Prelude.{ℕ, Bool, true}
use Rattle.tlb_cache.specs.Covered.{is_among}
use Rattle.tlb_cache.specs.declared.covered.Pages.{Pages}
use Rattle.tlb_cache.specs.declared.covered.Pages.TheVariants.{All, Run}

abbrev pub is_covered : Pages → ℕ → Bool
is_covered All page = true
is_covered (Run run) page = is_among run.first run.pages page
