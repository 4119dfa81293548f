use Rattle.paging_core.proofs.PageOrder.{position-counts}
use Rattle.paging_core.proofs.laws.places_count_pages.Goals as goal

pub returns : goal.returns
returns c = λ size number some divides canonical. position-counts size some divides number canonical
