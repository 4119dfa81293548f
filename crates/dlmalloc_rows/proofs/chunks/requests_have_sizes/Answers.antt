use Rattle.std.proofs.Common.{refl}
use Rattle.dlmalloc_rows.proofs.chunks.requests_have_sizes.Goals as goal

pub max_request-requires-clause-power : goal.max_request-requires-clause-power
max_request-requires-clause-power g c = (4, refl)

pub max_request-requires-2-clause-power : goal.max_request-requires-2-clause-power
max_request-requires-2-clause-power g c = (5, refl)

pub max_request-requires-3-clause-power : goal.max_request-requires-3-clause-power
max_request-requires-3-clause-power g c = (12, refl)

pub max_request-requires-4-clause-power : goal.max_request-requires-4-clause-power
max_request-requires-4-clause-power g c = (16, refl)

pub max_request-requires-5-clause-power : goal.max_request-requires-5-clause-power
max_request-requires-5-clause-power g c = (63, refl)
