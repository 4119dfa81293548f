use Rattle.std.proofs.Common.{◌≡◌, ◌+◌, ◌/◌, refl, sym, ap, arith}
use Rattle.paging_core.specs.Large.{slot_of}
use Rattle.kernel_tables.specs.TableState.{TableState, leads}
use Rattle.kernel_tables.proofs.RangeTests.{in_large_page}
use Rattle.kernel_tables.proofs.RangeChanged.{large_there}
use Rattle.kernel_tables.proofs.tables.Tables.pages_of_entry.Goals as goal

pub returns-in-Large-clause-mapped : goal.returns-in-Large-clause-mapped
returns-in-Large-clause-mapped c = λ k lt.
    let n = c.number.ensures.value in
    let large = large_there c.self.inside.memory.words c.self.inside.root c.args.page (rw c.in-Large.ensures.end.1 refl) c.in-Large.ensures.end.0 in
    let same : slot_of (c.args.page / 512) ≡ slot_of ((c.args.page + k) / 512) = omega arith in
    rw (sym (ap (λ (s : TableState). leads s (c.args.page + k)) c.self.view_is))
    (in_large_page c.self.inside.memory.words c.self.inside.root (c.args.page + k) (rw same at large))
