use Rattle.std.proofs.Common.{◌≡◌, ◌+◌, ◌*◌, ◌∙◌, ap, None, arith}
use Rattle.paging_core.specs.Large.{slot_of, missing_above}
use Rattle.paging_core.specs.Missing.{missing_of}
use Rattle.paging_core.specs.Walk.{reach}
use Rattle.kernel_tables.specs.TableState.{TableState}
use Rattle.kernel_tables.proofs.LargePages.{slot_missing}
use Rattle.kernel_tables.proofs.tables.Tables.missing_above.Goals as goal

pub returns : goal.returns
returns c =
    let none : reach c.self.inside.memory.words c.self.inside.root 3 (slot_of c.args.page) ≡ None =
    ap (λ (s : TableState). reach s.words s.root 3 (slot_of c.args.page)) c.self.view_is ∙ c.requires in
    let n : c.number.result ≡ 512 * c.args.page = omega (arith, c.number.ensures.value, c.containing_address-first.ensures, c.start_address.ensures) in
    let m : c.missing_tables.result ≡ missing_above c.self.inside.memory.words c.self.inside.root c.args.page + 1 =
    c.missing_tables.ensures.count ∙ (ap (λ p. missing_of c.self.inside.memory.words c.self.inside.root p 1) n
    ∙ slot_missing c.self.inside.memory.words c.self.inside.root c.args.page none) in
    let v : missing_above c.self.inside.memory.words c.self.inside.root c.args.page ≡ missing_above c.args.self.now.words c.args.self.now.root c.args.page =
    ap (λ (s : TableState). missing_above s.words s.root c.args.page) c.self.view_is in
    omega (arith, m, v, c.saturating_sub.ensures)
