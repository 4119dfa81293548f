use Rattle.std.proofs.Common.{◌≡◌, ◌∙◌, sym, ap, arith}
use Rattle.paging_core.specs.Area.{with_zeros_around, AreaWords}
use Rattle.paging_core.specs.Memory.{frame_count}
use Rattle.paging_core.proofs.Padded.{count_padded}
use Rattle.paging_core.proofs.table_area.TableAreaPhysicalMemory.limit.Goals as goal

pub returns-clause-count : goal.returns-clause-count
returns-clause-count c =
    let w : with_zeros_around c.self.inside.words.now c.self.inside.first c.self.inside.limit ≡ c.args.self.now.words =
    ap (λ (a : AreaWords). a.words) c.self.view_is in
    sym (count_padded c.self.inside.words.now c.self.inside.first c.self.inside.limit (omega (arith, c.self.invariant.0, c.self.invariant.1)))
    ∙ ap frame_count w
