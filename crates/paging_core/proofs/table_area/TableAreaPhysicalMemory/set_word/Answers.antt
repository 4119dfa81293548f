use Rattle.std.proofs.Common.{◌≡◌, ◌∙◌, ◌+◌, ◌-◌, ◌*◌, List, ℕ, set, ap, arith}
use Rattle.paging_core.specs.Area.{with_zeros_around, AreaWords}
use Rattle.paging_core.proofs.Padded.{padded_set}
use Rattle.paging_core.proofs.Areas.{in_part}
use Rattle.paging_core.proofs.table_area.TableAreaPhysicalMemory.set_word.Goals as goal

pub returns-clause-words : goal.returns-clause-words
returns-clause-words c =
    let w : with_zeros_around c.self.inside.words.now c.self.inside.first c.self.inside.limit ≡ c.args.self.now.words =
    ap (λ (a : AreaWords). a.words) c.self.view_is in
    let p = in_part c.args.self.now.area c.self.inside.first c.self.inside.end c.args.frame (ap (λ (a : AreaWords). a.area) c.self.view_is) c.requires.entry.inside in
    padded_set c.self.inside.words.now c.self.inside.first c.self.inside.limit (512 * (c.number.result - c.self.inside.first) + c.args.index)
    (512 * c.args.frame + c.args.index) c.args.value
    (omega (arith, p.0, c.number.ensures.value)) (omega (arith, p.0, p.1, c.number.ensures.value, c.self.invariant.0, c.requires.entry.bounded))
    ∙ ap (λ (ws : List ℕ). set ws (512 * c.args.frame + c.args.index) c.args.value) w
