use Rattle.std.proofs.Common.{rules, ◌≡◌, ◌∙◌, ◌+◌, ◌-◌, ◌*◌, List, ℕ, replicate, ap, arith}
use Rattle.paging_core.specs.Area.{with_zeros_around, AreaWords}
use Rattle.paging_core.specs.Memory.{cleared}
use Rattle.paging_core.proofs.Padded.{padded_zeros}
use Rattle.paging_core.proofs.Words.{zeros_put}
use Rattle.paging_core.proofs.Areas.{in_part}
use Rattle.paging_core.proofs.table_area.TableAreaPhysicalMemory.clear_frame.Goals as goal

pub returns-clause-words : goal.returns-clause-words
returns-clause-words c =
    let w : with_zeros_around c.self.inside.words.now c.self.inside.first c.self.inside.limit ≡ c.args.self.now.words =
    ap (λ (a : AreaWords). a.words) c.self.view_is in
    let p = in_part c.args.self.now.area c.self.inside.first c.self.inside.end c.args.frame (ap (λ (a : AreaWords). a.area) c.self.view_is) c.requires.inside in
    let z : c.copy_from_slice.new.self ≡ replicate 512 0 = search rules in
    let n : 512 * (c.number.result - c.self.inside.first) + 512 - 512 * (c.number.result - c.self.inside.first) ≡ 512 = omega arith in
    rw n (ap (λ (ws : List ℕ). with_zeros_around ws c.self.inside.first c.self.inside.limit)
    (zeros_put c.self.inside.words.now c.copy_from_slice.new.self (512 * (c.number.result - c.self.inside.first)) 512 z)
    ∙ (padded_zeros c.self.inside.words.now c.self.inside.first c.self.inside.limit (512 * (c.number.result - c.self.inside.first)) (512 * c.args.frame) 512
    (omega (arith, p.0, c.number.ensures.value)) (omega (arith, p.0, p.1, c.number.ensures.value, c.self.invariant.0))
    ∙ ap (λ (ws : List ℕ). cleared ws c.args.frame) w))
