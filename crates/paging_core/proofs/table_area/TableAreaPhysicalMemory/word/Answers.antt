use Rattle.std.proofs.Common.{◌≡◌, ◌∙◌, ◌+◌, ◌-◌, ◌*◌, List, ℕ, sym, ap, arith}
use Rattle.paging_core.specs.Area.{with_zeros_around, AreaWords}
use Rattle.paging_core.specs.Memory.{word_at}
use Rattle.paging_core.proofs.Padded.{padded_inside, padded_below, padded_past}
use Rattle.paging_core.proofs.table_area.TableAreaPhysicalMemory.word.Goals.{then-number-self-via-then-number-self, then-number-self-via-else-number-self+then-number-self-2}
use Rattle.paging_core.proofs.table_area.TableAreaPhysicalMemory.word.Goals as goal

pub returns-then-number-self-clause-word : goal.returns-then-number-self-clause-word
returns-then-number-self-clause-word c =
    let w : with_zeros_around c.self.inside.words.now c.self.inside.first c.self.inside.limit ≡ c.args.self.now.words =
    ap (λ (a : AreaWords). a.words) c.self.view_is in
    let z : word_at (with_zeros_around c.self.inside.words.now c.self.inside.first c.self.inside.limit) c.args.frame
    c.args.index ≡ 0 =
    elim c.then-number-self.branch [
      | then-number-self-via-then-number-self w ↦ padded_below c.self.inside.words.now c.self.inside.first
          c.self.inside.limit (512 * c.args.frame + c.args.index)
          (omega (arith, w.if-number-self.true, c.number-number.ensures.value, c.requires.index))
      | then-number-self-via-else-number-self+then-number-self-2 w ↦ padded_past c.self.inside.words.now c.self.inside.first
          c.self.inside.limit (512 * c.args.frame + c.args.index)
          (omega (arith, w.if-number-self-2.true, c.number-number.ensures.value, c.self.invariant.0))
    ] in
    sym z ∙ ap (λ (ws : List ℕ). word_at ws c.args.frame c.args.index) w

pub returns-clause-word : goal.returns-clause-word
returns-clause-word c =
    let w : with_zeros_around c.self.inside.words.now c.self.inside.first c.self.inside.limit ≡ c.args.self.now.words =
    ap (λ (a : AreaWords). a.words) c.self.view_is in
    sym (padded_inside c.self.inside.words.now c.self.inside.first c.self.inside.limit (512 * c.args.frame + c.args.index)
    (512 * (c.number-number.result - c.self.inside.first) + c.args.index)
    (omega (arith, c.if-number-self.false, c.number-number.ensures.value))
    (omega (arith, c.if-number-self.false, c.if-number-self-2.false, c.self.invariant.0, c.requires.index)))
    ∙ ap (λ (ws : List ℕ). word_at ws c.args.frame c.args.index) w
