use Rattle.std.proofs.Common.{◌≡◌, ◌≤◌, ap, sym, ◌∙◌, arith}
use Rattle.paging_core.specs.Steps.{position}
use Rattle.x86_instructions.proofs.Turns.{length-turn_commands}
use Rattle.x86_instructions.proofs.tlb.invlpgb.InvlpgbFlushBuilder.turn_count.Goals as goal

pub returns : goal.returns
returns g c =
    let size = g.S.PageSize.SIZE in
    let count_max : c.invlpgb_count_max.result ≡ c.args.self.now.limits.count_max =
    c.invlpgb_count_max.ensures ∙ ap (λ flush. flush.limits.count_max) c.self.view_is in
    let fits : c.args.self.now.limits.count_max ≤ 65535 = omega (arith, count_max, c.invlpgb_count_max.type_inv) in
    rw (
      c.div_ceil.ensures,
      c.div_ceil-2.ensures,
      c.min-low.ensures,
      c.len.ensures,
      c.len-2.ensures,
      c.pages_before_gap.ensures,
      c.from-step.ensures,
      c.max.ensures,
      count_max,
    )
    (sym (length-turn_commands size c.args.self.now fits (position size c.args.pages.now.start) (position size c.args.pages.now.end)))
