use Rattle.std.proofs.Common.{◌-◌, refl}
use Rattle.paging_core.specs.Steps.{half_pages, position}
use Rattle.x86_instructions.proofs.Places.{position-high_half}
use Rattle.x86_instructions.proofs.tlb.invlpgb.pages_before_gap.Goals as goal

pub returns : goal.returns
returns g c =
    let size = g.S.PageSize in
    rw (
      c.len.ensures,
      c.range.ensures.start,
      c.range.ensures.end,
      c.containing_address-high_half.ensures,
      c.new.ensures,
      position-high_half size.SIZE size.is_some size.divides_half,
    )
    (refl {a = half_pages g.S.PageSize.SIZE - position g.S.PageSize.SIZE c.args.page})
