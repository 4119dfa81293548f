use Rattle.std.proofs.Common.{◌/◌, ◌∙◌, true, false, refl, sym}
use Rattle.mapped_regions.specs.Mapped.{IsPageRange}
use Rattle.mapped_regions.specs.Shown.{paged_view}
use Rattle.mapped_regions.proofs.UserRegions.{heap_met, any_met}
use Rattle.mapped_regions.proofs.regions.MappedRegions.map.Goals as goal

pub returns-then-is_some-clause-refused : goal.returns-then-is_some-clause-refused
returns-then-is_some-clause-refused c =
    let range : IsPageRange c.args.start c.args.pages = c.if-not-is_page_range.ensures.range.0 refl in (
      range,
      heap_met (paged_view c.args.self.now) c.args.start (c.args.start / 4096) c.args.pages c.lowest_heap_met.result true
          range.0
          refl c.lowest_heap_met.ensures (sym c.is_some.ensures ∙ c.if-is_some.true),
    )

pub returns-then-is_some-2-clause-refused : goal.returns-then-is_some-2-clause-refused
returns-then-is_some-2-clause-refused c =
    let range : IsPageRange c.args.start c.args.pages = c.if-not-is_page_range.ensures.range.0 refl in (
      range,
      heap_met (paged_view c.args.self.now) c.args.start (c.args.start / 4096) c.args.pages c.lowest_heap_met.result false
          range.0 refl c.lowest_heap_met.ensures (sym c.is_some.ensures ∙ c.if-is_some.false),
      any_met (paged_view c.args.self.now) c.args.start (c.args.start / 4096) c.args.pages c.lowest_met.result true range.0
          refl
          c.lowest_met.ensures.value (sym c.is_some-2.ensures ∙ c.if-is_some-2.true),
    )
