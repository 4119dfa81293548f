use Rattle.std.proofs.Common.{◌≡◌, ◌*◌, ◌/◌, ◌∙◌, true, false, refl, sym, ap, subst, Some}
use Rattle.std.specs.List.{list_any}
use Rattle.machine_model.specs.declared.region.Region.{Region}
use Rattle.mapped_regions.specs.Regions.{is_at}
use Rattle.mapped_regions.specs.Mapped.{IsPageRange}
use Rattle.mapped_regions.specs.Shown.{paged_view}
use Rattle.mapped_regions.proofs.UserRegions.{heap_met, found_there, user_there, none_there}
use Rattle.mapped_regions.proofs.regions.MappedRegions.unmap.Goals as goal

pub returns-then-is_some-clause-refused : goal.returns-then-is_some-clause-refused
returns-then-is_some-clause-refused c =
    let range : IsPageRange c.args.start c.args.pages = c.if-not-is_page_range.ensures.range.0 refl in (
      range,
      heap_met (paged_view c.args.self.now) c.args.start (c.args.start / 4096) c.args.pages c.lowest_heap_met.result true
          range.0
          refl c.lowest_heap_met.ensures (sym c.is_some.ensures ∙ c.if-is_some.true),
    )

pub leave-requires : goal.leave-requires
leave-requires c = record {
  there = subst (λ n. list_any (is_at c.in-Some.region.start n) c.args.self.now.regions ≡ true) (sym c.if-region-pages.true)
      (found_there (4096 * (c.args.start / 4096)) c.in-Some.region.start c.args.pages c.args.self.now.regions
      c.in-Some.region (sym c.lowest_met.ensures.value ∙ c.in-Some.is) refl c.if-region-pages.true);
}

pub returns-in-Some-clause-can : goal.returns-in-Some-clause-can
returns-in-Some-clause-can c =
    let range : IsPageRange c.args.start c.args.pages = c.if-not-is_page_range.ensures.range.0 refl in
    record {
      range = range;
      there = user_there (paged_view c.args.self.now) c.args.start c.args.pages range.1.some
          (found_there (4096 * (c.args.start / 4096)) c.args.start c.args.pages c.args.self.now.regions c.in-Some.region
          (sym c.lowest_met.ensures.value ∙ c.in-Some.is) c.if-region-start.true c.if-region-pages.true)
          (heap_met (paged_view c.args.self.now) c.args.start (c.args.start / 4096) c.args.pages c.lowest_heap_met.result
          false
          range.0 refl c.lowest_heap_met.ensures (sym c.is_some.ensures ∙ c.if-is_some.false));
    }

pub returns-in_default-clause-refused : goal.returns-in_default-clause-refused
returns-in_default-clause-refused c =
    let range : IsPageRange c.args.start c.args.pages = c.if-not-is_page_range.ensures.range.0 refl in (
      range,
      heap_met (paged_view c.args.self.now) c.args.start (c.args.start / 4096) c.args.pages c.lowest_heap_met.result false
          range.0 refl c.lowest_heap_met.ensures (sym c.is_some.ensures ∙ c.if-is_some.false),
      none_there (paged_view c.args.self.now) c.args.start (c.args.start / 4096) c.args.pages c.lowest_met.result range.0
          refl
          range.1.some c.lowest_met.ensures.laid c.lowest_met.ensures.value
          (λ r is s n. (
          let both : Some r ≡ Some c.in-Some.region = sym is ∙ c.in-Some.is in
          let same : r ≡ c.in-Some.region = cc in
          c.if-region-pages.false (ap (λ (q : Region). q.pages) (sym same) ∙ n))),
    )

pub returns-in_default-2-clause-refused : goal.returns-in_default-2-clause-refused
returns-in_default-2-clause-refused c =
    let range : IsPageRange c.args.start c.args.pages = c.if-not-is_page_range.ensures.range.0 refl in (
      range,
      heap_met (paged_view c.args.self.now) c.args.start (c.args.start / 4096) c.args.pages c.lowest_heap_met.result false
          range.0 refl c.lowest_heap_met.ensures (sym c.is_some.ensures ∙ c.if-is_some.false),
      none_there (paged_view c.args.self.now) c.args.start (c.args.start / 4096) c.args.pages c.lowest_met.result range.0
          refl
          range.1.some c.lowest_met.ensures.laid c.lowest_met.ensures.value
          (λ r is s n. (
          let both : Some r ≡ Some c.in-Some.region = sym is ∙ c.in-Some.is in
          let same : r ≡ c.in-Some.region = cc in
          c.if-region-start.false (ap (λ (q : Region). q.start) (sym same) ∙ s))),
    )

pub returns-in_default-3-clause-refused : goal.returns-in_default-3-clause-refused
returns-in_default-3-clause-refused c =
    let range : IsPageRange c.args.start c.args.pages = c.if-not-is_page_range.ensures.range.0 refl in (
      range,
      heap_met (paged_view c.args.self.now) c.args.start (c.args.start / 4096) c.args.pages c.lowest_heap_met.result false
          range.0 refl c.lowest_heap_met.ensures (sym c.is_some.ensures ∙ c.if-is_some.false),
      none_there (paged_view c.args.self.now) c.args.start (c.args.start / 4096) c.args.pages c.lowest_met.result range.0
          refl
          range.1.some c.lowest_met.ensures.laid c.lowest_met.ensures.value
          (λ r is s n. (let both = sym is ∙ c.in_default.is in absurd (cc))),
    )
