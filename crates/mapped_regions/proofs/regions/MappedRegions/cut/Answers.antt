use Rattle.std.proofs.Common.{rules, ◌≡◌, ℕ, ◌+◌, ◌-◌, ◌*◌, ◌/◌, ◌%◌, ◌^◌, ap, ◌∙◌, subst, sym, arith, IsSome}
use Rattle.std.specs.List.{AllByRecursion}
use Rattle.paging_core.specs.Address.{IsCanonicalRange}
use Rattle.paging_core.specs.Walk.{walk_of}
use Rattle.page_ranges.specs.RangeUnmapping.{NoLargePageReachesOver, cut_tables}
use Rattle.machine_model.specs.State.{total_pages}
use Rattle.machine_model.specs.Slots.{is_whole_in}
use Rattle.machine_model.specs.Machine.{Paged}
use Rattle.mapped_regions.specs.Regions.{AreTakenOut, IsRegionBoundary, cut_regions}
use Rattle.mapped_regions.specs.Mapped.{IsRegion, AreGone}
use Rattle.mapped_regions.specs.Shown.{paged_view}
use Rattle.mapped_regions.proofs.MetSlots.{cut_stay}
use Rattle.mapped_regions.proofs.Ends.{none_over, no_cut, whole_cut}
use Rattle.mapped_regions.proofs.FrameUse.{frames_free}
use Rattle.mapped_regions.proofs.Mapped.{held_mapped, pages_gone, fewer_mapped, range_canonical, range_ends}
use Rattle.mapped_regions.proofs.CutPages.{cut_count, regions_cut}
use Rattle.mapped_regions.proofs.regions.MappedRegions.cut.Goals as goal
use Rattle.mapped_regions.proofs.regions.MappedRegions.cut.Goals.{After-forget_pages}

pub cut-requires : goal.cut-requires
cut-requires c = record { within = range_ends c.args.start c.args.pages c.requires.range }

pub new-requires : goal.new-requires
new-requires c = range_canonical c.args.start c.args.pages c.requires.range

pub unmap_pages-requires-clause-unmappable : goal.unmap_pages-requires-clause-unmappable
unmap_pages-requires-clause-unmappable c = record {
  rooted = search rules;
  range = let first : c.containing_address.result ≡ c.args.start / 4096 = c.containing_address.ensures ∙ ap (λ a. a / 4096) c.new.ensures in
      subst (λ f. IsCanonicalRange f c.args.pages) (sym first) c.requires.range.1;
  mapped = λ k less.
      let first : c.containing_address.result ≡ c.args.start / 4096 = c.containing_address.ensures ∙ ap (λ a. a / 4096) c.new.ensures in
      subst (λ f. IsSome (walk_of c.args.self.now.frames c.args.self.now.root (f + k))) (sym first)
      (held_mapped (paged_view c.args.self.now) c.args.start c.args.pages k c.args.self.now.mapped c.requires.range c.requires.held less);
  ends = let first : c.containing_address.result ≡ c.args.start / 4096 = c.containing_address.ensures ∙ ap (λ a. a / 4096) c.new.ensures in
      subst (λ f. NoLargePageReachesOver c.args.self.now.frames c.args.self.now.root f c.args.pages) (sym first)
      (none_over (paged_view c.args.self.now) c.args.start c.args.pages c.args.self.now.mapped c.requires.range
      c.requires.ends);
}

-- what is seen after the pages left
abbrev after : After-forget_pages → Paged
after c = record (paged_view c.args.self.now) {
  words = c.unmap_pages.new.frames;
  free = c.unmap_pages.new.pool;
  tables = c.args.self.now.tables + (c.free_count-free.result + c.args.pages - c.free_count.result);
  regions = c.cut.new.self;
}

-- the pages, as addresses
page_is : (start : ℕ) → start % 4096 ≡ 0 → 4096 * (start / 4096) ≡ start
page_is start whole = omega arith

end_is : (start pages : ℕ) → start % 4096 ≡ 0 → 4096 * (start / 4096 + pages) ≡ start + 4096 * pages
end_is start pages whole = omega arith

gone : (c : After-forget_pages) → AreGone (paged_view c.args.self.now) (after c) c.args.start c.args.pages
gone c =
    let first : c.containing_address.result ≡ c.args.start / 4096 = c.containing_address.ensures ∙ ap (λ a. a / 4096) c.new.ensures in
    let count = c.unmap_pages.ensures.unmapped.count in
    let same : cut_tables c.args.self.now.frames c.args.self.now.root c.containing_address.result ≡ cut_tables
    c.args.self.now.frames c.args.self.now.root (c.args.start / 4096) =
    ap (cut_tables c.args.self.now.frames c.args.self.now.root) first in
    let before = c.free_count-free.ensures in
    let now = c.free_count.ensures in
    let gone = pages_gone (paged_view c.args.self.now) c.unmap_pages.new.frames c.unmap_pages.new.pool c.cut.new.self
    (after c).tables c.containing_address.result c.args.start c.args.pages first
    c.unmap_pages.ensures.unmapped c.unmap_pages.ensures.tree c.unmap_pages.ensures.gone.unmapped
    c.unmap_pages.ensures.gone.elsewhere c.unmap_pages.ensures.gone.bytes (omega arith) in
    record {
      regions = c.cut.ensures.regions ∙ ap (λ a. cut_regions a c.args.pages (paged_view c.args.self.now).regions) (page_is c.args.start c.requires.range.0);
      gone = gone;
      frames = λ starts. frames_free (paged_view c.args.self.now) (after c) c.args.start c.args.pages c.requires.range gone
          (no_cut (paged_view c.args.self.now) c.args.start c.args.pages c.args.self.now.mapped c.requires.range starts);
    }

taken : (c : After-forget_pages) → AreTakenOut c.args.start (c.args.start + 4096 * c.args.pages) (paged_view c.args.self.now).regions c.cut.new.self
taken c =
    let whole = c.requires.range.0 in
    subst (λ a. AreTakenOut a (c.args.start + 4096 * c.args.pages) (paged_view c.args.self.now).regions c.cut.new.self) (page_is c.args.start whole)
    (subst (λ b. AreTakenOut (4096 * (c.args.start / 4096)) b (paged_view c.args.self.now).regions c.cut.new.self) (end_is c.args.start c.args.pages whole)
    (c.cut.ensures.taken (subst (λ b. IsRegionBoundary b (paged_view c.args.self.now).regions) (sym (end_is c.args.start c.args.pages whole)) c.requires.ends)))

pub invariant_of-self : goal.invariant_of-self
invariant_of-self c =
    let m = c.args.self.now.mapped in
    let g = gone c in
    let range = c.requires.range in
    record {
      met = c.forget_pages.ensures c.unmap_pages.new.frames c.args.self.now.root
          (cut_stay c.args.self.now.frames c.unmap_pages.new.frames c.args.self.now.root (c.args.start / 4096) c.args.self.now.met_slots.tables
          (λ l number is apart. g.gone.gone.tables_stay l number (omega (arith, is)) apart) c.args.self.now.met.0);
      mapped = fewer_mapped (paged_view c.args.self.now) (after c) c.args.start c.args.pages m range
          (ap (λ rs. total_pages rs + c.args.pages) g.regions
          ∙ cut_count c.args.start c.args.pages range.0 range.1.some (2 ^ 64) (paged_view c.args.self.now).regions
          c.count.ensures.laid c.requires.ends c.requires.held)
          (subst (AllByRecursion (IsRegion (paged_view c.args.self.now).base (paged_view c.args.self.now).pages))
          (sym g.regions)
          (regions_cut (paged_view c.args.self.now).base (paged_view c.args.self.now).pages c.args.start c.args.pages
          (paged_view c.args.self.now).regions range.0 m.regions))
          g.gone (taken c) (c.unmap_pages.ensures.known m.known)
          (λ slot is beside whole. ap (λ rs. is_whole_in rs slot) g.regions
          ∙ whole_cut (paged_view c.args.self.now).base (paged_view c.args.self.now).pages c.args.start c.args.pages slot
          (paged_view c.args.self.now).regions m.regions range.0 is.aligned c.requires.ends beside whole);
    }

pub returns : goal.returns
returns c = gone (goal.at.returns c).After-forget_pages
