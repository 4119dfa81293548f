use Rattle.std.proofs.Common.{rules, ◌≡◌, ◌+◌, ◌/◌, ◌^◌, ap, ◌∙◌, subst, sym, arith, IsSome}
use Rattle.std.specs.List.{AllByRecursion}
use Rattle.paging_core.specs.Address.{IsCanonicalRange}
use Rattle.paging_core.specs.Walk.{walk_of}
use Rattle.page_ranges.specs.RangeUnmapping.{NoLargePageReachesOver}
use Rattle.page_ranges.proofs.Unmapped.{cut_none}
use Rattle.machine_model.specs.State.{total_pages}
use Rattle.machine_model.specs.Slots.{is_whole_in}
use Rattle.machine_model.specs.Machine.{Paged}
use Rattle.machine_model.proofs.Regions.{pages_without, all_without}
use Rattle.mapped_regions.specs.Mapped.{IsRegion, IsLeft}
use Rattle.mapped_regions.specs.Shown.{paged_view}
use Rattle.mapped_regions.proofs.MetSlots.{tables_stay}
use Rattle.mapped_regions.proofs.Ends.{listed_ends, listed_starts, none_over, no_cut, whole_without}
use Rattle.mapped_regions.proofs.FrameUse.{frames_free}
use Rattle.mapped_regions.proofs.Mapped.{mapped, pages_gone, fewer_mapped, listed_range, range_canonical, range_ends_at}
use Rattle.mapped_regions.proofs.regions.MappedRegions.leave.Goals as goal
use Rattle.mapped_regions.proofs.regions.MappedRegions.leave.Goals.{After-forget_pages}

pub remove-requires : goal.remove-requires
remove-requires c =
    let range = listed_range (paged_view c.args.self.now) c.args.region.now.start c.args.region.now.pages c.args.self.now.mapped c.requires.there in
    record { at_page = range.0; within = range_ends_at c.args.region.now.start c.args.region.now.pages range }

pub new-requires : goal.new-requires
new-requires c =
    range_canonical c.args.region.now.start c.args.region.now.pages (listed_range (paged_view c.args.self.now)
    c.args.region.now.start c.args.region.now.pages c.args.self.now.mapped c.requires.there)

pub unmap_pages-requires-clause-unmappable : goal.unmap_pages-requires-clause-unmappable
unmap_pages-requires-clause-unmappable c = record {
  rooted = search rules;
  range = let first : c.containing_address.result ≡ c.args.region.now.start / 4096 = c.containing_address.ensures ∙ ap (λ a. a / 4096) c.new.ensures in
      subst (λ f. IsCanonicalRange f c.args.region.now.pages) (sym first)
      (listed_range (paged_view c.args.self.now) c.args.region.now.start c.args.region.now.pages c.args.self.now.mapped
      c.requires.there).1;
  mapped = λ k less.
      let first : c.containing_address.result ≡ c.args.region.now.start / 4096 = c.containing_address.ensures ∙ ap (λ a. a / 4096) c.new.ensures in
      let range = listed_range (paged_view c.args.self.now) c.args.region.now.start c.args.region.now.pages c.args.self.now.mapped c.requires.there in
      subst (λ f. IsSome (walk_of c.args.self.now.frames c.args.self.now.root (f + k))) (sym first)
      (mapped (paged_view c.args.self.now) c.args.region.now.start c.args.region.now.pages k c.args.self.now.mapped range c.requires.there less);
  ends = let first : c.containing_address.result ≡ c.args.region.now.start / 4096 = c.containing_address.ensures ∙ ap (λ a. a / 4096) c.new.ensures in
      let range = listed_range (paged_view c.args.self.now) c.args.region.now.start c.args.region.now.pages c.args.self.now.mapped c.requires.there in
      subst (λ f. NoLargePageReachesOver c.args.self.now.frames c.args.self.now.root f c.args.region.now.pages) (sym first)
      (none_over (paged_view c.args.self.now) c.args.region.now.start c.args.region.now.pages c.args.self.now.mapped range
      (listed_ends c.args.region.now.start c.args.region.now.pages 0 (2 ^ 64) (paged_view c.args.self.now).regions c.count.ensures.laid c.requires.there));
}

-- what is seen after the region left
abbrev after : After-forget_pages → Paged
after c = record (paged_view c.args.self.now) { words = c.unmap_pages.new.frames; free = c.unmap_pages.new.pool; regions = c.remove.new.self }

left : (c : After-forget_pages) → IsLeft (paged_view c.args.self.now) (after c) c.args.region.now.start
    c.args.region.now.pages
left c =
    let first : c.containing_address.result ≡ c.args.region.now.start / 4096 = c.containing_address.ensures ∙ ap (λ a. a / 4096) c.new.ensures in
    let range = listed_range (paged_view c.args.self.now) c.args.region.now.start c.args.region.now.pages c.args.self.now.mapped c.requires.there in
    let whole = no_cut (paged_view c.args.self.now) c.args.region.now.start c.args.region.now.pages c.args.self.now.mapped
    range
    (listed_starts c.args.region.now.start c.args.region.now.pages 0 (2 ^ 64) (paged_view c.args.self.now).regions c.count.ensures.laid c.requires.there) in
    let none = cut_none c.args.self.now.frames c.args.self.now.root (c.args.region.now.start / 4096) whole in
    let gone = pages_gone (paged_view c.args.self.now) c.unmap_pages.new.frames c.unmap_pages.new.pool c.remove.new.self
    c.args.self.now.tables c.containing_address.result c.args.region.now.start c.args.region.now.pages first
    c.unmap_pages.ensures.unmapped c.unmap_pages.ensures.tree c.unmap_pages.ensures.gone.unmapped
    c.unmap_pages.ensures.gone.elsewhere c.unmap_pages.ensures.gone.bytes (omega arith) in
    record {
      regions = c.remove.ensures.regions;
      gone = gone;
      whole = whole;
      frames = frames_free (paged_view c.args.self.now) (after c) c.args.region.now.start c.args.region.now.pages range gone whole;
    }

pub invariant_of-self : goal.invariant_of-self
invariant_of-self c =
    let l = left c in
    let m = c.args.self.now.mapped in
    let range = listed_range (paged_view c.args.self.now) c.args.region.now.start c.args.region.now.pages m c.requires.there in
    record {
      met = c.forget_pages.ensures c.unmap_pages.new.frames c.args.self.now.root
          (tables_stay c.args.self.now.frames c.unmap_pages.new.frames c.args.self.now.root c.args.self.now.met_slots.tables
          (λ number at is. l.gone.gone.tables_stay 3 number (omega arith) (λ e same. l.whole) ∙ is) c.args.self.now.met.0);
      mapped = fewer_mapped (paged_view c.args.self.now) (after c) c.args.region.now.start c.args.region.now.pages m range
          (ap (λ rs. total_pages rs + c.args.region.now.pages) l.regions ∙ pages_without c.args.region.now.start
          c.args.region.now.pages (paged_view c.args.self.now).regions c.requires.there)
          (subst (AllByRecursion (IsRegion (paged_view c.args.self.now).base (paged_view c.args.self.now).pages))
          (sym l.regions)
          (all_without (IsRegion (paged_view c.args.self.now).base (paged_view c.args.self.now).pages)
          c.args.region.now.start
          c.args.region.now.pages (paged_view c.args.self.now).regions m.regions))
          l.gone (c.remove.ensures.taken c.requires.there) (c.unmap_pages.ensures.known m.known)
          (λ slot is beside whole. ap (λ rs. is_whole_in rs slot) l.regions
          ∙ whole_without c.args.region.now.start c.args.region.now.pages slot (paged_view c.args.self.now).regions beside
          whole);
    }

pub returns : goal.returns
returns c = left (goal.at.returns c).After-forget_pages
