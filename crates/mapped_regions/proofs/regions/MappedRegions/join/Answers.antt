use Rattle.std.proofs.Common.{rules, ◌≡◌, ◌+◌, ◌-◌, ◌/◌, ◌%◌, ◌^◌, refl, ap, ◌∙◌, subst, sym, arith, None}
use Rattle.paging_core.specs.Walk.{walk_of}
use Rattle.page_ranges.specs.RangeMapping.{IsRangeMapped}
use Rattle.machine_model.specs.Machine.{Paged}
use Rattle.machine_model.proofs.Regions.{within_bounds}
use Rattle.mapped_regions.specs.Mapped.{IsRegionJoined}
use Rattle.mapped_regions.specs.Shown.{paged_view}
use Rattle.mapped_regions.proofs.MetSlots.{met_stay}
use Rattle.mapped_regions.proofs.FewerMissing.{missing_fewer}
use Rattle.mapped_regions.proofs.Mapped.{unmapped, joined_mapped}
use Rattle.mapped_regions.proofs.NewSlots.{none_behind, runs_used, by_address}
use Rattle.mapped_regions.proofs.regions.MappedRegions.join.Goals as goal
use Rattle.mapped_regions.proofs.regions.MappedRegions.join.Goals.{After-list_large}

pub map_pages-stop-requires-clause-mappable : goal.map_pages-stop-requires-clause-mappable
map_pages-stop-requires-clause-mappable c = record {
  range = search rules;
  unmapped = λ k less.
      let first : c.containing_address.result ≡ c.args.region.start / 4096 = c.containing_address.ensures ∙ ap (λ a. a / 4096) c.new.ensures in
      subst (λ f. walk_of c.args.self.now.frames c.args.self.now.root (f + k) ≡ None) (sym first)
      (unmapped (paged_view c.args.self.now) c.args.region.start c.args.region.pages k c.args.self.now.mapped c.requires.can
      less);
  room = search rules;
}

pub overflow_sub-self-2 : goal.overflow_sub-self-2
overflow_sub-self-2 c =
    let a = c.map_pages-stop.ensures.mapped in
    let count = a.count in
    let fewer = missing_fewer c.args.self.now.frames c.map_pages-stop.new.frames c.args.self.now.root a.pages_added.stayed
    c.containing_address.result c.args.region.pages in
    let before = c.free_count-free.ensures in
    let now = c.free_count.ensures in
    omega arith

pub list_large-requires-clause-rest : goal.list_large-requires-clause-rest
list_large-requires-clause-rest c =
    none_behind (paged_view c.args.self.now) c.map_pages-stop.new.frames c.map_pages-stop.new.pool c.args.region.start
    c.args.region.pages c.map_pages-stop.result c.bits.result
    c.args.self.now.mapped c.requires.can (by_address c.args.self.now.frames c.map_pages-stop.new.frames
    c.args.self.now.pool c.map_pages-stop.new.pool c.args.self.now.root c.containing_address.result c.args.region.start
    c.args.region.pages c.map_pages-stop.result c.bits.result
    (c.containing_address.ensures ∙ ap (λ a. a / 4096) c.new.ensures) c.map_pages-stop.ensures.mapped)

-- what is seen after the region joined
abbrev after : After-list_large → Paged
after c = record {
  base = c.args.self.now.base;
  pages = c.args.self.now.pages;
  words = c.map_pages-stop.new.frames;
  root = c.args.self.now.root;
  free = c.map_pages-stop.new.pool;
  tables = c.args.self.now.tables + (c.free_count-free.result - c.args.region.pages - c.free_count.result);
  joins = (c.args.self.now.joins + 1) % 2 ^ 64;
  regions = c.add.new.self;
  slots = c.list_large.new.slots.items;
}

joined : (c : After-list_large) → IsRegionJoined (paged_view c.args.self.now) (after c) c.args.region
joined c =
    let a = by_address c.args.self.now.frames c.map_pages-stop.new.frames c.args.self.now.pool c.map_pages-stop.new.pool
    c.args.self.now.root c.containing_address.result c.args.region.start c.args.region.pages c.map_pages-stop.result
    c.bits.result
    (c.containing_address.ensures ∙ ap (λ a. a / 4096) c.new.ensures) c.map_pages-stop.ensures.mapped in
    let count = a.count in
    let fewer = missing_fewer c.args.self.now.frames c.map_pages-stop.new.frames c.args.self.now.root a.pages_added.stayed
    (c.args.region.start / 4096) c.args.region.pages in
    let before = c.free_count-free.ensures in
    let now = c.free_count.ensures in
    let whole = c.requires.can.range.0 in
    record {
      regions = c.in_ok-add.ensures.ok;
      joins = refl;
      added = record {
        base = refl;
        pages_is = refl;
        root = refl;
        stop = c.map_pages-stop.result;
        added = subst (IsRangeMapped c.args.self.now.frames c.map_pages-stop.new.frames c.args.self.now.pool
            c.map_pages-stop.new.pool c.args.self.now.root (c.args.region.start / 4096) c.args.region.pages c.map_pages-stop.result) c.bits.ensures a;
        tables = omega arith;
        slots = c.list_large.ensures;
      };
      runs = runs_used c.args.self.now.frames c.map_pages-stop.new.frames c.args.self.now.pool c.map_pages-stop.new.pool
          c.args.self.now.root c.args.region.start c.args.region.pages c.map_pages-stop.result c.bits.result whole a;
      zeros = λ address here. (
          let bounds = within_bounds address c.args.region here in
          c.map_pages-stop.ensures.clear.zeros address (address / 4096 - c.args.region.start / 4096)
          (omega (arith, bounds.0, bounds.1)) (omega (arith, bounds.0, bounds.1)));
      bytes = c.map_pages-stop.ensures.clear.bytes;
    }

pub invariant_of-self-2 : goal.invariant_of-self-2
invariant_of-self-2 c =
    let first : c.containing_address.result ≡ c.args.region.start / 4096 = c.containing_address.ensures ∙ ap (λ a. a / 4096) c.new.ensures in
    let pages = c.map_pages-stop.ensures.mapped.pages_added in
    record {
      met = met_stay c.args.self.now.frames c.map_pages-stop.new.frames c.args.self.now.root c.args.self.now.met_slots
          (λ l number at le is. pages.stayed l number at le is)
          pages.large_stayed c.args.self.now.met;
      mapped = joined_mapped (paged_view c.args.self.now) (after c) c.args.region c.args.self.now.mapped c.requires.region
          c.requires.can (joined c) c.in_ok-add.ensures.put
          (λ other canonical apart. c.map_pages-stop.ensures.clear.elsewhere other canonical (λ k less e. apart k less (e ∙ ap (λ f. f + k) first)));
    }

pub returns-clause-ok : goal.returns-clause-ok
returns-clause-ok c = joined (goal.at.returns-clause-ok c).After-list_large
