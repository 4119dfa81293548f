use Rattle.std.proofs.Common.{◌≡◌, ◌*◌, ◌/◌, ap, ◌∙◌, sym, subst, length, set, true, false, List, Bool, option_map, arith}
use Rattle.std.specs.List.{AllByRecursion}
use Rattle.std.proofs.lemmas.List.{length-replicate}
use Rattle.paging_core.specs.Memory.{frame_count}
use Rattle.paging_core.specs.PageBits.{bits_of, bits_at}
use Rattle.paging_core.specs.declared.page_table.Rights.{Rights}
use Rattle.machine_model.specs.declared.region.Region.{Region}
use Rattle.machine_model.specs.State.{total_pages}
use Rattle.mapped_regions.specs.Regions.{kind_at}
use Rattle.mapped_regions.specs.Mapped.{IsRegion}
use Rattle.mapped_regions.proofs.Mapped.{none_large, new_accounted}
use Rattle.mapped_regions.proofs.regions.MappedRegions.new.Goals as goal

pub invariant_of-result : goal.invariant_of-result
invariant_of-result c =
    let size : frame_count c.make_root.new.frames ≡ c.args.frames = ap (λ n. n / 512) c.in-Some.ensures.made.size ∙ c.in_ok-memory.ensures.count in
    let fits = c.ranges.frames.fits in
    let free = c.in-Some.ensures.frame.count in
    let all = c.in_ok-pool.ensures.count in
    let none : total_pages c.new-5.result ≡ 0 = ap total_pages c.new-5.ensures in
    record {
      met = c.new-3.ensures c.make_root.new.frames c.in-Some.root;
      mapped = record {
        window = c.requires.window;
        tree = c.in-Some.ensures.made.tree;
        known = c.in-Some.ensures.known;
        flags = c.in-Some.ensures.frame.flags ∙ (ap length c.in_ok-pool.ensures.free ∙ (length-replicate c.args.frames true ∙ sym size));
        root_in = c.in-Some.ensures.made.below;
        few_frames = omega arith;
        count = omega arith;
        regions = subst (AllByRecursion (IsRegion c.args.base c.args.pages)) (sym c.new-5.ensures) tt;
        found = λ page canonical. ap (option_map bits_at) (c.in-Some.ensures.made.unmapped page)
            ∙ ap (λ (rs : List Region). option_map (λ (kind : Bool × Rights). bits_of kind.1) (kind_at rs (4096 * page)))
            (sym c.new-5.ensures);
        larges = none_large c.make_root.new.frames c.in-Some.root c.new-5.result c.in-Some.ensures.made.no_large;
        accounted = new_accounted c.make_root.new.frames c.in-Some.root c.args.frames c.make_root.new.pool
            (c.in-Some.ensures.frame.taken.1 ∙ ap (λ (flags : List Bool). set flags c.in-Some.root false) c.in_ok-pool.ensures.free) size;
      };
    }
