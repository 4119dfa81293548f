-- Pages are granted at their place.
use Rattle.std.proofs.Common.{◌≡◌, ℕ, ◌^◌, arith, refl, sym, subst, Result, Ok, Err, OnOk, OnErr}
use Rattle.machine_model.specs.declared.region.Region.{Region}
use Rattle.machine_model.specs.Room.{heap_region}
use Rattle.machine_model.specs.Machine.{Paged}
use Rattle.mapped_regions.specs.Regions.{AreLaid}
use Rattle.mapped_regions.specs.Mapped.{IsMapped, IsRegion, CanMap, IsRegionJoined, IsLeft}
use Rattle.mapped_regions.proofs.Laying.{laid_with, laid_without}
use Rattle.mapped_regions.proofs.Mapped.{range_ends_at}
use Rattle.paged_systems.specs.Window.{IsHeapWindow}
use Rattle.paged_systems.specs.Layout.{IsPagedKept, CanGrant, IsGranted}
use Rattle.paged_systems.proofs.Places.{range_within}

-- what a system keeps, it keeps where a region joined, or nothing was done
pub kept_joined : {A B : Type 0} (answer : Result A B) (old new : Paged) (region : Region) →
    OnOk answer (IsRegionJoined old new region) → OnOk answer (CanMap old region.start region.pages) →
    OnErr answer (new ≡ old) → IsPagedKept old → IsMapped new → IsPagedKept new
kept_joined (Ok a) old new region ok can err kept mapped = record {
  window = subst (λ b. IsHeapWindow b new.pages) (sym ok.added.base) (subst (IsHeapWindow old.base) (sym ok.added.pages_is) kept.window);
  mapped = mapped;
  laid = subst (λ regions. AreLaid 0 regions (2 ^ 64)) (sym ok.regions)
      (laid_with region 0 (2 ^ 64) old.regions can.range.0 can.range.1.some (omega arith)
      (range_ends_at region.start region.pages can.range) can.clear kept.laid);
}
kept_joined (Err e) old new region ok can err kept mapped = subst IsPagedKept (sym err) kept

-- and where one left
pub kept_left : {A B : Type 0} (answer : Result A B) (old new : Paged) (start pages : ℕ) →
    OnOk answer (IsLeft old new start pages) → OnErr answer (new ≡ old) → IsPagedKept old → IsMapped new → IsPagedKept new
kept_left (Ok a) old new start pages ok err kept mapped = record {
  window = subst (λ b. IsHeapWindow b new.pages) (sym ok.gone.base) (subst (IsHeapWindow old.base) (sym ok.gone.pages_is) kept.window);
  mapped = mapped;
  laid = subst (λ regions. AreLaid 0 regions (2 ^ 64)) (sym ok.regions) (laid_without start pages 0 (2 ^ 64) old.regions kept.laid);
}
kept_left (Err e) old new start pages ok err kept mapped = subst IsPagedKept (sym err) kept

-- the region of a grant is one of the heap in the window, and it can be mapped
pub granted_region : (p : Paged) (pages address : ℕ) → IsPagedKept p → CanGrant p pages address → IsRegion p.base p.pages (heap_region address pages)
granted_region p pages address kept can = record {
  range = (can.place.fit.aligned, range_within p pages address kept.window can.some can.place.fit);
  from = λ heap. can.place.fit.from;
  within = λ heap. can.place.fit.within;
  rights = λ heap. refl;
}

pub can_map : (p : Paged) (pages address : ℕ) → IsPagedKept p → CanGrant p pages address → CanMap p address pages
can_map p pages address kept can = record {
  range = (can.place.fit.aligned, range_within p pages address kept.window can.some can.place.fit);
  clear = can.place.fit.clear;
  frames = can.frames;
}

-- where it joined, the pages were granted
pub granted_joined : (old new : Paged) (region : Region) (pages address : ℕ) → region ≡ heap_region address pages →
    IsRegionJoined old new region → IsGranted old new pages address
granted_joined old new region pages address is joined =
    let j = subst (IsRegionJoined old new) is joined in
    record {
      grant = j.added;
      runs = j.runs;
      joins = j.joins;
      regions = j.regions;
    }
