use Rattle.std.proofs.Common.{◌≡◌, ◌∙◌, ◌%◌, refl, sym, ap, Some, None}
use Rattle.std.specs.Option.{option_map}
use Rattle.paging_core.specs.Walk.{reach, large_of, large_step, mapped_place}
use Rattle.paging_core.specs.Large.{slot_of, above}
use Rattle.paging_core.proofs.Reached.{some_not_none}
use Rattle.paging_core.proofs.LargeGone.{large_at, large_stops, slot_index}
use Rattle.paging_core.proofs.large.large_entry.Goals as goal

pub unreachable-requires : goal.unreachable-requires
unreachable-requires g c =
    let none : reach (g.M.PhysicalMemory.words c.args.frames.now) c.args.root 2 (above c.args.page 2) ≡ None =
    rw c.first_page-first.ensures at (sym c.descend.ensures.reach ∙ ap (option_map mapped_place) c.in_default.is) in
    some_not_none (large_of (g.M.PhysicalMemory.words c.args.frames.now) c.args.root (slot_of c.args.page)) c.requires.page.large
    (large_stops (g.M.PhysicalMemory.words c.args.frames.now) c.args.root c.args.page none)

pub unreachable-requires-in_default-large_at : goal.unreachable-requires-in_default-large_at
unreachable-requires-in_default-large_at g c =
    let met : reach (g.M.PhysicalMemory.words c.args.frames.now) c.args.root 2 (above c.args.page 2) ≡ Some (mapped_place c.in-Some.at) =
    rw c.first_page-first.ensures at (sym c.in-Some.ensures.reach) in
    let ix : c.index_after-index.result ≡ slot_of c.args.page % 512 =
    (rw c.first_page-first.ensures at c.index_after-index.ensures.value) ∙ slot_index c.args.page in
    some_not_none (large_of (g.M.PhysicalMemory.words c.args.frames.now) c.args.root (slot_of c.args.page)) c.requires.page.large
    (large_at (g.M.PhysicalMemory.words c.args.frames.now) c.args.root c.args.page (mapped_place c.in-Some.at) met
    ∙ (ap (large_step (g.M.PhysicalMemory.words c.args.frames.now) (mapped_place c.in-Some.at)) (sym ix)
    ∙ (sym c.large_at.ensures.step ∙ ap (option_map mapped_place) c.in_default-large_at.is)))

pub returns-clause-entry : goal.returns-clause-entry
returns-clause-entry g c =
    let met : reach (g.M.PhysicalMemory.words c.args.frames.now) c.args.root 2 (above c.args.page 2) ≡ Some (mapped_place c.in-Some.at) =
    rw c.first_page-first.ensures at (sym c.in-Some.ensures.reach) in
    let ix : c.index_after-index.result ≡ slot_of c.args.page % 512 =
    (rw c.first_page-first.ensures at c.index_after-index.ensures.value) ∙ slot_index c.args.page in
    record {
      met = mapped_place c.in-Some.at;
      reached = met;
      found = large_at (g.M.PhysicalMemory.words c.args.frames.now) c.args.root c.args.page (mapped_place c.in-Some.at) met
          ∙ (ap (large_step (g.M.PhysicalMemory.words c.args.frames.now) (mapped_place c.in-Some.at)) (sym ix) ∙ sym c.in-Some-large_at.ensures.step);
      in_table = refl;
      at_index = ix;
    }

pub returns-clause-canonical : goal.returns-clause-canonical
returns-clause-canonical g c = rw c.first_page-first.ensures at c.index_after-index.ensures.canonical

pub returns-clause-place : goal.returns-clause-place
returns-clause-place g c = record {
  inside = c.in-Some-large_at.ensures.inside;
  below = c.in-Some.ensures.below;
  bounded = c.index_after-index.ensures.bounded;
}
