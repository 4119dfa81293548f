use Rattle.std.proofs.Common.{◌≡◌, ◌∙◌, ◌%◌, refl, sym, ap, Some, None, List, ℕ}
use Rattle.std.specs.Option.{option_map}
use Rattle.paging_core.specs.Prefix.{prefix_of}
use Rattle.paging_core.specs.Walk.{Place, step, reach, walk_of, mapped_place}
use Rattle.paging_core.proofs.Prefixes.{walk_reach, reach_page}
use Rattle.paging_core.proofs.Reached.{not_mapped, some_not_none}
use Rattle.paging_core.proofs.page_walk.last_entry.Goals as goal

pub unreachable-requires : goal.unreachable-requires
unreachable-requires g c =
    let none : reach (g.M.PhysicalMemory.words c.args.frames.now) c.args.root 3 (prefix_of c.args.page 3) ≡ None =
    sym c.descend.ensures.reach ∙ ap (option_map mapped_place) c.in_default.is in
    some_not_none (reach (g.M.PhysicalMemory.words c.args.frames.now) c.args.root 3 (prefix_of c.args.page 3)) c.requires.page.small none

-- the walk is one step from the last table
last_step : (words : List ℕ) (root page index : ℕ) (at : Place) → reach words root 3 (prefix_of page 3) ≡ Some at → index ≡ prefix_of page 4 % 512 →
    walk_of words root page ≡ step words 3 at index
last_step words root page index at met ix = walk_reach words root page ∙ (reach_page words root page at met ∙ ap (step words 3 at) (sym ix))

pub unreachable-requires-in_default-next : goal.unreachable-requires-in_default-next
unreachable-requires-in_default-next g c =
    not_mapped (g.M.PhysicalMemory.words c.args.frames.now) c.args.root c.args.page c.requires.page.mapped
    (last_step (g.M.PhysicalMemory.words c.args.frames.now) c.args.root c.args.page c.index_after-index.result
    (mapped_place c.in-Some.at) (sym c.in-Some.ensures.reach) c.index_after-index.ensures.value
    ∙ (sym c.next.ensures.step ∙ ap (option_map mapped_place) c.in_default-next.is))

pub returns-clause-entry : goal.returns-clause-entry
returns-clause-entry g c = record {
  met = mapped_place c.in-Some.at;
  place = mapped_place c.in-Some-next.met;
  reached = sym c.in-Some.ensures.reach;
  found = last_step (g.M.PhysicalMemory.words c.args.frames.now) c.args.root c.args.page c.index_after-index.result
      (mapped_place c.in-Some.at) (sym c.in-Some.ensures.reach) c.index_after-index.ensures.value
      ∙ sym c.in-Some-next.ensures.step;
  in_table = refl;
  at_index = c.index_after-index.ensures.value;
  to_frame = refl;
}

pub returns-clause-place : goal.returns-clause-place
returns-clause-place g c = record {
  inside = c.in-Some-next.ensures.inside;
  below = c.in-Some.ensures.below;
  bounded = c.index_after-index.ensures.bounded;
}
