use Rattle.std.proofs.Common.{◌≡◌, ◌/◌, ◌∙◌, None, refl, sym, ap, subst, arith}
use Rattle.std.specs.Prelude.{IsSome}
use Rattle.std.specs.Option.{option_map}
use Rattle.paging_core.specs.Area.{in_area}
use Rattle.paging_core.specs.Large.{slot_of}
use Rattle.paging_core.specs.Memory.{frame_count}
use Rattle.paging_core.specs.Walk.{mapped_place, large_of}
use Rattle.paging_core.proofs.Areas.{free_stays, known_moved}
use Rattle.kernel_tables.specs.TableState.{TableState, leads}
use Rattle.kernel_tables.proofs.Sound.{removed_outside}
use Rattle.kernel_tables.proofs.RangeChanged.{large_there}
use Rattle.kernel_tables.proofs.Ends.{entry_alone}
use Rattle.kernel_tables.proofs.EntryChanges.{entry_cleared}
use Rattle.kernel_tables.proofs.tables.Tables.clear_entry.Goals as goal

pub invariant_of-self : goal.invariant_of-self
invariant_of-self c =
    let all = (c.clear_at.ensures.cleared.gone c.self.inside.free c.self.invariant.tree).pages in
    let size = all.size in
    record {
      root_in = omega (arith, c.self.invariant.root_in, size);
      tree = (c.clear_at.ensures.cleared.gone c.self.inside.free c.self.invariant.tree).tree;
      known = known_moved c.self.inside.memory.area c.clear_at.new.frames.area c.self.inside.free
          (frame_count c.clear_at.new.frames.words) c.clear_at.ensures.cleared.same_area
          (free_stays c.self.inside.memory.area c.self.inside.free c.self.inside.free
          (frame_count c.self.inside.memory.words) (frame_count c.clear_at.new.frames.words) c.self.invariant.known
          (omega arith) (λ f e. e));
      apart = λ page place is kept.
          ap (λ a. in_area a place.frame) c.clear_at.ensures.cleared.same_area
          ∙ removed_outside c.self.inside.shared c.self.inside.memory.area c.self.inside.memory.words c.clear_at.new.frames.words
          c.self.inside.root c.args.page all c.self.invariant.apart page place is kept;
      part = λ whole. c.self.invariant.part (sym c.clear_at.ensures.cleared.same_area ∙ whole);
    }

pub returns-in-Entry-default-Some-clause-some : goal.returns-in-Entry-default-Some-clause-some
returns-in-Entry-default-Some-clause-some c = λ _.
    subst (λ (s : TableState). IsSome (leads s c.args.page) × (large_of s.words s.root (slot_of (c.args.page / 512)) ≡ None)) c.self.view_is (
      rw (sym c.in-Entry-default-Some.ensures.end.1 ∙ ap (option_map mapped_place) c.in-Entry-default-Some.page-is) refl,
      entry_alone (record { words = c.self.inside.memory.words; area = c.self.inside.memory.area; root = c.self.inside.root; free = c.self.inside.free; shared = c.self.inside.shared })
          c.args.page c.in-Entry-default-Some.entry.table c.in-Entry-default-Some.entry.index c.in-Entry-default-Some.ensures.end.0,
    )

pub returns-in-Large-clause-none : goal.returns-in-Large-clause-none
returns-in-Large-clause-none c = λ _ some.
    subst (λ (s : TableState). IsSome (large_of s.words s.root (slot_of (c.args.page / 512)))) c.self.view_is
    (large_there c.self.inside.memory.words c.self.inside.root c.args.page (rw c.in-Large.ensures.end.1 refl) c.in-Large.ensures.end.0)

pub returns-in-Entry-default-Some-clause-cleared : goal.returns-in-Entry-default-Some-clause-cleared
returns-in-Entry-default-Some-clause-cleared c =
    entry_cleared c.self.view_is c.clear_at.ensures.cleared.same_area (c.clear_at.ensures.cleared.gone c.self.inside.free c.self.invariant.tree) c.clear_at.ensures.cleared.removed
    (rw (sym c.in-Entry-default-Some.ensures.end.1 ∙ ap (option_map mapped_place) c.in-Entry-default-Some.page-is) refl)
