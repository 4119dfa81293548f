use Rattle.std.proofs.Common.{◌≡◌, ◌/◌, ◌∙◌, None, refl, sym, ap, subst}
use Rattle.std.specs.Prelude.{IsSome}
use Rattle.std.specs.Option.{option_map}
use Rattle.paging_core.specs.Large.{slot_of}
use Rattle.paging_core.specs.Walk.{mapped_place, large_of}
use Rattle.kernel_tables.specs.TableState.{TableState, leads}
use Rattle.kernel_tables.proofs.RangeChanged.{large_there}
use Rattle.kernel_tables.proofs.Ends.{entry_alone}
use Rattle.kernel_tables.proofs.tables.Tables.grant_entry.Goals as goal

pub returns-in-Entry-default-Some-clause-some : goal.returns-in-Entry-default-Some-clause-some
returns-in-Entry-default-Some-clause-some c = λ _.
    subst (λ (s : TableState). IsSome (leads s c.args.page) × (large_of s.words s.root (slot_of (c.args.page / 512)) ≡ None)) c.self.view_is (
      rw (sym c.in-Entry-default-Some.ensures.end.1 ∙ ap (option_map mapped_place) c.in-Entry-default-Some.page-is) refl,
      entry_alone (record { words = c.self.inside.memory.words; area = c.self.inside.memory.area; root = c.self.inside.root; free = c.self.inside.free; shared = c.self.inside.shared })
          c.args.page c.in-Entry-default-Some.entry.table c.in-Entry-default-Some.entry.index c.in-Entry-default-Some.ensures.end.0,
    )

pub returns-in-Large-clause-none : goal.returns-in-Large-clause-none
returns-in-Large-clause-none c = λ _ some hidden.
    subst (λ (s : TableState). IsSome (large_of s.words s.root (slot_of (c.args.page / 512)))) c.self.view_is
    (large_there c.self.inside.memory.words c.self.inside.root c.args.page (rw c.in-Large.ensures.end.1 refl) c.in-Large.ensures.end.0)

pub grant_at-requires-clause-met : goal.grant_at-requires-clause-met
grant_at-requires-clause-met c =
    sym (ap (λ (s : TableState). leads s c.args.page) c.self.view_is)
    ∙ (sym c.in-Entry-default-Some.ensures.end.1 ∙ ap (option_map mapped_place) c.in-Entry-default-Some.page-is)
