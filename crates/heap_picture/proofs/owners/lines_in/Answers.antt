use Rattle.std.proofs.Common.{ℕ, ◌^◌, List, sym, ◌∙◌, ap, subst}
use Rattle.paged_systems.specs.System.{paged}
use Rattle.heap_tables.specs.declared.owners.Owned.{Owned}
use Rattle.heap_tables.specs.Joining.{joined_table_lines}
use Rattle.heap_tables.specs.Owners.{AreOwnedAscending}
use Rattle.heap_picture.specs.Owners.{owned_regions}
use Rattle.heap_picture.proofs.Whose.{laid_ascends}
use Rattle.heap_picture.proofs.owners.lines_in.Goals as goal

pub table_lines-requires-clause-ascending : goal.table_lines-requires-clause-ascending
table_lines-requires-clause-ascending c =
    let p = paged c.args.system.now in
    subst AreOwnedAscending (sym (c.deref.ensures.value ∙ c.in_ok-owned.ensures
    ∙ ap owned_regions (c.as_slice.ensures ∙ c.in_ok-list.ensures)))
    (laid_ascends 0 (2 ^ 64) p.regions c.args.system.now.kept.laid)

pub returns : goal.returns
returns c =
    let p = paged c.args.system.now in
    let owned = c.deref.ensures.value ∙ c.in_ok-owned.ensures ∙ ap owned_regions (c.as_slice.ensures ∙ c.in_ok-list.ensures) in
    c.in_ok-lines.ensures.lines
    ∙ ap (λ (ws : List ℕ). joined_table_lines ws c.deref.result.now c.root.result) c.frames.ensures
    ∙ ap (λ (os : List Owned). joined_table_lines p.words os c.root.result) owned
    ∙ ap (λ (r : ℕ). joined_table_lines p.words (owned_regions p.regions) r) c.root.ensures
