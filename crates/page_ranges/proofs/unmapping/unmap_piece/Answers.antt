use Rattle.std.proofs.Common.{◌≡◌, ◌*◌, ◌/◌, List, ℕ, Option, Some, true, not, sym, ap, ◌∙◌, arith}
use Rattle.std.specs.Option.{is_some, option_map}
use Rattle.paging_core.specs.Walk.{Place, large_of, mapped_place}
use Rattle.paging_core.specs.Large.{slot_of}
use Rattle.paging_core.specs.declared.page_walk.Mapped.{Mapped}
use Rattle.paging_core.proofs.PageChanged.{some_place}
use Rattle.page_ranges.proofs.Found.{none_of, some_of}
use Rattle.page_ranges.proofs.UnmapPieces.{piece_small, ends_with_slot, run_out, unmapped_by_table, unmapped_whole, unmapped_cut}
use Rattle.page_ranges.proofs.unmapping.unmap_piece.Goals as goal

-- the slot's large page
found : (words : List ℕ) (root first slot : ℕ) (o : Option Mapped) → option_map mapped_place o ≡ large_of words root
    (slot_of slot) → is_some o ≡ true → slot ≡ first / 512 →
    (large : Place) × (large_of words root (slot_of (first / 512)) ≡ Some large)
found words root first slot o e some at =
    let p = some_place (large_of words root (slot_of slot)) (some_of o (large_of words root (slot_of slot)) e some) in
    (p.0, ap (λ s. large_of words root (slot_of s)) (sym at) ∙ p.1)

pub unmap_range-requires-clause-pages : goal.unmap_range-requires-clause-pages
unmap_range-requires-clause-pages c = record {
  rooted = c.requires.unmappable.rooted;
  range = c.requires.unmappable.range;
  mapped = c.requires.unmappable.mapped;
  small = let none = none_of c.large_page.result (large_of c.args.frames.now c.args.root (slot_of c.slot_at-slot.result))
      c.large_page.ensures (c.is_none.ensures ∙ ap not c.if-is_none.true) in
      piece_small c.args.first c.args.pages c.requires.unmappable.range c.requires.one_slot c.args.frames.now c.args.root
      (rw c.slot_at-slot.ensures at none) c.requires.unmappable.mapped;
}

pub returns-then-is_none : goal.returns-then-is_none
returns-then-is_none c =
    let none = none_of c.large_page.result (large_of c.args.frames.now c.args.root (slot_of c.slot_at-slot.result))
    c.large_page.ensures (c.is_none.ensures ∙ ap not c.if-is_none.true) in
    unmapped_by_table c.args.first c.args.pages c.requires.unmappable.range c.requires.one_slot c.args.frames.now
    c.unmap_range.new.frames c.args.pool.now c.unmap_range.new.pool c.args.root
    (rw c.slot_at-slot.ensures at none) c.unmap_range.ensures.freed c.unmap_range.ensures.count

pub deallocate_number-requires : goal.deallocate_number-requires
deallocate_number-requires c =
    let p = found c.args.frames.now c.args.root c.args.first c.slot_at-slot.result c.large_page.result c.large_page.ensures
    (c.is_none.ensures ∙ ap not c.if-is_none.false) c.slot_at-slot.ensures in
    let framed : 512 * c.unmap_large-run.result ≡ p.0.frame = rw (c.slot_at-slot.ensures, p.1) at c.unmap_large-run.ensures.frame in
    let size = ((c.unmap_large-run.ensures.cleared.gone c.args.pool.now c.requires.standing.tree).removed).size in
    let below = c.unmap_large-run.ensures.below in
    let n = c.number.ensures.value in
    record {
      out = run_out c.args.first c.args.pages c.requires.unmappable.range c.requires.one_slot c.args.frames.now c.args.pool.now c.args.root _ p.0
          c.requires.standing.tree c.requires.standing.flags p.1 (omega arith) (omega arith);
    }

pub returns-then-offset-eq0 : goal.returns-then-offset-eq0
returns-then-offset-eq0 c =
    let p = found c.args.frames.now c.args.root c.args.first c.slot_at-slot.result c.large_page.result c.large_page.ensures
    (c.is_none.ensures ∙ ap not c.if-is_none.false) c.slot_at-slot.ensures in
    let to_end = ends_with_slot c.args.first c.args.pages c.requires.unmappable.range c.requires.one_slot c.args.frames.now c.args.root p.0 p.1 c.requires.unmappable.ends in
    let framed : 512 * c.unmap_large-run.result ≡ p.0.frame = rw (c.slot_at-slot.ensures, p.1) at c.unmap_large-run.ensures.frame in
    let r = c.number.ensures.value in
    let n = c.number-offset.ensures.value in
    let t = c.if-offset-eq0.true in
    unmapped_whole c.args.first c.args.pages c.requires.unmappable.range c.requires.one_slot c.args.frames.now
    c.unmap_large-run.new.frames c.args.pool.now c.deallocate_number.new.self
    c.args.root _ p.0 c.requires.unmappable.rooted c.requires.standing.tree (omega arith) (omega arith) p.1 (omega arith)
    (rw c.slot_at-slot.ensures at c.unmap_large-run.ensures.cleared.cleared)
    (rw c.slot_at-slot.ensures at ((c.unmap_large-run.ensures.cleared.gone c.args.pool.now c.requires.standing.tree).removed))
    c.deallocate_number.ensures.given c.deallocate_number.ensures.count

pub returns-else-offset-eq0 : goal.returns-else-offset-eq0
returns-else-offset-eq0 c =
    let p = found c.args.frames.now c.args.root c.args.first c.slot_at-slot.result c.large_page.result c.large_page.ensures
    (c.is_none.ensures ∙ ap not c.if-is_none.false) c.slot_at-slot.ensures in
    let to_end = ends_with_slot c.args.first c.args.pages c.requires.unmappable.range c.requires.one_slot c.args.frames.now c.args.root p.0 p.1 c.requires.unmappable.ends in
    let n = c.number-offset.ensures.value in
    let t = c.if-offset-eq0.false in
    unmapped_cut c.args.first c.args.pages c.requires.unmappable.range c.requires.one_slot c.args.frames.now c.cut_large.new.frames
    c.args.pool.now c.cut_large.new.pool c.args.root
    c.requires.standing.tree (omega arith) to_end _ (rw c.slot_at-slot.ensures at c.cut_large.ensures.cut.cut) (omega arith)
