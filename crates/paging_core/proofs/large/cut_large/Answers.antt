use Rattle.std.proofs.Common.{◌≡◌, ◌∙◌, ◌+◌, ◌-◌, ◌*◌, ◌<◌, ap, set, length, arith}
use Rattle.paging_core.specs.Walk.{mapped_place}
use Rattle.paging_core.specs.Pool.{is_frame_free}
use Rattle.paging_core.specs.Large.{slot_of}
use Rattle.paging_core.proofs.Words.{length_cleared}
use Rattle.paging_core.proofs.Made.{large_below}
use Rattle.paging_core.proofs.Given.{out_of}
use Rattle.paging_core.proofs.LargeAdded.{same_slot}
use Rattle.paging_core.proofs.LargeCut.{large_used, steps_tree, steps_cut, steps_elsewhere, steps_bytes, steps_known}
use Rattle.paging_core.proofs.large.cut_large.Goals as goal

pub clear_frame-requires : goal.clear_frame-requires
clear_frame-requires c =
    let b = large_below c.args.frames.now c.args.root (slot_of c.args.page) (mapped_place c.large_entry-index.result.large)
    c.large_entry-index.ensures.entry.found in
    let e = c.after-made.ensures ∙ ap (λ k. c.large_entry-index.result.large.frame + k) c.from.ensures in
    omega (arith, b.1, e, c.requires.part)

pub fill_table-requires-clause-table : goal.fill_table-requires-clause-table
fill_table-requires-clause-table c =
    let b = large_below c.args.frames.now c.args.root (slot_of c.args.page) (mapped_place c.large_entry-index.result.large)
    c.large_entry-index.ensures.entry.found in
    let e = c.after-made.ensures ∙ ap (λ k. c.large_entry-index.result.large.frame + k) c.from.ensures in
    let s : length c.clear_frame.new.self ≡ length c.args.frames.now =
    ap length c.clear_frame.ensures ∙ length_cleared c.args.frames.now c.after-made.result (omega (arith, b.1, e, c.requires.part)) in
    omega (arith, b.1, e, c.requires.part)

pub set_word-requires-clause-frame : goal.set_word-requires-clause-frame
set_word-requires-clause-frame c =
    let b = large_below c.args.frames.now c.args.root (slot_of c.args.page) (mapped_place c.large_entry-index.result.large)
    c.large_entry-index.ensures.entry.found in
    let e = c.after-made.ensures ∙ ap (λ k. c.large_entry-index.result.large.frame + k) c.from.ensures in
    let s : length c.clear_frame.new.self ≡ length c.args.frames.now =
    ap length c.clear_frame.ensures ∙ length_cleared c.args.frames.now c.after-made.result (omega (arith, b.1, e, c.requires.part)) in
    let t = c.fill_table.ensures.filled.size in
    omega (arith, c.large_entry-index.ensures.place.below)

pub free_frames-requires-clause-out : goal.free_frames-requires-clause-out
free_frames-requires-clause-out c = λ k lt.
    let e = c.after-made.ensures ∙ ap (λ k. c.large_entry-index.result.large.frame + k) c.from.ensures in
    let keeps = c.from-2.ensures in
    let f : c.after.result + k ≡ c.large_entry-index.result.large.frame + (c.args.keep + 1 + k) = omega (arith, e, c.after.ensures) in
    let b = large_below c.args.frames.now c.args.root (slot_of c.args.page) (mapped_place c.large_entry-index.result.large)
    c.large_entry-index.ensures.entry.found in
    let low : c.args.keep + 1 + k < 512 = omega (arith, c.requires.part) in
    out_of c.args.pool.now (c.after.result + k) (omega (arith, b.1, c.requires.standing.flags))
    (ap (is_frame_free c.args.pool.now) f
    ∙ large_used c.args.frames.now c.args.root c.args.page (c.args.keep + 1 + k) c.args.pool.now
    (mapped_place c.large_entry-index.result.large) low c.requires.standing.tree
    c.large_entry-index.ensures.entry.found)

pub returns : goal.returns
returns c = record {
  cut = record {
    tree = steps_tree c.args.frames.now c.clear_frame.new.self c.fill_table.new.frames c.set_word.new.self c.args.pool.now
        c.free_frames.new.pool c.args.root c.args.page c.args.keep
        c.large_entry-index.result.table c.large_entry-index.result.index c.after-made.result c.after.result
        (511 - c.from-2.result) (mapped_place c.large_entry-index.result.large)
        c.requires.some c.requires.part c.large_entry-index.ensures.bounded c.requires.standing.tree c.large_entry-index.ensures.entry
        (c.after-made.ensures ∙ ap (λ k. c.large_entry-index.result.large.frame + k) c.from.ensures)
        c.large_entry-index.ensures.place.below c.clear_frame.ensures c.fill_table.ensures.filled.size
        (rw c.bits.ensures at c.fill_table.ensures.filled.entries) c.fill_table.ensures.filled.others
        (c.set_word.ensures ∙ ap (set c.fill_table.new.frames
        (512 * c.large_entry-index.result.table + c.large_entry-index.result.index)) (c.bits-2.ensures ∙ c.to_table.ensures))
        c.after.ensures (ap (λ k. 511 - k) c.from-2.ensures)
        c.free_frames.ensures.flags c.free_frames.ensures.given c.free_frames.ensures.kept c.free_frames.ensures.count;
    bytes = steps_bytes c.args.frames.now c.clear_frame.new.self c.fill_table.new.frames c.set_word.new.self c.args.pool.now
        c.free_frames.new.pool c.args.root c.args.page c.args.keep
        c.large_entry-index.result.table c.large_entry-index.result.index c.after-made.result c.after.result
        (511 - c.from-2.result) (mapped_place c.large_entry-index.result.large)
        c.requires.some c.requires.part c.large_entry-index.ensures.bounded c.requires.standing.tree c.large_entry-index.ensures.entry
        (c.after-made.ensures ∙ ap (λ k. c.large_entry-index.result.large.frame + k) c.from.ensures)
        c.large_entry-index.ensures.place.below c.clear_frame.ensures c.fill_table.ensures.filled.size
        (rw c.bits.ensures at c.fill_table.ensures.filled.entries) c.fill_table.ensures.filled.others
        (c.set_word.ensures ∙ ap (set c.fill_table.new.frames
        (512 * c.large_entry-index.result.table + c.large_entry-index.result.index)) (c.bits-2.ensures ∙ c.to_table.ensures))
        c.after.ensures (ap (λ k. 511 - k) c.from-2.ensures)
        c.free_frames.ensures.flags c.free_frames.ensures.given c.free_frames.ensures.kept c.free_frames.ensures.count;
    cut = steps_cut c.args.frames.now c.clear_frame.new.self c.fill_table.new.frames c.set_word.new.self c.args.pool.now
        c.free_frames.new.pool c.args.root c.args.page c.args.keep
        c.large_entry-index.result.table c.large_entry-index.result.index c.after-made.result c.after.result
        (511 - c.from-2.result) (mapped_place c.large_entry-index.result.large)
        c.requires.some c.requires.part c.large_entry-index.ensures.bounded c.requires.standing.tree c.large_entry-index.ensures.entry
        (c.after-made.ensures ∙ ap (λ k. c.large_entry-index.result.large.frame + k) c.from.ensures)
        c.large_entry-index.ensures.place.below c.clear_frame.ensures c.fill_table.ensures.filled.size
        (rw c.bits.ensures at c.fill_table.ensures.filled.entries) c.fill_table.ensures.filled.others
        (c.set_word.ensures ∙ ap (set c.fill_table.new.frames
        (512 * c.large_entry-index.result.table + c.large_entry-index.result.index)) (c.bits-2.ensures ∙ c.to_table.ensures))
        c.after.ensures (ap (λ k. 511 - k) c.from-2.ensures)
        c.free_frames.ensures.flags c.free_frames.ensures.given c.free_frames.ensures.kept c.free_frames.ensures.count;
    known = steps_known c.args.frames.now c.clear_frame.new.self c.fill_table.new.frames c.set_word.new.self c.args.pool.now
        c.free_frames.new.pool c.args.root c.args.page c.args.keep
        c.large_entry-index.result.table c.large_entry-index.result.index c.after-made.result c.after.result
        (511 - c.from-2.result) (mapped_place c.large_entry-index.result.large)
        c.requires.some c.requires.part c.large_entry-index.ensures.bounded c.requires.standing.tree c.large_entry-index.ensures.entry
        (c.after-made.ensures ∙ ap (λ k. c.large_entry-index.result.large.frame + k) c.from.ensures)
        c.large_entry-index.ensures.place.below c.clear_frame.ensures c.fill_table.ensures.filled.size
        (rw c.bits.ensures at c.fill_table.ensures.filled.entries) c.fill_table.ensures.filled.others
        (c.set_word.ensures ∙ ap (set c.fill_table.new.frames
        (512 * c.large_entry-index.result.table + c.large_entry-index.result.index)) (c.bits-2.ensures ∙ c.to_table.ensures))
        c.after.ensures (ap (λ k. 511 - k) c.from-2.ensures)
        c.free_frames.ensures.flags c.free_frames.ensures.given c.free_frames.ensures.kept c.free_frames.ensures.count;
    elsewhere = λ other canonical ne.
        steps_elsewhere c.args.frames.now c.clear_frame.new.self c.fill_table.new.frames c.set_word.new.self c.args.pool.now
        c.free_frames.new.pool c.args.root c.args.page c.args.keep
        c.large_entry-index.result.table c.large_entry-index.result.index c.after-made.result c.after.result
        (511 - c.from-2.result) (mapped_place c.large_entry-index.result.large)
        c.requires.some c.requires.part c.large_entry-index.ensures.bounded c.requires.standing.tree c.large_entry-index.ensures.entry
        (c.after-made.ensures ∙ ap (λ k. c.large_entry-index.result.large.frame + k) c.from.ensures)
        c.large_entry-index.ensures.place.below c.clear_frame.ensures c.fill_table.ensures.filled.size
        (rw c.bits.ensures at c.fill_table.ensures.filled.entries) c.fill_table.ensures.filled.others
        (c.set_word.ensures ∙ ap (set c.fill_table.new.frames
        (512 * c.large_entry-index.result.table + c.large_entry-index.result.index)) (c.bits-2.ensures ∙ c.to_table.ensures))
        c.after.ensures (ap (λ k. 511 - k) c.from-2.ensures)
        c.free_frames.ensures.flags c.free_frames.ensures.given c.free_frames.ensures.kept c.free_frames.ensures.count
        other (λ e. ne (same_slot other c.args.page canonical c.large_entry-index.ensures.canonical e));
  };
}
