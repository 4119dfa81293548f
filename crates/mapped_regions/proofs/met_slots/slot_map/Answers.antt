use Rattle.std.proofs.Common.{◌<◌, ◌∙◌, subst, sym}
use Rattle.paging_core.specs.Memory.{frame_count}
use Rattle.mapped_regions.proofs.MetSlots.{passed, third_named, second_named, names_table, names_large}
use Rattle.mapped_regions.proofs.met_slots.slot_map.Goals as goal

pub entry_at-requires-2 : goal.entry_at-requires-2
entry_at-requires-2 c =
    let w = passed c.args.frames.now c.args.root c.args.page c.requires.page.below c.requires.page.mapped in
    let third = third_named c.args.frames.now c.args.root c.args.page c.p4_index.result c.entry_at.result
    c.frame-third.result w c.p4_index.ensures c.entry_at.ensures c.frame-third.ensures in
    subst (λ f. f < frame_count c.args.frames.now) third w.third_below

pub entry_at-entry-requires : goal.entry_at-entry-requires
entry_at-entry-requires c =
    let w = passed c.args.frames.now c.args.root c.args.page c.requires.page.below c.requires.page.mapped in
    let third = third_named c.args.frames.now c.args.root c.args.page c.p4_index.result c.entry_at.result
    c.frame-third.result w c.p4_index.ensures c.entry_at.ensures c.frame-third.ensures in
    let second = second_named c.args.frames.now c.args.root c.args.page c.frame-third.result c.p3_index.result
    c.entry_at-2.result c.frame-second.result w third c.p3_index.ensures c.entry_at-2.ensures c.frame-second.ensures in
    subst (λ f. f < frame_count c.args.frames.now) second w.second_below

pub returns-then-is_huge : goal.returns-then-is_huge
returns-then-is_huge c =
    let w = passed c.args.frames.now c.args.root c.args.page c.requires.page.below c.requires.page.mapped in
    let third = third_named c.args.frames.now c.args.root c.args.page c.p4_index.result c.entry_at.result
    c.frame-third.result w c.p4_index.ensures c.entry_at.ensures c.frame-third.ensures in
    let second = second_named c.args.frames.now c.args.root c.args.page c.frame-third.result c.p3_index.result
    c.entry_at-2.result c.frame-second.result w third c.p3_index.ensures c.entry_at-2.ensures c.frame-second.ensures in
    names_large c.args.frames.now c.args.root c.args.page c.frame-second.result c.p2_index.result c.entry_at-entry.result
    c.frame.result w second c.p2_index.ensures c.entry_at-entry.ensures
    (sym c.is_huge.ensures ∙ c.if-is_huge.true) c.frame.ensures

pub returns-else-is_huge : goal.returns-else-is_huge
returns-else-is_huge c =
    let w = passed c.args.frames.now c.args.root c.args.page c.requires.page.below c.requires.page.mapped in
    let third = third_named c.args.frames.now c.args.root c.args.page c.p4_index.result c.entry_at.result
    c.frame-third.result w c.p4_index.ensures c.entry_at.ensures c.frame-third.ensures in
    let second = second_named c.args.frames.now c.args.root c.args.page c.frame-third.result c.p3_index.result
    c.entry_at-2.result c.frame-second.result w third c.p3_index.ensures c.entry_at-2.ensures c.frame-second.ensures in
    names_table c.args.frames.now c.args.root c.args.page c.frame-second.result c.p2_index.result c.entry_at-entry.result
    c.frame-else-is_huge.result w second c.p2_index.ensures c.entry_at-entry.ensures
    (sym c.is_huge.ensures ∙ c.if-is_huge.false) c.frame-else-is_huge.ensures
