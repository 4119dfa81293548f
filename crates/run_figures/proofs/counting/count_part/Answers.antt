use Rattle.std.proofs.Common.{◌<◌, ◌≤◌, length, get_or, ◌∙◌, arith}
use Rattle.dlmalloc_chunks.specs.declared.extent.Extent.{Extent}
use Rattle.dlmalloc_chunks.specs.declared.extent.Kind.TheVariants.{Used}
use Rattle.run_figures.specs.Figures.{is_part}
use Rattle.run_figures.proofs.Places.{next_at}
use Rattle.run_figures.proofs.Sums.{number_step, bytes_step, one_at_most, size_at_most}
use Rattle.run_figures.proofs.counting.count_part.Goals as goal

pub loop-extent-preserved : goal.loop-extent-preserved
loop-extent-preserved c =
    let extents = c.args.extents.now in
    let i = c.loop-extent.extent-index in
    let h = c.loop-extent.invariant in
    let within : i < length extents = c.loop-extent-test.true in
    let least : c.part_number-number.result ≤ 1 = one_at_most _ c.part_number-number.result c.part_number-number.ensures in
    let size : c.part_size.result ≤ (get_or extents i (record { at = 0; size = 0; kind = Used })).size =
    size_at_most (is_part c.args.part (get_or extents i (record { at = 0; size = 0; kind = Used })).kind)
    (get_or extents i (record { at = 0; size = 0; kind = Used })).size c.part_size.result c.part_size.ensures.size in
    record {
      number = number_step c.args.part extents i _ c.loop-extent.number c.part_number-number.result within h.number c.part_number-number.ensures;
      bytes = bytes_step c.args.part extents i _ c.loop-extent.bytes c.from-bytes.result within h.bytes (c.from-bytes.ensures ∙ c.part_size.ensures.size);
      less = omega (arith, least, h.less);
      below = λ d more. let first : Extent = record { at = 0; size = 0; kind = Used } in let next =
          next_at extents i first d c.requires more in let before = h.below first within in
          omega (arith, next, before, size, c.from-bytes.ensures);
      few = let before = h.below (record { at = 0; size = 0; kind = Used }) within in
          omega (arith, before, c.part_size.ensures.place, c.part_size.type_inv, c.from-bytes.ensures);
    }
