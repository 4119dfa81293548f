use Rattle.std.proofs.Common.{◌∙◌, ap, string_bytes}
use Rattle.std.proofs.lemmas.Result.{on_ok_weaker}
use Rattle.heap_picture.specs.Lines.{region_lines}
use Rattle.heap_picture.proofs.Pictures.{regions_whole}
use Rattle.heap_picture.proofs.regions.push_regions.Goals as goal

pub returns : goal.returns
returns c = on_ok_weaker c.push_list.result (λ last. λ s at.
    regions_whole c.args.machine.now s c.args.y c.system-system.result.now c.in_ok-list.list c.deref.result.now
    c.free_frames.result c.tables.result (string_bytes c.args.out.now) (string_bytes c.push_heading.new.out)
    (string_bytes c.push_list.new.out)
    at c.system-system.ensures c.in_ok-list.ensures (c.deref.ensures.value ∙ c.in_ok-lines.ensures
    ∙ ap region_lines c.as_slice.ensures) c.free_frames.ensures c.tables.ensures c.in_ok-push_heading.ensures
    (last s at))
    c.push_list.ensures
