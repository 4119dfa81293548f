use Rattle.std.proofs.Common.{◌++◌, ◌∙◌, codes, string_bytes}
use Rattle.std.proofs.lemmas.Result.{on_ok_weaker}
use Rattle.heap_picture.specs.Style.{style}
use Rattle.heap_picture.proofs.Pictures.{pushed, picture_whole}
use Rattle.heap_picture.proofs.picture.push_drawn.Goals as goal

pub returns : goal.returns
returns c = on_ok_weaker c.push_str.result (λ last. λ s at.
    picture_whole style s c.args.live c.args.peak c.args.extents.now c.args.history.now c.from.result
    (string_bytes c.args.out.now) (string_bytes c.push_head.new.out) (string_bytes c.push_named_map.new.out)
    (string_bytes c.push_regions.new.out) (string_bytes c.push_str.new.self) (c.from.ensures ∙ c.in_ok-lines.ensures)
    c.in_ok-push_head.ensures c.in_ok-push_named_map.ensures (c.in_ok-push_regions.ensures s at) last)
    (pushed c.push_str.result (string_bytes c.push_str.new.self) (string_bytes c.push_regions.new.out ++ codes "</svg>\n")
    (string_bytes c.push_regions.new.out) c.push_str.ensures.bytes)
