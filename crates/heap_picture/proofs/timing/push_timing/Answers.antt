use Rattle.std.proofs.Common.{◌++◌, codes, string_bytes}
use Rattle.std.proofs.lemmas.Result.{on_ok_weaker}
use Rattle.heap_picture.specs.Style.{style}
use Rattle.heap_picture.proofs.Pictures.{pushed, timing_whole}
use Rattle.heap_picture.proofs.timing.push_timing.Goals as goal

pub returns : goal.returns
returns c = on_ok_weaker c.push_str.result (λ last.
    timing_whole style c.args.history.now c.time_height.result (string_bytes c.args.out.now)
    (string_bytes c.push_head.new.out) (string_bytes c.push_time.new.out) (string_bytes c.push_str.new.self)
    c.time_height.ensures c.in_ok-push_head.ensures c.in_ok-push_time.ensures last)
    (pushed c.push_str.result (string_bytes c.push_str.new.self) (string_bytes c.push_time.new.out ++ codes "</svg>\n")
    (string_bytes c.push_time.new.out) c.push_str.ensures.bytes)
