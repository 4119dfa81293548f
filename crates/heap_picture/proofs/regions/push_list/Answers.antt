use Rattle.std.proofs.Common.{◌-◌, refl, length, take, drop, length-drop, string_bytes, arith}
use Rattle.std.proofs.lemmas.Result.{on_ok_weaker}
use Rattle.std.proofs.lemmas.List.{take_all}
use Rattle.heap_picture.proofs.Pictures.{list_whole}
use Rattle.heap_picture.proofs.regions.push_list.Goals as goal

pub returns : goal.returns
returns c =
    let lines = c.args.lines.now in
    let shown = c.lines_shown-shown.result in
    let long = length-drop shown lines in
    on_ok_weaker c.push_more.result (λ last. λ s at.
    list_whole s.large c.args.y c.most_pages.result shown lines (take shown lines) (take (length lines - shown) (drop shown lines))
    (string_bytes c.args.out.now) (string_bytes c.push_lines.new.out) (string_bytes c.push_more.new.out)
    c.most_pages.ensures c.lines_shown-shown.ensures.value refl (take_all (length lines - shown) (drop shown lines)
    (omega (arith, long))) (c.in_ok-push_lines.ensures s at) last)
    c.push_more.ensures
