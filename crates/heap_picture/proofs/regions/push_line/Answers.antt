use Rattle.std.proofs.Common.{string_bytes}
use Rattle.std.proofs.lemmas.Result.{on_ok_weaker}
use Rattle.heap_picture.proofs.Pictures.{line_whole}
use Rattle.heap_picture.proofs.regions.push_line.Goals as goal

pub returns : goal.returns
returns c = on_ok_weaker c.push_larges.result (λ last. λ s at.
    line_whole s.large c.args.y c.args.most c.args.line c.larges_in.result (string_bytes c.args.out.now)
    (string_bytes c.push_line_words.new.out) (string_bytes c.push_bar.new.out) (string_bytes c.push_larges.new.out)
    (c.larges_in.ensures.value s at) c.in_ok-push_line_words.ensures c.in_ok-push_bar.ensures last)
    c.push_larges.ensures
