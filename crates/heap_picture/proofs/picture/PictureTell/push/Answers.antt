use Rattle.std.proofs.Common.{◌++◌, ◌∙◌, ap, string_bytes}
use Rattle.std.proofs.lemmas.Result.{on_ok_weaker}
use Rattle.heap_history.specs.declared.history.History.{History}
use Rattle.heap_picture.specs.Picture.{map_document}
use Rattle.heap_picture.specs.Style.{style}
use Rattle.heap_picture.proofs.picture.PictureTell.push.Goals as goal

pub returns : goal.returns
returns c = on_ok_weaker c.push_drawn.result (λ put. λ s calls answers at kept.
    put s at ∙ ap (λ (h : History). string_bytes c.args.output.now ++ map_document style s c.args.live c.args.peak
    c.args.extents.now h) (c.in_ok-history.ensures.records calls answers kept)) c.push_drawn.ensures
