use Rattle.std.proofs.Common.{◌≡◌, ◌++◌, List, ◌∙◌, ap, codes, length, string_bytes}
use Rattle.std.proofs.lemmas.Result.{on_ok_weaker}
use Rattle.paged_systems.specs.System.{paged}
use Rattle.heap_tables.specs.Tables.{tables_text, tables_height}
use Rattle.heap_tables.specs.declared.lines.Line.{Line}
use Rattle.heap_picture.specs.Style.{style}
use Rattle.heap_picture.proofs.Drawing.{drawing_whole}
use Rattle.heap_picture.proofs.Pictures.{pushed}
use Rattle.heap_picture.proofs.tables.push_drawing.Goals as goal

pub returns : goal.returns
returns c =
    let n : c.len.result ≡ length c.in_ok-lines.lines.items = search in
    on_ok_weaker c.push_str.result (λ last.
    drawing_whole style (paged c.args.system.now) c.frames-frames.result.now c.tables_height.result c.count.result c.in_ok-lines.lines.items
    (string_bytes c.args.out.now) (string_bytes c.push_head.new.out) (string_bytes c.push_tables.new.out) (string_bytes c.push_str.new.self)
    c.frames-frames.ensures c.in_ok-lines.ensures c.count.ensures.count (c.tables_height.ensures.value ∙ ap tables_height n)
    c.in_ok-push_head.ensures (c.in_ok-push_tables.ensures ∙ ap (λ (ls : List Line).
    string_bytes c.push_head.new.out ++ tables_text ls c.count.result) c.deref.ensures.value) last)
    (pushed c.push_str.result (string_bytes c.push_str.new.self) (string_bytes c.push_tables.new.out ++ codes "</svg>\n")
    (string_bytes c.push_tables.new.out) c.push_str.ensures.bytes)
