-- The parts of a drawing of page tables, one behind the other.
use Rattle.std.proofs.Common.{◌≡◌, ℕ, List, ◌++◌, length, codes, ◌∙◌, ap, append_assoc}
use Rattle.paging_core.specs.Memory.{frame_count}
use Rattle.machine_model.specs.Machine.{Paged}
use Rattle.heap_tables.specs.declared.lines.Line.{Line}
use Rattle.heap_tables.specs.Tables.{tables_text, tables_height}
use Rattle.heap_picture.specs.Owners.{lines_in}
use Rattle.heap_picture.specs.Picture.{head_text}
use Rattle.heap_picture.specs.Tables.{drawing_of}

pub drawing_whole : (style : List ℕ) (p : Paged) (words : List ℕ) (height count : ℕ) (lines : List Line)
    (old one two new : List ℕ) → words ≡ p.words → lines ≡ lines_in p → count ≡ frame_count words →
    height ≡ tables_height (length lines) → one ≡ old ++ head_text style height → two ≡ one ++ tables_text lines count →
    new ≡ two ++ codes "</svg>\n" → new ≡ old ++ drawing_of style p
unfolding drawing_of
drawing_whole style p words height count lines old one two new words_are lines_are count_is height_is first second last =
    let end = codes "</svg>\n" in
    let head = head_text style height in
    let tables = tables_text lines count in
    last
    ∙ ap (λ (t : List ℕ). t ++ end) (second ∙ ap (λ (t : List ℕ). t ++ tables) first)
    ∙ append_assoc (old ++ head) tables end
    ∙ append_assoc old head (tables ++ end)
    ∙ ap (λ (n : ℕ). old ++ (head_text style n ++ (tables ++ end))) height_is
    ∙ ap (λ (ls : List Line). old ++ (head_text style (tables_height (length ls)) ++ (tables_text ls count ++ end))) lines_are
    ∙ ap (λ (n : ℕ). old ++ (head_text style (tables_height (length (lines_in p))) ++ (tables_text (lines_in p) n ++ end)))
    (count_is ∙ ap frame_count words_are)
