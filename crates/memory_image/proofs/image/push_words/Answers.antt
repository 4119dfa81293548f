use Rattle.std.proofs.Common.{◌≡◌, ◌+◌, ◌*◌, ◌<◌, ℕ, List, [], ◌++◌, drop, get_or, length, string_bytes, append_assoc, ap, sym, ◌∙◌, arith}
use Rattle.std.proofs.lemmas.List.{append-nil, at_drop_more}
use Rattle.std.proofs.Math.ListN.{drop_of_length-le}
use Rattle.memory_image.specs.Image.{word_line, word_lines}
use Rattle.memory_image.proofs.image.push_words.Goals as goal

pub loop-number-preserved : goal.loop-number-preserved
loop-number-preserved c =
    let n = c.loop-number.number in
    let frames = c.args.frames.now in
    let out = string_bytes c.loop-number.out in
    let some : n < length frames = omega (arith, c.loop-number-test.true, c.count.ensures.size) in
    let rest = word_lines (n + 1) (drop (n + 1) frames) in
    ap (λ (l : List ℕ). l ++ rest) (c.in_ok-push_word.ensures ∙ ap (λ (word : ℕ). out ++ word_line (8 * n) word) c.word_of.ensures)
    ∙ append_assoc out (word_line (8 * n) (get_or frames n 0)) rest
    ∙ ap (λ (l : List ℕ). out ++ l) (sym (at_drop_more (word_lines n) frames n 0 some))
    ∙ c.loop-number.invariant

pub returns : goal.returns
returns c =
    let n = c.loop-number.number in
    let frames = c.args.frames.now in
    let out = string_bytes c.loop-number.out in
    let none : drop n frames ≡ [] = drop_of_length-le frames (omega (arith, c.loop-number-test.false, c.count.ensures.size)) in
    sym (ap (λ (l : List ℕ). out ++ word_lines n l) none ∙ append-nil out) ∙ c.loop-number.invariant
