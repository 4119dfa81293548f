use Rattle.std.proofs.Common.{◌≡◌, ◌∙◌, ℕ, ◌+◌, ◌-◌, ◌/◌, ◌%◌, ap, sym, subst, Some, get_or, arith}
use Rattle.paging_core.specs.Memory.{word_at, byte_of, AreFrameWords}
use Rattle.paging_core.specs.Walk.{walk_of}
use Rattle.paging_core.proofs.PageWritten.{reached_at}
use Rattle.paging_core.proofs.access.load_words.Goals as goal

pub returns-clause-words : goal.returns-clause-words
returns-clause-words c =
    let P : ℕ → Type 0 = λ f. AreFrameWords c.args.frames.now f c.args.index c.read_words.new.words in
    rw c.frame_of_page-frame.ensures.place.found (subst P (sym c.frame_of_page-frame.ensures.place.to_frame) c.read_words.ensures.read)

pub returns-clause-bytes : goal.returns-clause-bytes
returns-clause-bytes c = λ address at lo hi.
    let e = c.frame_of_page-frame.ensures.place in
    let P : ℕ → Type 0 = λ f. AreFrameWords c.args.frames.now f c.args.index c.read_words.new.words in
    let g = subst P (sym e.to_frame) c.read_words.ensures.read in
    let z : c.args.index + (address % 4096 / 8 - c.args.index) ≡ address % 4096 / 8 = omega arith in
    let w : get_or c.read_words.new.words (address % 4096 / 8 - c.args.index) 0 ≡ word_at c.args.frames.now e.place.frame (address % 4096 / 8) =
    g.read (address % 4096 / 8 - c.args.index) (omega arith) ∙ ap (word_at c.args.frames.now e.place.frame) z in
    reached_at c.args.frames.now c.args.root address e.place (ap (walk_of c.args.frames.now c.args.root) at ∙ e.found)
    ∙ ap (λ v. Some (byte_of v (address % 8))) (sym w)
