use Rattle.std.proofs.Common.{ℕ, sym, subst}
use Rattle.paging_core.specs.Memory.{AreWordsWritten}
use Rattle.paging_core.proofs.PageWritten.{page_kept, run_elsewhere, run_bytes, run_others}
use Rattle.paging_core.proofs.access.store_words.Goals as goal

put : (c : goal.After-write_words) → AreWordsWritten c.args.frames.now c.write_words.new.self
    c.frame_of_page-frame.ensures.place.place.frame c.args.index c.args.words.now
put c =
    let P : ℕ → Type 0 = λ f. AreWordsWritten c.args.frames.now c.write_words.new.self f c.args.index c.args.words.now in
    subst P (sym c.frame_of_page-frame.ensures.place.to_frame) c.write_words.ensures

pub returns-clause-words : goal.returns-clause-words
returns-clause-words c = rw c.frame_of_page-frame.ensures.place.found (put c)

pub returns-clause-kept : goal.returns-clause-kept
returns-clause-kept c =
    let old = c.args.frames.now in
    let new = c.write_words.new.self in
    let e = c.frame_of_page-frame.ensures.place in
    page_kept old new c.args.root c.args.page e.place e.found c.write_words.ensures.size
    (λ free. run_elsewhere old new c.args.root c.args.page c.args.index c.args.words.now e.place free e.found c.requires.fits (put c))

pub returns-clause-bytes : goal.returns-clause-bytes
returns-clause-bytes c = λ free tree.
    let e = c.frame_of_page-frame.ensures.place in
    run_bytes c.args.frames.now c.write_words.new.self c.args.root c.args.page c.args.index c.args.words.now e.place free e.found c.requires.fits (put c) tree

pub returns-clause-others : goal.returns-clause-others
returns-clause-others c = λ free tree.
    let e = c.frame_of_page-frame.ensures.place in
    run_others c.args.frames.now c.write_words.new.self c.args.root c.args.page c.args.index c.args.words.now e.place free e.found c.requires.fits (put c) tree
    c.frame_of_page-frame.ensures.canonical
