use Rattle.std.proofs.Common.{ℕ, sym, subst}
use Rattle.paging_core.specs.Memory.{IsFrameCopied}
use Rattle.paging_core.proofs.PageWritten.{page_kept, copy_bytes, copy_others}
use Rattle.paging_core.proofs.access.copy_page.Goals as goal

copied : (c : goal.After-copy_frame) →
    IsFrameCopied c.args.frames.now c.copy_frame.new.self c.frame_of_page-source.ensures.place.place.frame c.frame_of_page-target.ensures.place.place.frame
copied c =
    let e = c.frame_of_page-source.ensures.place in
    let t = c.frame_of_page-target.ensures.place in
    let P : ℕ → Type 0 = λ f. IsFrameCopied c.args.frames.now c.copy_frame.new.self f c.frame_of_page-target.result in
    let Q : ℕ → Type 0 = λ f. IsFrameCopied c.args.frames.now c.copy_frame.new.self e.place.frame f in
    subst Q (sym t.to_frame) (subst P (sym e.to_frame) c.copy_frame.ensures)

pub returns-clause-words : goal.returns-clause-words
returns-clause-words c = rw (c.frame_of_page-source.ensures.place.found, c.frame_of_page-target.ensures.place.found) (copied c)

pub returns-clause-kept : goal.returns-clause-kept
returns-clause-kept c =
    let e = c.frame_of_page-target.ensures.place in
    page_kept c.args.frames.now c.copy_frame.new.self c.args.root c.args.to e.place e.found (copied c).size (λ _ _. (copied c).others)

pub returns-clause-bytes : goal.returns-clause-bytes
returns-clause-bytes c = λ free tree.
    copy_bytes c.args.frames.now c.copy_frame.new.self c.args.root c.args.from c.args.to
    c.frame_of_page-source.ensures.place.place c.frame_of_page-target.ensures.place.place free
    c.frame_of_page-source.ensures.place.found c.frame_of_page-target.ensures.place.found (copied c) tree

pub returns-clause-others : goal.returns-clause-others
returns-clause-others c = λ free tree.
    copy_others c.args.frames.now c.copy_frame.new.self c.args.root c.args.from c.args.to
    c.frame_of_page-source.ensures.place.place c.frame_of_page-target.ensures.place.place free
    c.frame_of_page-source.ensures.place.found c.frame_of_page-target.ensures.place.found (copied c) tree c.frame_of_page-target.ensures.canonical
