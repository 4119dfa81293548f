use Rattle.std.proofs.Common.{◌≡◌, ◌+◌, ◌-◌, ◌/◌, ◌%◌, Some, get_or, ap, ◌∙◌, inl, inr, arith}
use Rattle.paging_core.specs.Memory.{byte_of}
use Rattle.paging_core.proofs.PageWritten.{page_kept, run_elsewhere, run_bytes, run_others}
use Rattle.mapped_regions.specs.Shown.{paged_view}
use Rattle.mapped_regions.proofs.MetSlots.{met_stay, frame_at, put_at, page_canonical}
use Rattle.mapped_regions.proofs.Mapped.{stored_mapped}
use Rattle.mapped_regions.proofs.regions.MappedRegions.set_words.Goals as goal

pub returns-clause-kept : goal.returns-clause-kept
returns-clause-kept c =
    let old = c.args.self.now.frames in
    let new = c.write_words.new.self in
    let root = c.args.self.now.root in
    let f = frame_at old root c.args.at c.new.result c.containing_address-page.result c.meet-frame.result
    c.containing_address-page.ensures c.new.ensures c.meet-frame.ensures.frame in
    let put = put_at old new root c.args.at c.word_index.result c.meet-frame.result c.args.words.now f c.word_index.ensures.index
    c.write_words.ensures in
    page_kept old new root (c.args.at / 4096) f.place f.found put.size
    (λ free. run_elsewhere old new root (c.args.at / 4096) (c.args.at % 4096 / 8) c.args.words.now f.place free f.found c.requires.fits put)

pub invariant_of-self : goal.invariant_of-self
invariant_of-self c =
    let old = c.args.self.now.frames in
    let new = c.write_words.new.self in
    let root = c.args.self.now.root in
    let f = frame_at old root c.args.at c.new.result c.containing_address-page.result c.meet-frame.result
    c.containing_address-page.ensures c.new.ensures c.meet-frame.ensures.frame in
    let put = put_at old new root c.args.at c.word_index.result c.meet-frame.result c.args.words.now f c.word_index.ensures.index
    c.write_words.ensures in
    let kept = page_kept old new root (c.args.at / 4096) f.place f.found put.size
    (λ free. run_elsewhere old new root (c.args.at / 4096) (c.args.at % 4096 / 8) c.args.words.now f.place free f.found c.requires.fits put) in
    let free = c.args.self.now.pool in
    let tree = c.args.self.now.mapped.tree in
    record {
      met = met_stay old new root c.meet-frame.new.self (λ l number met le is. kept.walks free tree l number le ∙ is)
          (λ number large is. kept.larges free tree number ∙ is) c.meet-frame.ensures.met;
      mapped = stored_mapped (paged_view c.args.self.now) new c.args.self.now.mapped put.size (kept.tree free tree) (kept.walks free tree)
          (kept.larges free tree);
    }

pub returns-clause-bytes : goal.returns-clause-bytes
returns-clause-bytes c = λ free tree k less.
    let f = frame_at c.args.self.now.frames c.args.self.now.root c.args.at c.new.result c.containing_address-page.result
    c.meet-frame.result c.containing_address-page.ensures c.new.ensures c.meet-frame.ensures.frame in
    let put = put_at c.args.self.now.frames c.write_words.new.self c.args.self.now.root c.args.at c.word_index.result
    c.meet-frame.result c.args.words.now f c.word_index.ensures.index c.write_words.ensures in
    let aligned = c.requires.word.aligned in
    let fits = c.requires.fits in
    let page : (c.args.at + k) / 4096 ≡ c.args.at / 4096 = omega arith in
    let place : (c.args.at + k) % 4096 / 8 - c.args.at % 4096 / 8 ≡ k / 8 = omega arith in
    let byte : (c.args.at + k) % 8 ≡ k % 8 = omega arith in
    run_bytes c.args.self.now.frames c.write_words.new.self c.args.self.now.root (c.args.at / 4096) (c.args.at % 4096 / 8)
    c.args.words.now f.place free f.found c.requires.fits put tree (c.args.at + k) page (omega arith) (omega arith)
    ∙ (ap (λ i. Some (byte_of (get_or c.args.words.now i 0) ((c.args.at + k) % 8))) place ∙ ap (λ b. Some (byte_of (get_or c.args.words.now (k / 8) 0) b)) byte)

pub returns-clause-other_bytes : goal.returns-clause-other_bytes
returns-clause-other_bytes c = λ free tree other canonical beside.
    let f = frame_at c.args.self.now.frames c.args.self.now.root c.args.at c.new.result c.containing_address-page.result
    c.meet-frame.result c.containing_address-page.ensures c.new.ensures c.meet-frame.ensures.frame in
    let put = put_at c.args.self.now.frames c.write_words.new.self c.args.self.now.root c.args.at c.word_index.result
    c.meet-frame.result c.args.words.now f c.word_index.ensures.index c.write_words.ensures in
    let aligned = c.requires.word.aligned in
    run_others c.args.self.now.frames c.write_words.new.self c.args.self.now.root (c.args.at / 4096) (c.args.at % 4096 / 8)
    c.args.words.now f.place free f.found c.requires.fits put tree (page_canonical c.args.at c.requires.word.canonical)
    other canonical
    (λ page from to. elim beside [ inl before ↦ absurd (omega arith) | inr behind ↦ absurd (omega arith) ])
