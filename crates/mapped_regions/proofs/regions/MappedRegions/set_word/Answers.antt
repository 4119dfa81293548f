use Rattle.std.proofs.Common.{◌∙◌}
use Rattle.paging_core.proofs.Reached.{word_kept, word_put}
use Rattle.mapped_regions.specs.Shown.{paged_view}
use Rattle.mapped_regions.proofs.MetSlots.{met_stay, frame_at, set_at}
use Rattle.mapped_regions.proofs.Mapped.{stored_mapped}
use Rattle.mapped_regions.proofs.regions.MappedRegions.set_word.Goals as goal

pub returns-clause-kept : goal.returns-clause-kept
returns-clause-kept c =
    let old = c.args.self.now.frames in
    let new = c.set_word.new.self in
    let root = c.args.self.now.root in
    let f = frame_at old root c.args.at c.new.result c.containing_address-page.result c.frame_kept-frame.result
    c.containing_address-page.ensures c.new.ensures c.frame_kept-frame.ensures.frame in
    let put = set_at old new root c.args.at c.word_index.result c.frame_kept-frame.result c.args.value f c.word_index.ensures.index
    c.set_word.ensures in
    word_kept old new root c.args.at c.args.value f.place c.args.self.now.mapped.root_in c.requires.word.aligned
    c.requires.word.canonical f.found put

pub returns-clause-put : goal.returns-clause-put
returns-clause-put c =
    let old = c.args.self.now.frames in
    let new = c.set_word.new.self in
    let root = c.args.self.now.root in
    let f = frame_at old root c.args.at c.new.result c.containing_address-page.result c.frame_kept-frame.result
    c.containing_address-page.ensures c.new.ensures c.frame_kept-frame.ensures.frame in
    let put = set_at old new root c.args.at c.word_index.result c.frame_kept-frame.result c.args.value f c.word_index.ensures.index
    c.set_word.ensures in
    word_put old new root c.args.at c.args.value f.place c.args.self.now.mapped.root_in c.requires.word.aligned
    c.requires.word.canonical f.found put

pub invariant_of-self : goal.invariant_of-self
invariant_of-self c =
    let old = c.args.self.now.frames in
    let new = c.set_word.new.self in
    let root = c.args.self.now.root in
    let f = frame_at old root c.args.at c.new.result c.containing_address-page.result c.frame_kept-frame.result
    c.containing_address-page.ensures c.new.ensures c.frame_kept-frame.ensures.frame in
    let put = set_at old new root c.args.at c.word_index.result c.frame_kept-frame.result c.args.value f c.word_index.ensures.index
    c.set_word.ensures in
    let kept = word_kept old new root c.args.at c.args.value f.place c.args.self.now.mapped.root_in c.requires.word.aligned
    c.requires.word.canonical f.found put in
    let free = c.args.self.now.pool in
    let tree = c.args.self.now.mapped.tree in
    record {
      met = met_stay old new root c.frame_kept-frame.new.self (λ l number met le is. kept.walks free tree l number le ∙ is)
          (λ number large is. kept.larges free tree number ∙ is) c.frame_kept-frame.ensures.met;
      mapped = stored_mapped (paged_view c.args.self.now) new c.args.self.now.mapped kept.size (kept.tree free tree) (kept.walks free tree)
          (kept.larges free tree);
    }
