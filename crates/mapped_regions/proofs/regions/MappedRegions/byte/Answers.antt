use Rattle.std.proofs.Common.{rules, ◌≡◌, ◌+◌, ◌/◌, ◌%◌, ◌<◌, ap, ◌∙◌, subst, sym, arith, slice_index, Some, IsSome}
use Rattle.paging_core.specs.Memory.{byte_of}
use Rattle.paging_core.specs.Walk.{walk_of, reached}
use Rattle.mapped_regions.specs.Shown.{paged_view}
use Rattle.mapped_regions.proofs.Looked.{mapped_at, word_canonical, le_byte}
use Rattle.mapped_regions.proofs.regions.MappedRegions.byte.Goals as goal

pub new-place-requires : goal.new-place-requires
new-place-requires c = word_canonical c.args.address c.requires.canonical

pub load_word-word-requires-clause-page : goal.load_word-word-requires-clause-page
load_word-word-requires-clause-page c = record {
  rooted = search rules;
  mapped = let at = c.new-place.ensures in
      let same : c.new-place.result / 4096 ≡ c.args.address / 4096 = omega arith in
      subst (λ page. IsSome (walk_of c.args.self.now.frames c.args.self.now.root page)) (sym same)
      (mapped_at (paged_view c.args.self.now) c.args.address c.args.self.now.mapped c.requires.canonical c.requires.there);
}

pub returns : goal.returns
returns c =
    let at = c.new-place.ensures in
    let less : c.args.address % 8 < 8 = omega arith in
    let same : c.new-place.result + c.args.address % 8 ≡ c.args.address = omega arith in
    let reach = subst (λ a. reached c.args.self.now.frames c.args.self.now.root a ≡ Some
    (byte_of c.load_word-word.result (c.args.address % 8))) same (c.load_word-word.ensures.bytes (c.args.address % 8)
    less) in
    reach ∙ ap (λ b. Some b) (sym (le_byte c.load_word-word.result (c.args.address % 8) less)
    ∙ ap (λ bytes. slice_index bytes (c.args.address % 8)) (sym c.to_le_bytes.ensures))
