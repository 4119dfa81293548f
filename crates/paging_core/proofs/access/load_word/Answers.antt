use Rattle.std.proofs.Common.{◌≡◌, ◌∙◌, ◌/◌, sym, ap, Some}
use Rattle.std.specs.Option.{option_map}
use Rattle.paging_core.specs.Memory.{word_at, byte_of}
use Rattle.paging_core.specs.Walk.{walk_of, mapped_place}
use Rattle.paging_core.proofs.Reached.{reached_word, not_mapped}
use Rattle.paging_core.proofs.access.load_word.Goals as goal

pub unreachable-requires : goal.unreachable-requires
unreachable-requires c =
    not_mapped c.args.frames.now c.args.root (c.args.address / 4096) c.requires.page.mapped
    (ap (walk_of c.args.frames.now c.args.root) (sym c.containing_address.ensures) ∙ (sym c.walk.ensures.found ∙ ap (option_map mapped_place) c.in_default.is))

pub returns-clause-word : goal.returns-clause-word
returns-clause-word c =
    let at : walk_of c.args.frames.now c.args.root (c.args.address / 4096) ≡ Some (mapped_place c.in-Some.page) =
    ap (walk_of c.args.frames.now c.args.root) (sym c.containing_address.ensures) ∙ sym c.in-Some.ensures.found in
    rw at (c.word.ensures ∙ ap (word_at c.args.frames.now c.in-Some.page.frame) c.word_index.ensures.value)

pub returns-clause-bytes : goal.returns-clause-bytes
returns-clause-bytes c = λ k lt.
    let at : walk_of c.args.frames.now c.args.root (c.args.address / 4096) ≡ Some (mapped_place c.in-Some.page) =
    ap (walk_of c.args.frames.now c.args.root) (sym c.containing_address.ensures) ∙ sym c.in-Some.ensures.found in
    reached_word c.args.frames.now c.args.root c.args.address k (mapped_place c.in-Some.page) c.requires.aligned lt at
    ∙ ap (λ w. Some (byte_of w k)) (sym (c.word.ensures ∙ ap (word_at c.args.frames.now c.in-Some.page.frame) c.word_index.ensures.value))
