use Rattle.std.proofs.Common.{◌≡◌, ◌∙◌, ◌+◌, ◌*◌, ◌/◌, ◌%◌, sym, ap, set, Some}
use Rattle.std.specs.Option.{option_map}
use Rattle.paging_core.specs.Walk.{walk_of, mapped_place}
use Rattle.paging_core.proofs.Reached.{not_mapped, word_kept, word_put}
use Rattle.paging_core.proofs.access.store_word.Goals as goal

pub unreachable-requires : goal.unreachable-requires
unreachable-requires c =
    not_mapped c.args.frames.now c.args.root (c.args.address / 4096) c.requires.page.mapped
    (ap (walk_of c.args.frames.now c.args.root) (sym c.containing_address.ensures) ∙ (sym c.walk.ensures.found ∙ ap (option_map mapped_place) c.in_default.is))

at : (c : goal.After-set_word) → walk_of c.args.frames.now c.args.root (c.args.address / 4096) ≡ Some (mapped_place c.in-Some.page)
at c = ap (walk_of c.args.frames.now c.args.root) (sym c.containing_address.ensures) ∙ sym c.in-Some.ensures.found

written : (c : goal.After-set_word) → c.set_word.new.self ≡ set c.args.frames.now (512 * c.in-Some.page.frame + c.args.address % 4096 / 8) c.args.value
written c = c.set_word.ensures ∙ ap (λ i. set c.args.frames.now (512 * c.in-Some.page.frame + i) c.args.value) c.word_index.ensures.value

pub returns-clause-word : goal.returns-clause-word
returns-clause-word c = rw (at c) (written c)

pub returns-clause-kept : goal.returns-clause-kept
returns-clause-kept c =
    word_kept c.args.frames.now c.set_word.new.self c.args.root c.args.address c.args.value (mapped_place c.in-Some.page)
    c.requires.page.rooted c.requires.aligned c.word_index.ensures.canonical (at c) (written c)

pub returns-clause-put : goal.returns-clause-put
returns-clause-put c =
    word_put c.args.frames.now c.set_word.new.self c.args.root c.args.address c.args.value (mapped_place c.in-Some.page)
    c.requires.page.rooted c.requires.aligned c.word_index.ensures.canonical (at c) (written c)
