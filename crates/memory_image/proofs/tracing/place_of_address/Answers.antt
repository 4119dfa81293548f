use Rattle.std.proofs.Common.{◌/◌, ◌<◌, ℕ, List, sym, ◌∙◌, ap, subst, rules}
use Rattle.paging_core.specs.Memory.{frame_count}
use Rattle.paging_core.specs.Walk.{walk_of}
use Rattle.paged_systems.specs.System.{paged}
use Rattle.memory_image.proofs.Walked.{walked_none, walked_some}
use Rattle.memory_image.proofs.tracing.place_of_address.Goals as goal

-- the frame of the root exists
pub walk-requires : goal.walk-requires
walk-requires c =
    let p = paged c.args.system.now in
    subst (λ (words : List ℕ). c.root.result < frame_count words) (sym c.frames.ensures)
    (subst (λ (root : ℕ). root < frame_count p.words) (sym c.root.ensures) c.args.system.now.kept.mapped.root_in)

pub returns-in_default : goal.returns-in_default
returns-in_default c =
    let p = paged c.args.system.now in
    let at = c.args.address in
    let walked = c.walk.ensures.found ∙ ap (λ (words : List ℕ). walk_of words c.root.result c.containing_address-page.result) c.frames.ensures
    ∙ ap (λ (root : ℕ). walk_of p.words root c.containing_address-page.result) c.root.ensures ∙ ap (walk_of p.words p.root) c.containing_address-page.ensures in
    walked_none c.walk.result (walk_of p.words p.root (at / 4096)) at walked c.in_default.is

pub returns : goal.returns
returns c =
    let p = paged c.args.system.now in
    let at = c.args.address in
    let walked = c.walk.ensures.found ∙ ap (λ (words : List ℕ). walk_of words c.root.result c.containing_address-page.result) c.frames.ensures
    ∙ ap (λ (root : ℕ). walk_of p.words root c.containing_address-page.result) c.root.ensures ∙ ap (walk_of p.words p.root) c.containing_address-page.ensures in
    walked_some c.walk.result c.in-Some.mapped (walk_of p.words p.root (at / 4096)) at _ walked c.in-Some.is (search rules)
