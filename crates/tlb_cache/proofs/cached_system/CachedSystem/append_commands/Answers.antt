use Rattle.std.proofs.Common.{◌≡◌, ℕ, ◌/◌, ◌+◌, ◌<◌, ◌*◌, Some, IfSome, refl, ap, ◌∙◌, subst}
use Rattle.std.proofs.lemmas.Result.{on_ok_weaker}
use Rattle.paging_core.specs.Steps.{position, page_at, half_pages}
use Rattle.x86_instructions.specs.Invlpgb.{Flush, limits_of, whole, commands_of}
use Rattle.x86_instructions.specs.Flushed.{FlushesRange}
use Rattle.tlb_cache.proofs.Flushed.{flushes_range}
use Rattle.tlb_cache.proofs.cached_system.CachedSystem.append_commands.Goals as goal

pub returns-in-Some-forward_checked-clause-covered : goal.returns-in-Some-forward_checked-clause-covered
returns-in-Some-forward_checked-clause-covered c =
    let cpu = c.args.self.now.cpu in
    let start = c.args.start in
    let pages = c.args.pages in
    let end = page_at 4096 (position 4096 (start / 4096) + pages) in
    let first : c.containing_address-first.result ≡ start / 4096 = c.containing_address-first.ensures ∙ ap (λ (address : ℕ). address / 4096) c.new-2.ensures in
    let next : position 4096 (start / 4096) + pages < 2 * half_pages 4096 =
    subst (λ (page : ℕ). position 4096 page + pages < 2 * half_pages 4096) first (c.in-Some-forward_checked.ensures.some.0 refl) in
    let last : c.in-Some-forward_checked.end ≡ end = c.in-Some-forward_checked.ensures.page
    ∙ ap (λ (page : ℕ). page_at 4096 (position 4096 page + pages)) first in
    let range : (c.range.result.start, c.range.result.end) ≡ (start / 4096, end) =
    ap (λ (page : ℕ). (page, c.range.result.end)) (c.range.ensures.start ∙ first) ∙ ap (λ (page : ℕ). (start / 4096, page)) (c.range.ensures.end ∙ last) in
    let flush : c.pages.result ≡ record (whole (limits_of cpu)) { pages = Some (start / 4096, end) } =
    c.pages.ensures
    ∙ (ap (λ (flush : Flush). record flush { pages = Some (c.range.result.start, c.range.result.end) })
    (c.build-flush.ensures ∙ ap whole c.in-Some.ensures.limits)
    ∙ ap (λ (range : ℕ × ℕ). record (whole (limits_of cpu)) { pages = Some range }) range) in
    let flushes = subst (λ (flush : Flush). IfSome flush.pages (λ range.
    FlushesRange 4096 flush.limits.count_max range (commands_of 4096 flush))) flush c.flush.ensures.pages in
    on_ok_weaker c.flush.result (λ _. flushes_range cpu.invlpgb_count_max cpu start pages c.requires next flushes) c.flush.ensures.ok
