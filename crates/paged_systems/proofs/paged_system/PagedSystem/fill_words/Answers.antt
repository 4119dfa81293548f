use Rattle.std.proofs.Common.{◌≡◌, ◌+◌, ◌*◌, length, take, replicate, ◌∙◌, sym, subst, arith}
use Rattle.std.proofs.lemmas.List.{length-take-le, length-replicate, get_or-take, get_or-replicate}
use Rattle.heap_memory.specs.Words.{AreFilled}
use Rattle.mapped_regions.specs.Mapped.{word_reached}
use Rattle.paged_systems.specs.System.{paged}
use Rattle.paged_systems.specs.Words.{grants_of}
use Rattle.paged_systems.specs.Follows.{still_on}
use Rattle.paged_systems.specs.Written.{AreInPage}
use Rattle.paged_systems.proofs.StillRuns.{in_page}
use Rattle.paged_systems.proofs.WordRuns.{filled_on, put_since}
use Rattle.paged_systems.proofs.paged_system.PagedSystem.fill_words.Goals as goal

pub loop-done-preserved : goal.loop-done-preserved
loop-done-preserved c =
    let old = paged c.args.self.now in
    let mid = paged c.loop-done.self in
    let new = paged c.set_words.new.self in
    let n = c.run_of-run.result in
    let few = c.run_of-run.ensures.few in
    let short = c.run_of-run.ensures.short in
    let less = c.loop-done-test.true in
    let run = take n (replicate 64 c.args.value) in
    let len : length run ≡ n = length-take-le n (replicate 64 c.args.value) (omega (arith, short, length-replicate 64 c.args.value)) in (
      still_on old mid new c.loop-done.invariant.0 c.set_words.ensures.still,
      subst (λ m. AreFilled (grants_of old) (word_reached old) c.args.at (c.loop-done.done + m) c.args.value (word_reached new)) len
          (filled_on (grants_of old) (word_reached old) (word_reached mid) (word_reached new) c.args.at c.args.count
          c.loop-done.done c.args.value run c.requires (omega (arith, few, less, len))
          (put_since old mid (word_reached mid) (c.args.at + 8 * c.loop-done.done) run (word_reached new) c.loop-done.invariant.0 c.set_words.ensures.put)
          (λ k k_less. get_or-take n (replicate 64 c.args.value) k 0 (omega (arith, k_less, len))
          ∙ get_or-replicate 64 k c.args.value 0 (omega (arith, k_less, len, short)))
          c.loop-done.invariant.1),
      omega (arith, few, less),
    )

pub set_words-requires : goal.set_words-requires
set_words-requires c =
    let n = c.run_of-run.result in
    let few = c.run_of-run.ensures.few in
    let short = c.run_of-run.ensures.short in
    let less = c.loop-done-test.true in
    subst (AreInPage (paged c.loop-done.self) (c.args.at + 8 * c.loop-done.done))
    (sym (length-take-le n (replicate 64 c.args.value) (omega (arith, short, length-replicate 64 c.args.value))))
    (in_page (paged c.args.self.now) (paged c.loop-done.self) c.args.at c.args.count c.loop-done.done n
    c.loop-done.invariant.0 c.requires (omega (arith, few, less)) (c.run_of-run.ensures.some (omega (arith, less)))
    c.run_of-run.ensures.page)
