use Rattle.std.proofs.Common.{◌≡◌, ℕ, ◌+◌, ◌*◌, ◌++◌, length, take, drop, ◌∙◌, ap, sym, subst, arith}
use Rattle.std.proofs.lemmas.List.{length-take-le}
use Rattle.std.proofs.Math.Seq.{take-append_seam}
use Rattle.heap_memory.specs.Words.{AreCopied}
use Rattle.mapped_regions.specs.Mapped.{word_reached}
use Rattle.paged_systems.specs.System.{paged}
use Rattle.paged_systems.specs.Words.{grants_of}
use Rattle.paged_systems.specs.Written.{AreInPage, ArePut}
use Rattle.paged_systems.specs.Follows.{still_on}
use Rattle.paged_systems.proofs.StillRuns.{in_page}
use Rattle.paged_systems.proofs.WordRuns.{copied_on, put_since}
use Rattle.paged_systems.proofs.paged_system.PagedSystem.copy_words.Goals as goal

pub loop-done-preserved : goal.loop-done-preserved
loop-done-preserved c =
    let old = paged c.args.self.now in
    let mid = paged c.loop-done.self in
    let new = paged c.set_words.new.self in
    let n = c.run_of-run.result in
    let inner = c.run_of.ensures.few in
    let few = c.run_of-run.ensures.few in
    let short = c.run_of-run.ensures.short in
    let less = c.loop-done-test.true in
    let run = c.words.new.words in
    let len : length run ≡ n = c.words.ensures.length ∙ length-take-le n c.loop-done.words (omega (arith, short, c.run_of-run.array_long)) in
    let same : take n (run ++ drop n c.loop-done.words) ≡ run = subst (λ (j : ℕ).
    take j (run ++ drop n c.loop-done.words) ≡ run) len (take-append_seam run (drop n c.loop-done.words)) in (
      still_on old mid new c.loop-done.invariant.0 c.set_words.ensures.still,
      subst (λ m. AreCopied (grants_of old) (word_reached old) c.args.from c.args.to (c.loop-done.done + m) (word_reached new)) len
          (copied_on (grants_of old) (word_reached old) (word_reached mid) (word_reached new) c.args.from c.args.to
          c.args.count c.loop-done.done run c.requires.from c.requires.to c.requires.apart
          (omega (arith, inner, few, less, len)) c.words.ensures.loaded
          (put_since old mid (word_reached mid) (c.args.to + 8 * c.loop-done.done) run (word_reached new) c.loop-done.invariant.0
          (subst (λ r. ArePut (grants_of mid) (word_reached mid) (c.args.to + 8 * c.loop-done.done) r (word_reached new)) same c.set_words.ensures.put))
          c.loop-done.invariant.1),
      omega (arith, inner, few, less),
    )

pub words-requires : goal.words-requires
words-requires c =
    let n = c.run_of-run.result in
    let inner = c.run_of.ensures.few in
    let few = c.run_of-run.ensures.few in
    let short = c.run_of-run.ensures.short in
    let less = c.loop-done-test.true in
    let page = c.run_of.ensures.page in
    subst (AreInPage (paged c.loop-done.self) (c.args.from + 8 * c.loop-done.done))
    (sym (length-take-le n c.loop-done.words (omega (arith, short, c.run_of-run.array_long))))
    (in_page (paged c.args.self.now) (paged c.loop-done.self) c.args.from c.args.count c.loop-done.done n
    c.loop-done.invariant.0 c.requires.from (omega (arith, inner, few, less))
    (c.run_of-run.ensures.some (c.run_of.ensures.some (omega (arith, less)))) (omega (arith, page, few)))

pub set_words-requires : goal.set_words-requires
set_words-requires c =
    let n = c.run_of-run.result in
    let inner = c.run_of.ensures.few in
    let few = c.run_of-run.ensures.few in
    let short = c.run_of-run.ensures.short in
    let less = c.loop-done-test.true in
    let run = c.words.new.words in
    let len : length run ≡ n = c.words.ensures.length ∙ length-take-le n c.loop-done.words (omega (arith, short, c.run_of-run.array_long)) in
    let same : take n (run ++ drop n c.loop-done.words) ≡ run = subst (λ (j : ℕ).
    take j (run ++ drop n c.loop-done.words) ≡ run) len (take-append_seam run (drop n c.loop-done.words)) in
    subst (AreInPage (paged c.loop-done.self) (c.args.to + 8 * c.loop-done.done)) (sym (ap length same ∙ len))
    (in_page (paged c.args.self.now) (paged c.loop-done.self) c.args.to c.args.count c.loop-done.done n
    c.loop-done.invariant.0 c.requires.to (omega (arith, inner, few, less))
    (c.run_of-run.ensures.some (c.run_of.ensures.some (omega (arith, less)))) c.run_of-run.ensures.page)
