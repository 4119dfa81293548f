use Rattle.dlmalloc.proofs.Names.{◌≡◌, ℕ, ◌+◌, ◌&&◌, if◌then◌else◌, refl, sym, ◌∙◌, ap, subst, arith, max, may_leave, countdown_from, IsBinned, IsVisited, IsPassed, after_visit, IsReindexed}
use Rattle.dlmalloc.proofs.Returns.ReleasePass.{Passing, begun_passing, read_high, read_word, ahead, chained, sum_fits, count_fits, more_left, on_passing, passed_few, passed_all}
use Rattle.dlmalloc.proofs.Bins.Changes.{same_bins}
use Rattle.dlmalloc.proofs.heap.Dlmalloc.release_unused_segments.Goals.{then-release_segment, else-release_segment}
use Rattle.dlmalloc.proofs.heap.Dlmalloc.release_unused_segments.Goals as goal

pub loop-payload-init : goal.loop-payload-init
loop-payload-init g c = (begun_passing c.requires.intact.sound c.requires.there g.A.Links.follows_none, c.requires.intact.linked, omega arith)

pub record_at-told-requires : goal.record_at-told-requires
record_at-told-requires g c =
    let passing = c.loop-payload.invariant.0 in let more = c.loop-payload-test.true in let payload = c.loop-payload.payload in
    record {
      high = read_high c.requires.intact.sound passing more;
      base = read_word c.requires.intact.sound passing more payload (omega arith) (omega arith) refl;
      size = read_word c.requires.intact.sound passing more (payload + 8) (omega arith) (omega arith) (omega arith);
      next = read_word c.requires.intact.sound passing more (payload + 16) (omega arith) (omega arith) (omega arith);
      flags = read_word c.requires.intact.sound passing more (payload + 24) (omega arith) (omega arith) (omega arith);
    }

pub release_segment-requires : goal.release_segment-requires
release_segment-requires g c = record {
  intact = record { sound = c.loop-payload.invariant.0.left.sound; linked = c.loop-payload.invariant.1 };
  there = c.loop-payload.invariant.0.some;
  chained = chained c.requires.intact.sound c.loop-payload.invariant.0 c.loop-payload-test.true c.record_at-told.ensures.told;
}

pub overflow_add-released : goal.overflow_add-released
overflow_add-released g c = let fits = sum_fits c.requires.intact.sound c.loop-payload.invariant.0 c.loop-payload-test.true c.record_at-told.ensures.told in
    grind arith

pub overflow_add-visited : goal.overflow_add-visited
overflow_add-visited g c = let fits = count_fits c.requires.intact.sound c.loop-payload.invariant.0 c.loop-payload-test.true in grind arith

pub loop-payload-smaller : goal.loop-payload-smaller
loop-payload-smaller g c = let more = more_left c.requires.intact.sound c.loop-payload.invariant.0 c.loop-payload-test.true in omega arith

pub loop-payload-preserved : goal.loop-payload-preserved
loop-payload-preserved g c =
    let old = c.args.self.now in let now = c.loop-payload.self in
    let fixed = g.met.A.Allocator.fixed old.system now.system _ c.loop-payload.invariant.0.left.followed in
    let one = ahead c.requires.intact.sound c.loop-payload.invariant.0 c.loop-payload-test.true in
    let chain = chained c.requires.intact.sound c.loop-payload.invariant.0 c.loop-payload-test.true c.record_at-told.ensures.told in
    let answer : c.release_segment.result ≡ (g.A.Allocator.frees old.system && may_leave (g.A.Allocator.parts old.system) one.segment) =
    c.release_segment.ensures.answer chain ∙ (λ i. fixed.frees_same i && may_leave (fixed.parts_same i) one.segment) in
    let index : IsReindexed g.A.Links.regions g.A.Links.word (after_visit (g.A.Allocator.frees old.system)
    (g.A.Allocator.parts old.system) one.segment) now c.release_segment.new.self =
    subst (λ frees. IsReindexed g.A.Links.regions g.A.Links.word (after_visit frees (g.A.Allocator.parts old.system) one.segment) now
    c.release_segment.new.self) fixed.frees_same (subst (λ parts. IsReindexed g.A.Links.regions g.A.Links.word (after_visit
    (g.A.Allocator.frees now.system) parts one.segment) now c.release_segment.new.self) fixed.parts_same (c.release_segment.ensures.index chain)) in
    let visited = subst (λ parts. IsVisited g.A.Links.regions g.A.Links.word g.A.Links.follows (may_leave parts one.segment) c.release_segment.result now
    c.loop-payload.before c.record_at-told.result chain c.release_segment.new.self) fixed.parts_same (c.release_segment.ensures.visited chain) in
    let before : (if c.release_segment.result then c.loop-payload.before else c.loop-payload.payload) ≡ c.if-release_segment.before =
    elim c.if-release_segment.branch [
      | then-release_segment w ↦ ap (λ b. if b then c.loop-payload.before else c.loop-payload.payload) w.if-release_segment.true ∙ sym w.before-is
      | else-release_segment w ↦ ap (λ b. if b then c.loop-payload.before else c.loop-payload.payload) w.if-release_segment.false ∙ sym w.before-is
    ] in
    let now_released = c.loop-payload.released + c.record_at-told.result.size in
    let released : (if c.release_segment.result then now_released else c.loop-payload.released) ≡ c.if-release_segment.released =
    elim c.if-release_segment.branch [
      | then-release_segment w ↦ ap (λ b. if b then now_released else c.loop-payload.released) w.if-release_segment.true ∙ sym w.released-is
      | else-release_segment w ↦ ap (λ b. if b then now_released else c.loop-payload.released) w.if-release_segment.false ∙ sym w.released-is
    ] in
    let passing : ℕ → ℕ → Type 0 = λ before released. Passing g.A.Links.regions g.A.Links.word g.A.Links.follows (g.A.Allocator.frees old.system)
    (g.A.Allocator.parts old.system) old before c.record_at-told.result.next (c.loop-payload.visited + 1) released c.release_segment.new.self in (
      subst (λ b. passing b c.if-release_segment.released) before (subst
          (λ r. passing (if c.release_segment.result then c.loop-payload.before else c.loop-payload.payload) r) released
          (on_passing c.requires.intact.sound c.loop-payload.invariant.0 c.loop-payload-test.true c.record_at-told.ensures.told g.A.Links.follows_on answer
          visited index)),
      c.release_segment.ensures.linked,
      (let read = c.record_at-told.ensures.counted in let gone = c.release_segment.ensures.counted in let before = c.loop-payload.invariant.2 in omega arith),
    )

pub returns-clause-passed : goal.returns-clause-passed
returns-clause-passed g c = subst (λ now. IsPassed g.A.Links.regions g.A.Links.word g.A.Links.follows (g.A.Allocator.frees c.args.self.now.system)
    (g.A.Allocator.parts c.args.self.now.system) c.args.self.now c.loop-payload.released now) (sym c.begin_countdown.ensures)
    (passed_all c.requires.intact.sound c.loop-payload.invariant.0 c.loop-payload-test.false
    (max c.loop-payload.visited (countdown_from c.loop-payload.self.rate)) refl)

pub returns-clause-linked : goal.returns-clause-linked
returns-clause-linked g c = subst (λ now. IsBinned g.A.Links.regions g.A.Links.word now) (sym c.begin_countdown.ensures)
    (same_bins (max c.loop-payload.visited (countdown_from c.loop-payload.self.rate)) c.loop-payload.invariant.1)

pub returns-clause-counted : goal.returns-clause-counted
returns-clause-counted g c =
    let taken = c.loop-payload.invariant.2 in
    let all = passed_few c.requires.intact.sound c.loop-payload.invariant.0 in
    omega arith
