use Rattle.dlmalloc.proofs.Names.{◌≡◌, ◌-◌, ◌<◌, true, false, ◌&&◌, if◌then◌else◌, [], ◌∷◌, sym, ◌∙◌, ap, subst, arith, is_own, is_unused, may_leave, state_of, IsFreeAt, IsBinnedBut, IsBinned, FreeMoves, IsChained, IsVisited, without_chunk}
use Rattle.dlmalloc.proofs.Returns.SegmentVisited.{base_is, size_is, never, last_test, first_there, long_told, test_is, first_is_free, stays}
use Rattle.dlmalloc.proofs.Returns.VisitWithBins.{chained_then, may_still, visited_then, visited_binned, loose_still, not_victim, binned_without}
use Rattle.dlmalloc.proofs.Returns.PassOrder.{with_same, visit_none, visit_left, visit_kept}
use Rattle.dlmalloc.proofs.heap.Dlmalloc.release_segment.Goals as goal

pub may_leave-requires : goal.may_leave-requires
may_leave-requires g c = record { head = first_there c.requires.intact.sound c.requires.chained; long = long_told c.requires.intact.sound c.requires.chained }

pub returns-then-not-may_leave-clause-answer : goal.returns-then-not-may_leave-clause-answer
returns-then-not-may_leave-clause-answer g c = λ chained.
    let heap = c.args.self.now in
    let may = sym c.if-not-may_leave.true ∙ (c.may_leave.ensures.told ∙ test_is c.requires.intact.sound chained (g.A.Allocator.parts heap.system)) in
    never (g.A.Allocator.frees heap.system) ∙ ap (λ b. g.A.Allocator.frees heap.system && b) may

pub returns-then-not-may_leave-clause-visited : goal.returns-then-not-may_leave-clause-visited
returns-then-not-may_leave-clause-visited g c = λ chained.
    let heap = c.args.self.now in
    let may = sym c.if-not-may_leave.true ∙ (c.may_leave.ensures.told ∙ test_is c.requires.intact.sound chained (g.A.Allocator.parts heap.system)) in
    subst (λ handed. IsVisited g.A.Links.regions g.A.Links.word g.A.Links.follows handed false heap c.args.before c.args.told.now chained heap) may
    (stays c.requires.intact.sound chained g.A.Links.follows g.A.Links.follows_none false)

pub overflow_sub-size : goal.overflow_sub-size
overflow_sub-size g c = let long = long_told c.requires.intact.sound c.requires.chained in omega arith

pub unbin-requires : goal.unbin-requires
unbin-requires g c =
    let parts = g.A.Allocator.parts c.args.self.now.system in let chained = c.requires.chained in
    let may = sym c.if-not-may_leave.false ∙ (c.may_leave.ensures.told ∙ test_is c.requires.intact.sound chained parts) in
    record {
      sound = c.requires.intact.sound;
      free = first_is_free c.requires.intact.sound chained (last_test (is_own chained.segment) parts (is_unused chained.segment) may);
      binned = ([], c.requires.intact.linked, λ none. none);
    }

pub hand_out-requires : goal.hand_out-requires
hand_out-requires g c =
    let same = c.unbin.ensures.bins.same in
    let fixed = g.met.A.Allocator.fixed c.args.self.now.system c.unbin.new.self.system _ same.followed in
    record {
      sound = same.sound;
      there = subst (λ now. 0 < now.size) (sym same.fields) c.requires.there;
      chained = chained_then c.requires.intact.sound same c.requires.chained;
      may = λ chained. ap (λ parts. may_leave parts chained.segment) fixed.parts_same ∙ may_still c.requires.intact.sound same
          (g.A.Allocator.parts c.args.self.now.system) (sym c.may_leave.ensures.told ∙ c.if-not-may_leave.false) chained;
    }

pub returns-then-not-may_leave-clause-index : goal.returns-then-not-may_leave-clause-index
returns-then-not-may_leave-clause-index g c = λ chained b.
    let heap = c.args.self.now in
    let may = sym c.if-not-may_leave.true ∙ (c.may_leave.ensures.told ∙ test_is c.requires.intact.sound chained (g.A.Allocator.parts heap.system)) in
    (b, λ n. visit_none (g.A.Allocator.frees heap.system) (g.A.Allocator.parts heap.system) chained.segment b.index n may)

-- ---- the system took it

pub returns-then-hand_out : goal.returns-then-hand_out
returns-then-hand_out g c =
    let heap = c.args.self.now in let middle = c.unbin.new.self in let told = c.args.told.now in
    let new = c.hand_out.new.self in let e = c.hand_out.ensures in let frees = g.A.Allocator.frees heap.system in
    let parts = g.A.Allocator.parts heap.system in
    let fixed = g.met.A.Allocator.fixed heap.system middle.system _ c.unbin.ensures.bins.same.followed in
    let takes : true ≡ frees = sym c.if-hand_out.true ∙ (e.answer ∙ fixed.frees_same) in
    let may : (chained : IsChained g.A.Links.word heap c.args.before told) → true ≡ may_leave parts chained.segment = λ chained.
    sym c.if-not-may_leave.false ∙ (c.may_leave.ensures.told ∙ test_is c.requires.intact.sound chained parts) in
    let chain : (chained : IsChained g.A.Links.word heap c.args.before told) → IsChained g.A.Links.word middle c.args.before told = λ chained.
    chained_then c.requires.intact.sound c.unbin.ensures.bins.same chained in
    let visited : (chained : IsChained g.A.Links.word heap c.args.before told) → IsVisited g.A.Links.regions g.A.Links.word g.A.Links.follows true true heap
    c.args.before told chained new = λ chained. visited_then g.A.Links.follows g.A.Links.follows_on c.requires.intact.sound chained c.unbin.ensures.bins.same
    (subst (λ leaves. IsVisited g.A.Links.regions g.A.Links.word g.A.Links.follows true leaves middle c.args.before told (chain chained) new)
    c.if-hand_out.true (e.visited (chain chained))) in
    let moves = subst (λ left. FreeMoves (state_of g.A.Links.word middle) (state_of g.A.Links.word new)
    (if left then told.base ∷ [] else []) []) c.if-hand_out.true e.free in
    let after : (loose : IsBinnedBut (told.base ∷ []) g.A.Links.regions g.A.Links.word middle) → IsBinned g.A.Links.regions g.A.Links.word new = λ loose.
    binned_without c.law_index_stays.ensures c.unbin.ensures.bins.same.sound (e.visited (chain c.requires.chained)) e.words e.bins moves loose in
    record {
      answer = λ chained. (λ i. takes i && may chained i);
      visited = λ chained. subst (λ handed. IsVisited g.A.Links.regions g.A.Links.word g.A.Links.follows handed true heap
          c.args.before told chained new) (may chained) (visited chained);
      linked = after (c.unbin.ensures.bins.loose [] c.requires.intact.linked (λ none. none)).0;
      index = λ chained b.
          let left = c.unbin.ensures.bins.loose [] b (λ none. none) in let base = base_is c.requires.intact.sound chained in
          let size = ap (λ n. n - 80) (size_is c.requires.intact.sound chained) in
          (after left.0, λ n. left.1 n ∙ visit_left frees parts chained.segment b.index n base size (may chained) takes);
      counted = (let tested = c.may_leave.ensures.counted in let left = c.unbin.ensures.counted in let handed = e.counted in omega arith);
    }

-- ---- the system kept it

pub bin-requires : goal.bin-requires
bin-requires g c =
    let heap = c.args.self.now in let middle = c.unbin.new.self in let told = c.args.told.now in
    let new = c.hand_out.new.self in let chained = c.requires.chained in let same = c.unbin.ensures.bins.same in
    let may = sym c.if-not-may_leave.false ∙ (c.may_leave.ensures.told ∙ test_is c.requires.intact.sound chained (g.A.Allocator.parts heap.system)) in
    let first = first_is_free c.requires.intact.sound chained
    (last_test (is_own chained.segment) (g.A.Allocator.parts heap.system) (is_unused chained.segment) may) in
    let moves = subst (λ left. FreeMoves (state_of g.A.Links.word middle) (state_of g.A.Links.word new) (if left then told.base ∷ [] else []) [])
    c.if-hand_out.false c.hand_out.ensures.free in
    let visited = c.hand_out.ensures.visited (chained_then c.requires.intact.sound same chained) in
    record {
      sound = visited.left.sound;
      free = (moves.stays told.base (told.size - 80) (subst (λ s. IsFreeAt s told.base (told.size - 80)) (sym same.state) first) (λ none. none)).0;
      other = not_victim same.sound visited;
      loose = (
        [],
        loose_still c.law_index_stays.ensures same.sound visited c.hand_out.ensures.words c.hand_out.ensures.bins moves
            (c.unbin.ensures.bins.loose [] c.requires.intact.linked (λ none. none)).0,
      );
    }

pub returns : goal.returns
returns g c =
    let heap = c.args.self.now in let middle = c.unbin.new.self in let told = c.args.told.now in
    let new = c.hand_out.new.self in let e = c.hand_out.ensures in let frees = g.A.Allocator.frees heap.system in
    let parts = g.A.Allocator.parts heap.system in
    let fixed = g.met.A.Allocator.fixed heap.system middle.system _ c.unbin.ensures.bins.same.followed in
    let takes : false ≡ frees = sym c.if-hand_out.false ∙ (e.answer ∙ fixed.frees_same) in
    let may : (chained : IsChained g.A.Links.word heap c.args.before told) → true ≡ may_leave parts chained.segment = λ chained.
    sym c.if-not-may_leave.false ∙ (c.may_leave.ensures.told ∙ test_is c.requires.intact.sound chained parts) in
    let chain : (chained : IsChained g.A.Links.word heap c.args.before told) → IsChained g.A.Links.word middle c.args.before told = λ chained.
    chained_then c.requires.intact.sound c.unbin.ensures.bins.same chained in
    let visited : (chained : IsChained g.A.Links.word heap c.args.before told) → IsVisited g.A.Links.regions g.A.Links.word g.A.Links.follows true false heap
    c.args.before told chained new = λ chained. visited_then g.A.Links.follows g.A.Links.follows_on c.requires.intact.sound chained c.unbin.ensures.bins.same
    (subst (λ leaves. IsVisited g.A.Links.regions g.A.Links.word g.A.Links.follows true leaves middle c.args.before told (chain chained) new)
    c.if-hand_out.false (e.visited (chain chained))) in
    let moves = subst (λ left. FreeMoves (state_of g.A.Links.word middle) (state_of g.A.Links.word new)
    (if left then told.base ∷ [] else []) []) c.if-hand_out.false e.free in
    let after : (loose : IsBinnedBut (told.base ∷ []) g.A.Links.regions g.A.Links.word middle) →
    IsBinnedBut (told.base ∷ []) g.A.Links.regions g.A.Links.word new = λ loose.
    loose_still c.law_index_stays.ensures c.unbin.ensures.bins.same.sound (e.visited (chain c.requires.chained)) e.words e.bins moves loose in
    record {
      answer = λ chained. (λ i. takes i && may chained i);
      visited = λ chained. subst (λ handed. IsVisited g.A.Links.regions g.A.Links.word g.A.Links.follows handed false heap
          c.args.before told chained c.bin.new.self) (may chained)
          (visited_binned g.A.Links.follows g.A.Links.follows_on c.requires.intact.sound chained new (visited chained) c.bin.ensures.bins.same);
      linked = (c.bin.ensures.bins.binned [] (after (c.unbin.ensures.bins.loose [] c.requires.intact.linked (λ none. none)).0) (λ none. none)).0;
      index = λ chained b.
          let left = c.unbin.ensures.bins.loose [] b (λ none. none) in let base = base_is c.requires.intact.sound chained in
          let size = ap (λ n. n - 80) (size_is c.requires.intact.sound chained) in
          let last = c.bin.ensures.bins.binned [] (after left.0) (λ none. none) in (
            last.0,
            λ n. last.1 n ∙ (with_same (told.size - 80) told.base left.0.index
                (without_chunk (told.size - 80) told.base b.index) n (left.1 n)
                ∙ visit_kept frees parts chained.segment b.index n base size (may chained) takes),
          );
      counted = (let tested = c.may_leave.ensures.counted in let left = c.unbin.ensures.counted in let handed = e.counted in
          let put = c.bin.ensures.counted in omega arith);
    }
