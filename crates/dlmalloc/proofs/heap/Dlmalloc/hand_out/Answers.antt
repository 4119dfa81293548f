use Rattle.dlmalloc.proofs.Names.{◌≡◌, ◌≢◌, ℕ, ◌+◌, true, false, ◌==◌, if◌then◌else◌, [], ◌∷◌, refl, sym, ◌∙◌, ap, subst, Released, IsWordOf, without_run, is_own, is_unused, FreeMoves, state_of, IsVisited, Dlmalloc}
use Rattle.heap_memory.specs.Runs.{IsRun}
use Rattle.dlmalloc.proofs.Returns.SegmentLeaves.{link_small, link_granted, left_words, left_heap, left_free, leaves}
use Rattle.dlmalloc.proofs.Returns.SegmentVisited.{last_test, run_told, stays_handed, free_kept}
use Rattle.dlmalloc.proofs.heap.Dlmalloc.hand_out.Goals as goal
use Rattle.dlmalloc.proofs.heap.Dlmalloc.hand_out.Goals.{After-set_next}

pub free-requires : goal.free-requires
free-requires g c = subst (λ heap. IsRun (g.A.Links.regions heap.system) c.args.told.now.base (c.args.told.now.base + c.args.told.now.size))
    (sym c.forget.ensures) (run_told c.requires.sound c.requires.chained)

pub returns-then-not-free-clause-visited : goal.returns-then-not-free-clause-visited
returns-then-not-free-clause-visited g c = λ chained.
    let heap = c.args.self.now in
    let visited = stays_handed c.requires.sound chained g.A.Links.follows g.A.Links.follows_none in
    subst (λ system. IsVisited g.A.Links.regions g.A.Links.word g.A.Links.follows true false heap c.args.before c.args.told.now chained
    (record c.forget.new.self { system = system })) (sym (c.free.ensures.same c.if-not-free.true)) (subst (λ now. IsVisited g.A.Links.regions g.A.Links.word
    g.A.Links.follows true false heap c.args.before c.args.told.now chained now) (sym c.forget.ensures) visited)

pub returns-then-not-free-clause-free : goal.returns-then-not-free-clause-free
returns-then-not-free-clause-free g c =
    let heap = c.args.self.now in
    subst (λ system. FreeMoves (state_of g.A.Links.word heap) (state_of g.A.Links.word (record c.forget.new.self { system = system })) [] [])
    (sym (c.free.ensures.same c.if-not-free.true)) (subst (λ now. FreeMoves (state_of g.A.Links.word heap) (state_of g.A.Links.word now) [] [])
    (sym c.forget.ensures) (free_kept c.requires.sound c.requires.chained))

pub set_next-requires-clause-high : goal.set_next-requires-clause-high
set_next-requires-clause-high g c = link_small c.requires.sound c.requires.chained

pub set_next-requires-clause-word : goal.set_next-requires-clause-word
set_next-requires-clause-word g c =
    link_granted c.requires.sound c.requires.chained (c.free.ensures.regions c.if-not-free.false
    ∙ ap (λ heap. without_run c.args.told.now.base (c.args.told.now.base + c.args.told.now.size) (g.A.Links.regions heap.system)) c.forget.ensures)

-- ---- the segment was taken

-- its regions are granted no more, and the words of all others stay but the link to it
gone : (g : _) (c : After-set_next g) → g.A.Links.regions c.set_next.new.self.system
    ≡ without_run c.args.told.now.base (c.args.told.now.base + c.args.told.now.size) (g.A.Links.regions c.args.self.now.system)
gone g c =
    let told = c.args.told.now in
    c.set_next.ensures.rest.regions ∙ (c.free.ensures.regions c.if-not-free.false
    ∙ ap (λ now. without_run told.base (told.base + told.size) (g.A.Links.regions now.system)) c.forget.ensures)

kept : (g : _) (c : After-set_next g) → (k : ℕ) → IsWordOf (g.A.Links.regions c.set_next.new.self.system) k →
    (c.args.before ≢ 0 → k ≢ c.args.before + 16) → g.A.Links.word c.set_next.new.self.system k ≡ g.A.Links.word c.args.self.now.system k
kept g c k inside other =
    let inside' = subst (λ rs. IsWordOf rs k) c.set_next.ensures.rest.regions inside in
    c.set_next.ensures.rest.elsewhere k inside' other ∙ (c.free.ensures.words k inside' ∙ ap (λ now. g.A.Links.word now.system k) c.forget.ensures)

pub returns-clause-visited : goal.returns-clause-visited
returns-clause-visited g c = λ chained.
    let heap = c.args.self.now in let told = c.args.told.now in let system = c.set_next.new.self.system in
    let freed = subst (λ (now : Dlmalloc g.row.A.Denot). g.A.Links.follows now.system (Released told.base told.size 0 ∷ []) c.free.new.self) c.forget.ensures
    (c.free.ensures.follows c.if-not-free.false) in
    let followed = g.A.Links.follows_on heap.system c.free.new.self system (Released told.base told.size 0 ∷ []) []
    (Released told.base told.size 0 ∷ []) freed c.set_next.ensures.rest.follows refl in
    let unused = last_test (is_own chained.segment) (g.A.Allocator.parts heap.system) (is_unused chained.segment) (sym (c.requires.may chained)) in
    let visited = leaves c.requires.sound chained system (gone g c) (kept g c) c.set_next.ensures.here unused g.A.Links.follows followed in
    let same : c.set_next.new.self ≡ left_heap c.requires.sound chained system (gone g c) (kept g c) c.set_next.ensures.here unused =
    c.set_next.ensures.fields ∙ ap (λ (now : Dlmalloc g.row.A.Denot). record now {
      system = system;
      next =
          if c.args.before == 0 then told.next else now.next;
    }) c.forget.ensures in
    subst (λ (now : Dlmalloc g.row.A.Denot). IsVisited g.A.Links.regions g.A.Links.word g.A.Links.follows true true heap c.args.before told chained now)
    (sym same) visited

pub returns-clause-free : goal.returns-clause-free
returns-clause-free g c =
    let chained = c.requires.chained in let heap = c.args.self.now in let told = c.args.told.now in
    let system = c.set_next.new.self.system in
    let unused = last_test (is_own chained.segment) (g.A.Allocator.parts heap.system) (is_unused chained.segment) (sym (c.requires.may chained)) in
    let same : c.set_next.new.self ≡ left_heap c.requires.sound chained system (gone g c) (kept g c) c.set_next.ensures.here unused =
    c.set_next.ensures.fields ∙ ap (λ (now : Dlmalloc g.row.A.Denot). record now {
      system = system;
      next =
          if c.args.before == 0 then told.next else now.next;
    }) c.forget.ensures in
    subst (λ (now : Dlmalloc g.row.A.Denot). FreeMoves (state_of g.A.Links.word heap) (state_of g.A.Links.word now) (told.base ∷ []) []) (sym same)
    (left_free c.requires.sound chained system (gone g c) (kept g c) c.set_next.ensures.here unused)

pub returns-clause-words : goal.returns-clause-words
returns-clause-words g c = λ k inside out.
    left_words c.requires.sound c.requires.chained c.set_next.new.self.system (gone g c) (kept g c) c.set_next.ensures.here k inside out
