use Rattle.dlmalloc.proofs.Names.{sym, ◌∙◌, refl, subst, IsShortened}
use Rattle.dlmalloc.proofs.Returns.TrimmedBytes.{cut_answer, cut_back, binned_but_top}
use Rattle.dlmalloc.proofs.heap.Dlmalloc.trim_top.Goals as goal

pub returns-then-may_cut-clause-answer : goal.returns-then-may_cut-clause-answer
returns-then-may_cut-clause-answer g c =
    let heap = c.args.self.now in
    c.cut_top.ensures.answer ∙ cut_answer c.requires.intact.sound c.requires.there (g.A.Allocator.parts heap.system)
    (g.A.Allocator.unit heap.system) c.args.pad c.spare-cut.ensures.is (sym c.may_cut.ensures ∙ c.if-may_cut.true)

pub returns-then-may_cut-clause-cut : goal.returns-then-may_cut-clause-cut
returns-then-may_cut-clause-cut g c =
    cut_back c.requires.intact.sound c.requires.there (g.A.Links.follows_none c.args.self.now.system) (returns-then-may_cut-clause-answer g c)
    (λ was. subst (λ n. IsShortened g.A.Links.regions g.A.Links.word g.A.Links.follows c.args.self.now n c.cut_top.new.self) c.spare-cut.ensures.is
    (c.cut_top.ensures.cut was)) (λ isnt. c.cut_top.ensures.same isnt)

pub returns-else-may_cut-clause-answer : goal.returns-else-may_cut-clause-answer
returns-else-may_cut-clause-answer g c =
    let heap = c.args.self.now in
    c.if-may_cut.false ∙ cut_answer c.requires.intact.sound c.requires.there (g.A.Allocator.parts heap.system)
    (g.A.Allocator.unit heap.system) c.args.pad c.spare-cut.ensures.is (sym c.may_cut.ensures ∙ c.if-may_cut.false)

pub returns-else-may_cut-clause-cut : goal.returns-else-may_cut-clause-cut
returns-else-may_cut-clause-cut g c = cut_back c.requires.intact.sound c.requires.there (g.A.Links.follows_none c.args.self.now.system)
    (returns-else-may_cut-clause-answer g c) (λ was. absurd (cc)) (λ isnt. refl)

pub returns-then-may_cut-clause-linked : goal.returns-then-may_cut-clause-linked
returns-then-may_cut-clause-linked g c =
    binned_but_top c.law_index_stays.ensures c.requires.intact.sound (returns-then-may_cut-clause-cut g c).stays c.cut_top.ensures.there c.requires.intact.linked

pub returns-then-may_cut-clause-index : goal.returns-then-may_cut-clause-index
returns-then-may_cut-clause-index g c = λ b.
    (binned_but_top c.law_index_stays.ensures c.requires.intact.sound (returns-then-may_cut-clause-cut g c).stays c.cut_top.ensures.there b, λ n. refl)

pub returns-else-may_cut-clause-index : goal.returns-else-may_cut-clause-index
returns-else-may_cut-clause-index g c = λ b. (b, λ n. refl)
