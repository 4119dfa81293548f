use Rattle.dlmalloc.proofs.Names.{◌≡◌, ◌∙◌, Some, sym, ap, subst, arith, state_of, IsFreeAt}
use Rattle.dlmalloc.proofs.Words.OfLinks.{free_has_head, is_chunk}
use Rattle.dlmalloc.proofs.Bins.LeastFit.{fit_free, fit_other, fit_least, fit_none}
use Rattle.dlmalloc.proofs.heap.Dlmalloc.find_free.Goals as goal

pub least_fit-requires : goal.least_fit-requires
least_fit-requires g c = let b = c.requires.intact.linked in (b.index, b.linked)

pub size-requires : goal.size-requires
size-requires g c =
    let b = c.requires.intact.linked in let fit = c.in-Some.ensures.fit b.index b.linked in
    free_has_head c.requires.intact.sound (fit_free c.requires.intact.sound b c.args.n fit)

pub returns-in-Some : goal.returns-in-Some
returns-in-Some g c =
    let word = g.A.Links.word in let heap = c.args.self.now in let at = c.in-Some.at in let b = c.requires.intact.linked in
    let fit = c.in-Some.ensures.fit b.index b.linked in let free = fit_free c.requires.intact.sound b c.args.n fit in
    let size : c.size.result ≡ fit.size = c.size.ensures.value ∙ (is_chunk c.requires.intact.sound free).head in
    let enough = fit.enough in
    record {
      least = fit_least c.requires.intact.sound b c.args.n fit ∙ ap Some (sym size);
      there = subst (λ n. IsFreeAt (state_of word heap) at n) (sym size) free;
      other = fit_other c.requires.intact.sound b c.args.n fit;
      fits = omega arith;
      member = λ index linked. c.in-Some.ensures.fit index linked;
      counted = omega arith;
    }

pub returns-in-None : goal.returns-in-None
returns-in-None g c =
    let b = c.requires.intact.linked in
    record {
      least = fit_none c.requires.intact.sound b c.args.n (c.in-None.ensures.fit b.index b.linked);
      there = tt;
      other = tt;
      fits = tt;
      member = tt;
      counted = omega arith;
    }
