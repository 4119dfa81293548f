use Rattle.std.proofs.Common.{false, subst, sym, refl, rules, arith}
use Rattle.dlmalloc.specs.declared.heap.Dlmalloc.{Dlmalloc}
use Rattle.heap_arena.specs.declared.arena.Arena.{Arena}
use Rattle.heap_arena.specs.Arena.{regions_of}
use Rattle.checked_heap.specs.Calls.{IsBlockGiven}
use Rattle.checked_heap.specs.Checked.{KeepsWordsOutside}
use Rattle.checked_heap.specs.Room.{IsRefused}
use Rattle.limzhur_c.proofs.exports.limzhur_malloc.Goals as goal

pub returns-in-Ok-clause-answered : goal.returns-in-Ok-clause-answered
returns-in-Ok-clause-answered c =
    let low = c.in-Ok.ensures.given.handed.low in
    record {
      given = λ _. subst (λ (h : Dlmalloc Arena). IsBlockGiven h c.args.size c.args.align false
          c.in-Ok.address c.malloc.new.self) c.open.ensures.heap c.in-Ok.ensures.given;
      err = λ none. absurd (omega (arith, low, none));
      refused = (
        λ none. absurd (omega (arith, low, none)),
        λ refused. absurd (let no =
            c.in-Ok.ensures.refused.1 (subst (λ (h : Dlmalloc Arena). IsRefused h c.args.size c.args.align) (sym c.open.ensures.heap) refused) in
            cc),
      );
      apart = c.in-Ok.ensures.apart;
      outside = subst (λ (h : Dlmalloc Arena). KeepsWordsOutside (regions_of c.malloc.new.self.system) h.system c.malloc.new.self.system)
          c.open.ensures.heap c.in-Ok.ensures.outside;
    }

pub returns-in-Err-clause-answered : goal.returns-in-Err-clause-answered
returns-in-Err-clause-answered c = record {
  given = λ not. absurd (not refl);
  err = search rules;
  refused = (
    λ _. subst (λ (h : Dlmalloc Arena). IsRefused h c.args.size c.args.align)
        c.open.ensures.heap (c.in-Err.ensures.refused.0 refl),
    λ _. refl,
  );
  apart = c.in-Err.ensures.apart;
  outside = subst (λ (h : Dlmalloc Arena). KeepsWordsOutside (regions_of c.malloc.new.self.system) h.system c.malloc.new.self.system)
      c.open.ensures.heap c.in-Err.ensures.outside;
}
