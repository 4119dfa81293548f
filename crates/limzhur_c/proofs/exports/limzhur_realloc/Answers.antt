use Rattle.std.proofs.Common.{◌≡◌, subst, sym, refl, rules, arith}
use Rattle.dlmalloc.specs.declared.heap.Dlmalloc.{Dlmalloc}
use Rattle.heap_arena.specs.declared.arena.Arena.{Arena}
use Rattle.checked_heap.specs.Calls.{IsBlockResized}
use Rattle.checked_heap.specs.Room.{IsRefusedResize}
use Rattle.limzhur_c.proofs.exports.limzhur_realloc.Goals as goal

pub returns-in-Ok-clause-answered : goal.returns-in-Ok-clause-answered
returns-in-Ok-clause-answered c =
    let low = c.in-Ok.ensures.resized.reallocated.given.low in
    record {
      resized = λ _. subst (λ (h : Dlmalloc Arena). IsBlockResized h c.args.address c.args.size c.in-Ok.to
          c.realloc.new.self) c.open.ensures.heap c.in-Ok.ensures.resized;
      err = λ none. absurd (omega (arith, low, none));
      refused = (
        λ none. absurd (omega (arith, low, none)),
        λ refused. absurd (let no =
            c.in-Ok.ensures.refused.1 (subst (λ (h : Dlmalloc Arena). IsRefusedResize h c.args.address c.args.size) (sym c.open.ensures.heap) refused) in
            cc),
      );
      same = λ none. absurd (omega (arith, low, none));
      apart = c.in-Ok.ensures.apart;
    }

pub returns-in-Err-clause-answered : goal.returns-in-Err-clause-answered
returns-in-Err-clause-answered c = record {
  resized = λ not. absurd (not refl);
  err = search rules;
  refused = (
    λ _. subst (λ (h : Dlmalloc Arena). IsRefusedResize h c.args.address c.args.size)
        c.open.ensures.heap (c.in-Err.ensures.refused.0 refl),
    λ _. refl,
  );
  same = λ _. subst (λ (h : Dlmalloc Arena). c.realloc.new.self.system ≡ h.system) c.open.ensures.heap (c.in-Err.ensures.same refl);
  apart = c.in-Err.ensures.apart;
}
