use Rattle.dlmalloc.proofs.Names.{◌≡◌, true, false, sym, ◌∙◌, arith, nat_le, nat_tests}
use Rattle.dlmalloc.proofs.Frees.Counted.{counted_none, counted_less, counted_pass}
use Rattle.dlmalloc.proofs.heap.Dlmalloc.count_free.Goals as goal

pub returns-then-not-is_counted-clause-counted : goal.returns-then-not-is_counted-clause-counted
returns-then-not-is_counted-clause-counted g c = λ at around. counted_none g.A.Links.follows g.A.Links.follows_none
    (g.A.Allocator.frees c.args.self.now.system) (g.A.Allocator.parts c.args.self.now.system) c.requires.intact.sound at
    (sym (c.is_counted.ensures.told at around) ∙ c.if-not-is_counted.true)

pub returns-then-self-gt1-clause-counted : goal.returns-then-self-gt1-clause-counted
returns-then-self-gt1-clause-counted g c = λ at around.
    let more = c.if-self-gt1.true in
    let test : nat_le c.args.self.now.countdown 1 ≡ false = grind (arith, nat_tests) in
    counted_less g.A.Links.follows g.A.Links.follows_none (g.A.Allocator.frees c.args.self.now.system)
    (g.A.Allocator.parts c.args.self.now.system) c.requires.intact.sound at (sym (c.is_counted.ensures.told at around) ∙ c.if-not-is_counted.false) test

pub returns-clause-counted : goal.returns-clause-counted
returns-clause-counted g c = λ at around.
    let less = c.if-self-gt1.false in
    let test : nat_le c.args.self.now.countdown 1 ≡ true = grind (arith, nat_tests) in
    counted_pass g.A.Links.follows g.A.Links.follows_none (g.A.Allocator.frees c.args.self.now.system) (g.A.Allocator.parts c.args.self.now.system)
    c.requires.intact.sound at (sym (c.is_counted.ensures.told at around) ∙ c.if-not-is_counted.false) test c.release_unused_segments.ensures.passed
