use Rattle.std.proofs.Common.{◌∙◌, ◌++◌, ◌∷◌, [], ℕ, ◌+◌, List, ap, arith}
use Rattle.heap_memory.specs.declared.grant.Grant.{Grant}
use Rattle.heap_arena.specs.Grants.{grant_at, grants}
use Rattle.heap_arena.proofs.GrantLemmas.{grants_same, grants_more}
use Rattle.heap_arena.proofs.table.Table.push.Goals as goal

pub returns-clause-grants : goal.returns-clause-grants
returns-clause-grants c =
    let old = c.args.self.now in
    let words = c.set.new.self.words.now in
    ap (λ (n : ℕ). grants words (n + 1)) c.set.ensures.count
    ∙ (grants_more words old.count
    ∙ (ap (λ (rs : List Grant). rs ++ grant_at words old.count ∷ []) (grants_same old.words.now words old.count
    (λ k less. c.set.ensures.others k (λ same. omega (arith, less, same))))
    ∙ ap (λ (g : Grant). grants old.words.now old.count ++ g ∷ []) c.set.ensures.here))
