use Rattle.std.specs.Prelude.{◌≡◌, [], ◌∷◌, List, OnErr, IfErr}
use Rattle.std.proofs.Common.{◌∙◌, rules, ap, sym, subst}
use Rattle.heap_memory.specs.Events.{Refused}
use Rattle.heap_arena.specs.declared.arena.Arena.{Arena}
use Rattle.heap_arena.specs.Arenas.{word_among, AreAfter, AreUnwritten}
use Rattle.heap_arena.proofs.ArenaLists.{refilled, unwritten_order, words_same, refused_all}
use Rattle.heap_arena.proofs.arenas_allocator.ArenasAllocator.alloc.Goals as goal

pub invariant_of-self : goal.invariant_of-self
invariant_of-self g c =
    let olds = c.args.self.now.arenas.items in
    let news = c.alloc_among.new.arenas in
    let words = subst (λ (xs : List Arena). AreUnwritten xs news) c.as_mut_slice.ensures.value c.alloc_among.ensures.unwritten in
    record { in_order = rw (refilled olds news (search rules)) (unwritten_order olds news words c.args.self.now.in_order) }

pub returns-clause-words : goal.returns-clause-words
returns-clause-words g c = λ at is.
    let olds = c.args.self.now.arenas.items in
    let news = c.alloc_among.new.arenas in
    let words = subst (λ (xs : List Arena). AreUnwritten xs news) c.as_mut_slice.ensures.value c.alloc_among.ensures.unwritten in
    ap (λ (xs : List Arena). word_among xs at) (refilled olds news (search rules)) ∙ words_same olds news words at

pub returns-clause-err_follows : goal.returns-clause-err_follows
returns-clause-err_follows g c =
    let olds = c.args.self.now.arenas.items in
    let news = c.alloc_among.new.arenas in
    let same = subst (λ (xs : List Arena). OnErr c.alloc_among.result (news ≡ xs)) c.as_mut_slice.ensures.value c.alloc_among.ensures.same in
    subst (λ (xs : List Arena). IfErr c.alloc_among.result (λ fault. AreAfter olds (Refused c.args.size fault ∷ []) xs))
    (sym (refilled olds news (search rules))) (refused_all c.alloc_among.result c.args.size olds news same)
