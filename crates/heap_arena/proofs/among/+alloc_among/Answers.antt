use Rattle.std.specs.Prelude.{◌≡◌, ◌-◌, ◌<◌, List, length, slice_set}
use borrow.Rule.Slice.PartMut.{put_mid}
use Rattle.std.proofs.Common.{rules, sym, subst}
use Rattle.std.proofs.lemmas.Result.{IfOk-weaker}
use Rattle.heap_arena.specs.Arenas.{AreUnwritten, IsGrantedAmong}
use Rattle.heap_arena.specs.declared.arena.Arena.{Arena}
use Rattle.heap_arena.proofs.ArenaLists.{set_same, rest_of, granted_first, granted_rest, unwritten_first, unwritten_rest}
use Rattle.heap_arena.proofs.among.+alloc_among.Goals as goal

pub returns-in-Ok-clause-ok : goal.returns-in-Ok-clause-ok
returns-in-Ok-clause-ok t c =
    granted_first c.args.arenas.now c.index-arenas-0.result c.alloc.new.self c.args.size c.in-Ok.grant (search rules)
    c.requires.order c.requires.some c.in-Ok.ensures.ok c.in-Ok.ensures.follows

pub returns-in-Ok-clause-unwritten : goal.returns-in-Ok-clause-unwritten
returns-in-Ok-clause-unwritten t c = unwritten_first c.args.arenas.now c.index-arenas-0.result c.alloc.new.self (search rules) c.alloc.ensures.unwritten

pub returns-in-Err-clause-ok : goal.returns-in-Err-clause-ok
returns-in-Err-clause-ok t c =
    let arenas = c.args.arenas.now in
    let size = c.args.size in
    let news = c.alloc_among.new.arenas in
    let some : 0 < length arenas = search rules in
    let same : slice_set arenas 0 c.alloc.new.self ≡ arenas = set_same arenas c.index-arenas-0.result c.alloc.new.self some c.in-Err.ensures.same in
    IfOk-weaker c.alloc_among.result _ _ (λ grant given.
    subst (λ (xs : List Arena). IsGrantedAmong size arenas grant (put_mid 1 (length xs - 1) xs news)) (sym same)
    (granted_rest arenas news c.index-arenas-0.result size grant some c.requires.order c.in-Err.ensures.denied.1
    (subst (λ (xs : List Arena). IsGrantedAmong size (rest_of xs) grant news) same given))) c.alloc_among.ensures.ok

pub returns-in-Err-clause-unwritten : goal.returns-in-Err-clause-unwritten
returns-in-Err-clause-unwritten t c =
    let arenas = c.args.arenas.now in
    let news = c.alloc_among.new.arenas in
    let some : 0 < length arenas = search rules in
    let same : slice_set arenas 0 c.alloc.new.self ≡ arenas = set_same arenas c.index-arenas-0.result c.alloc.new.self some c.in-Err.ensures.same in
    subst (λ (xs : List Arena). AreUnwritten arenas (put_mid 1 (length xs - 1) xs news)) (sym same)
    (unwritten_rest arenas news some (subst (λ (xs : List Arena). AreUnwritten (rest_of xs) news) same c.alloc_among.ensures.unwritten))
