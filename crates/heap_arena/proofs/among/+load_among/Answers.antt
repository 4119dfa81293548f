use Rattle.std.specs.Prelude.{◌<◌, ◌≤◌, length, IsTrue}
use Rattle.std.proofs.Common.{rules, sym, subst, arith}
use Rattle.std.proofs.lemmas.Bool.Decides.{nat_tests}
use Rattle.heap_memory.specs.Regions.{IsWordOf}
use Rattle.heap_arena.specs.declared.arena.Arena.{Arena}
use Rattle.heap_arena.specs.Arena.{regions_of, end_of}
use Rattle.heap_arena.specs.Arenas.{are_in_order, regions_of_all}
use Rattle.heap_arena.proofs.ArenaLists.{first_word, rest_word, rest_order, rest_of, rest_less}
use Rattle.heap_arena.proofs.among.+load_among.Goals as goal

pub load-requires : goal.load-requires
load-requires t c =
    let arenas = c.args.arenas.now in
    let is = c.first-item.is in
    let before : c.args.at < end_of c.first-item.result = grind (arith, nat_tests) in
    subst (λ (a : Arena). IsWordOf (regions_of a) c.args.at) (sym is) (first_word c.first-item.result c.args.at arenas
    (search rules) c.requires.order c.requires.word (subst (λ (a : Arena). c.args.at < end_of a) is before))

pub load_among-requires : goal.load_among-requires
load_among-requires t c =
    let arenas = c.args.arenas.now in
    let past : end_of c.first-item.result ≤ c.args.at = grind (arith, nat_tests) in
    let some : 0 < length arenas = search rules in
    let word : IsWordOf (regions_of_all (rest_of arenas)) c.args.at = rest_word c.first-item.result c.args.at arenas some
    c.requires.order c.requires.word (subst (λ (a : Arena). end_of a ≤ c.args.at) c.first-item.is past) in
    let order : IsTrue (are_in_order (rest_of arenas)) = rest_order arenas c.requires.order in
    let less : length (rest_of arenas) < length arenas = rest_less arenas some in
    search rules
