use Rattle.std.specs.Prelude.{◌≡◌, ◌<◌, ◌≤◌, length, slice_index_or, IsTrue}
use Rattle.std.proofs.Common.{◌∙◌, rules, sym, subst, arith}
use Rattle.std.proofs.lemmas.Bool.Decides.{nat_tests}
use Rattle.heap_memory.specs.Regions.{IsWordOf}
use Rattle.heap_arena.specs.declared.arena.Arena.{Arena}
use Rattle.heap_arena.specs.Arena.{end_of}
use Rattle.heap_arena.specs.Arenas.{are_in_order, regions_of_all}
use Rattle.heap_arena.proofs.ArenaLists.{index_any, rest_of, rest_less, first_word, rest_word, rest_order, stored_first, stored_rest, written_first, written_rest}
use Rattle.heap_arena.proofs.among.+store_among.Goals as goal

pub store-requires : goal.store-requires
store-requires t c =
    let arenas = c.args.arenas.now in
    let some : 0 < length arenas = search rules in
    let first = c.index-arenas-0-then-at-end.result in
    let before : c.args.at < end_of c.index-arenas-0.result = grind (arith, nat_tests) in
    let is : slice_index_or arenas 0 first ≡ c.index-arenas-0.result = index_any arenas first c.index-arenas-0.result some ∙ sym c.index-arenas-0.is in
    first_word first c.args.at arenas some c.requires.order c.requires.word (subst (λ (a : Arena). c.args.at < end_of a) (sym is) before)

pub store_among-requires : goal.store_among-requires
store_among-requires t c =
    let arenas = c.args.arenas.now in
    let some : 0 < length arenas = search rules in
    let past : end_of (slice_index_or arenas 0 c.index-arenas-0.result) ≤ c.args.at = rw (sym c.index-arenas-0.is) (grind (arith, nat_tests)) in
    let word : IsWordOf (regions_of_all (rest_of arenas)) c.args.at = rest_word c.index-arenas-0.result c.args.at arenas
    some c.requires.order c.requires.word past in
    let order : IsTrue (are_in_order (rest_of arenas)) = rest_order arenas c.requires.order in
    let less : length (rest_of arenas) < length arenas = rest_less arenas some in
    search rules

pub returns-then-at-end : goal.returns-then-at-end
returns-then-at-end t c =
    let arenas = c.args.arenas.now in
    let some : 0 < length arenas = search rules in
    let first = c.index-arenas-0-then-at-end.result in
    let before : c.args.at < end_of c.index-arenas-0.result = grind (arith, nat_tests) in
    let is : slice_index_or arenas 0 first ≡ c.index-arenas-0.result = index_any arenas first c.index-arenas-0.result some ∙ sym c.index-arenas-0.is in
    let put = c.store.ensures in
    record {
      stored = stored_first arenas first c.store.new.self c.args.at c.args.value some c.requires.order
          (subst (λ (a : Arena). c.args.at < end_of a) (sym is) before) put.written.follows.same put.stored;
      written = written_first arenas first c.store.new.self c.args.at some put.written;
    }

pub returns-else-at-end : goal.returns-else-at-end
returns-else-at-end t c =
    let arenas = c.args.arenas.now in
    let some : 0 < length arenas = search rules in
    let past : end_of (slice_index_or arenas 0 c.index-arenas-0.result) ≤ c.args.at = rw (sym c.index-arenas-0.is) (grind (arith, nat_tests)) in
    record {
      stored = stored_rest arenas c.index-arenas-0.result c.store_among.new.arenas c.args.at c.args.value some c.requires.order past c.store_among.ensures.stored;
      written = written_rest arenas c.store_among.new.arenas c.args.at some c.store_among.ensures.written;
    }
