use Rattle.std.specs.Prelude.{◌+◌, ◌*◌, List}
use Rattle.std.proofs.Common.{subst, arith}
use Rattle.heap_memory.specs.declared.grant.Grant.{Grant}
use Rattle.heap_memory.specs.Words.{IsStored}
use Rattle.heap_memory.proofs.WordRuns.{filled_none, filled_more}
use Rattle.heap_arena.specs.declared.arena.Arena.{Arena}
use Rattle.heap_arena.specs.Arenas.{regions_of_all, word_among}
use Rattle.heap_arena.proofs.ArenaLists.{written_none, written_more}
use Rattle.heap_arena.proofs.arenas_memory.ArenasLinks.fill_counted.Goals as goal

pub loop-i-init : goal.loop-i-init
loop-i-init g c =
    let olds : List Arena = c.args.self.now.arenas.items in
    record {
      filled = filled_none (regions_of_all olds) (word_among olds) c.args.at c.args.value;
      written = written_none c.args.at olds;
      counted = omega arith;
    }

pub loop-i-preserved : goal.loop-i-preserved
loop-i-preserved g c =
    let kept = c.loop-i.invariant in
    let olds : List Arena = c.args.self.now.arenas.items in
    let mids : List Arena = c.loop-i.self.arenas.items in
    let news : List Arena = c.store_counted.new.self.arenas.items in
    let stored = subst (λ (regions : List Grant). IsStored regions (word_among mids) (c.args.at + 8 * c.loop-i.i)
    c.args.value (word_among news)) kept.written.regions c.store_counted.ensures.put.stored in
    record {
      filled = filled_more (regions_of_all olds) (word_among olds) (word_among mids) (word_among news) c.args.at c.args.count c.loop-i.i c.args.value
          c.requires c.loop-i-test.true kept.filled stored;
      written = written_more c.args.at c.loop-i.i olds mids news kept.written c.store_counted.ensures.put.written;
      counted = omega (arith, kept.counted, c.store_counted.ensures.counted);
    }
