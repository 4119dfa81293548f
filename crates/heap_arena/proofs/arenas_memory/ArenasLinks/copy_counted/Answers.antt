use Rattle.std.specs.Prelude.{ℕ, ◌+◌, ◌*◌, List}
use Rattle.std.proofs.Common.{subst, arith}
use Rattle.heap_memory.specs.declared.grant.Grant.{Grant}
use Rattle.heap_memory.specs.Words.{IsStored}
use Rattle.heap_memory.proofs.WordRuns.{copied_none, copied_more}
use Rattle.heap_arena.specs.declared.arena.Arena.{Arena}
use Rattle.heap_arena.specs.Arenas.{regions_of_all, word_among}
use Rattle.heap_arena.proofs.ArenaLists.{written_none, written_more}
use Rattle.heap_arena.proofs.arenas_memory.ArenasLinks.copy_counted.Goals as goal

pub loop-i-init : goal.loop-i-init
loop-i-init g c =
    let olds : List Arena = c.args.self.now.arenas.items in
    record {
      copied = copied_none (regions_of_all olds) (word_among olds) c.args.from c.args.to;
      written = written_none c.args.to olds;
      counted = omega arith;
    }

pub loop-i-preserved : goal.loop-i-preserved
loop-i-preserved g c =
    let kept = c.loop-i.invariant in
    let olds : List Arena = c.args.self.now.arenas.items in
    let mids : List Arena = c.loop-i.self.arenas.items in
    let news : List Arena = c.store_counted.new.self.arenas.items in
    let Stored : List Grant → ℕ → Type 0 = λ regions value. IsStored regions (word_among mids) (c.args.to + 8 * c.loop-i.i) value (word_among news) in
    let stored = subst (λ (regions : List Grant). Stored regions (word_among mids (c.args.from + 8 * c.loop-i.i))) kept.written.regions
    (subst (Stored (regions_of_all mids)) c.load_counted-word.ensures.value c.store_counted.ensures.put.stored) in
    record {
      copied = copied_more (regions_of_all olds) (word_among olds) (word_among mids) (word_among news) c.args.from c.args.to c.args.count c.loop-i.i
          c.requires.from c.requires.to c.requires.apart c.loop-i-test.true kept.copied stored;
      written = written_more c.args.to c.loop-i.i olds mids news kept.written c.store_counted.ensures.put.written;
      counted = omega (arith, kept.counted, c.load_counted-word.ensures.counted, c.store_counted.ensures.counted);
    }
