use Rattle.std.specs.Prelude.{◌≡◌, ◌+◌, ◌*◌}
use Rattle.heap_memory.specs.Words.{AreCopied}
use Rattle.heap_arena.specs.Arenas.{regions_of_all, word_among, AreWrittenAt}
use Rattle.heap_arena.proofs.arenas_memory.ArenasLinks.copy_counted.Given as goal

abbrev pub invariant-loop-i : goal.invariant-loop-i
invariant-loop-i g l = record {
  copied : AreCopied (regions_of_all l.fn.self.arenas.items) (word_among l.fn.self.arenas.items) l.from l.to l.i (word_among l.self.arenas.items);
  written : AreWrittenAt l.to l.i l.fn.self.arenas.items l.self.arenas.items;
  counted : l.steps ≡ l.fn.steps + 2 * l.i;
}
