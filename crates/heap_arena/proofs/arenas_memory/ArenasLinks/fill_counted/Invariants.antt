use Rattle.std.specs.Prelude.{◌≡◌, ◌+◌}
use Rattle.heap_memory.specs.Words.{AreFilled}
use Rattle.heap_arena.specs.Arenas.{regions_of_all, word_among, AreWrittenAt}
use Rattle.heap_arena.proofs.arenas_memory.ArenasLinks.fill_counted.Given as goal

abbrev pub invariant-loop-i : goal.invariant-loop-i
invariant-loop-i g l = record {
  filled : AreFilled (regions_of_all l.fn.self.arenas.items) (word_among l.fn.self.arenas.items) l.at l.i l.value (word_among l.self.arenas.items);
  written : AreWrittenAt l.at l.i l.fn.self.arenas.items l.self.arenas.items;
  counted : l.steps ≡ l.fn.steps + l.i;
}
