use Rattle.std.proofs.Common.{◌≡◌, ℕ, ◌+◌, ◌<◌, length}
use Rattle.paging_core.specs.Memory.{word_at}
use Rattle.paging_core.specs.Entry.{page_entry}
use Rattle.paging_core.proofs.large.fill_table.Given as goal

abbrev pub invariant-loop-index : goal.invariant-loop-index
invariant-loop-index g l = record {
  area : g.M.PhysicalMemory.area l.frames ≡ g.M.PhysicalMemory.area l.fn.frames;
  size : length (g.M.PhysicalMemory.words l.frames) ≡ length (g.M.PhysicalMemory.words l.fn.frames);
  filled : (k : ℕ) → k < l.index → word_at (g.M.PhysicalMemory.words l.frames) l.table k ≡ page_entry (l.first + k) l.rights;
  others : (f i : ℕ) → i < 512 → (f ≡ l.table → i < l.index → ⊥) → word_at (g.M.PhysicalMemory.words l.frames) f i ≡ word_at
      (g.M.PhysicalMemory.words l.fn.frames) f i;
}
