use Rattle.std.proofs.Common.{◌≡◌, ◌*◌, []}
use Rattle.object_pool.specs.Bytes.{IsWritten}
use Rattle.object_pool.proofs.bytes.write_words.Given as goal

abbrev pub invariant-loop-k : goal.invariant-loop-k
invariant-loop-k g l = record {
  written : IsWritten (g.M.Links.regions l.fn.memory) (g.M.Links.word l.fn.memory) l.address l.bytes (8 * l.k) (g.M.Links.word l.memory);
  regions : g.M.Links.regions l.memory ≡ g.M.Links.regions l.fn.memory;
  follows : g.M.Links.follows l.fn.memory [] l.memory;
}
