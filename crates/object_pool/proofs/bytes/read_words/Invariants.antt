use Rattle.std.proofs.Common.{◌≡◌, ◌*◌, length, take}
use Rattle.object_pool.specs.Bytes.{bytes_at}
use Rattle.object_pool.proofs.bytes.read_words.Given as goal

abbrev pub invariant-loop-k : goal.invariant-loop-k
invariant-loop-k g l = record {
  size : length l.bytes ≡ length l.fn.bytes;
  read : take (8 * l.k) l.bytes ≡ bytes_at (g.M.Links.word l.memory) l.address (8 * l.k);
}
