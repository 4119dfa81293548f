use Rattle.std.proofs.Common.{◌≡◌, ◌+◌, ◌*◌, []}
use Rattle.heap_memory.specs.Words.{AreCopied}
use Rattle.heap_memory.proofs.links.Links.copy_counted.Given as goal

abbrev pub invariant-loop-i : goal.invariant-loop-i
invariant-loop-i g l = record {
  copied : AreCopied (g.Self.Links.regions l.fn.self) (g.Self.Links.word l.fn.self) l.from l.to l.i (g.Self.Links.word l.self);
  regions : g.Self.Links.regions l.self ≡ g.Self.Links.regions l.fn.self;
  follows : g.Self.Links.follows l.fn.self [] l.self;
  counted : l.steps ≡ l.fn.steps + 2 * l.i;
}
