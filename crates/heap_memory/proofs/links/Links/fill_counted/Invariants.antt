use Rattle.std.proofs.Common.{◌≡◌, ◌+◌, []}
use Rattle.heap_memory.specs.Words.{AreFilled}
use Rattle.heap_memory.proofs.links.Links.fill_counted.Given as goal

abbrev pub invariant-loop-i : goal.invariant-loop-i
invariant-loop-i g l = record {
  filled : AreFilled (g.Self.Links.regions l.fn.self) (g.Self.Links.word l.fn.self) l.at l.i l.value (g.Self.Links.word l.self);
  regions : g.Self.Links.regions l.self ≡ g.Self.Links.regions l.fn.self;
  follows : g.Self.Links.follows l.fn.self [] l.self;
  counted : l.steps ≡ l.fn.steps + l.i;
}
