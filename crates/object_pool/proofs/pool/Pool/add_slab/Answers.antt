use Rattle.std.proofs.Common.{rules, ap, subst}
use Rattle.object_pool.specs.Pool.{KeepsAll}
use Rattle.object_pool.proofs.pool.Pool.add_slab.Goals as goal

pub returns-clause-changed : goal.returns-clause-changed
returns-clause-changed g c = record {
  kept = subst (λ heap. KeepsAll g.A.Links.word heap c.add.new.self.heap) (ap (λ p. p.heap) c.self.view_is) c.add.ensures.kept;
  others = search rules;
}
