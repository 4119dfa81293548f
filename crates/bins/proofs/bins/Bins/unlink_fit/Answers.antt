use Rattle.std.proofs.Common.{ℕ, List, ap, arith, ◌∙◌}
use Rattle.bins.specs.Index.{first_or}
use Rattle.bins.proofs.OneIndex.{one_index}
use Rattle.bins.proofs.bins.Bins.unlink_fit.Goals as goal

pub returns-else-size-lt-LEAST_LARGE-clause-unlinked : goal.returns-else-size-lt-LEAST_LARGE-clause-unlinked
returns-else-size-lt-LEAST_LARGE-clause-unlinked g c = record {
  linked = λ index linked is_in.
      let r = c.requires.linked in
      let one = one_index (g.M.Links.regions c.args.memory.now) (g.M.Links.word c.args.memory.now) c.args.self.now r.0 index r.1 linked c.args.size in
      c.unlink_node.ensures.unlinked.linked index c.args.size (omega arith) linked is_in
      (r.3 (omega arith) ∙ ap (λ (cs : List ℕ). first_or 0 cs) one);
  words = λ index linked is_in.
      let r = c.requires.linked in
      let one = one_index (g.M.Links.regions c.args.memory.now) (g.M.Links.word c.args.memory.now) c.args.self.now r.0 index r.1 linked c.args.size in
      c.unlink_node.ensures.unlinked.words index c.args.size (omega arith) linked is_in
      (r.3 (omega arith) ∙ ap (λ (cs : List ℕ). first_or 0 cs) one);
  asks = c.unlink_node.ensures.unlinked.asks;
}
