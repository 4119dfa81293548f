use Rattle.std.proofs.Common.{length, refl, rules}
use Rattle.meminterval.specs.Tree.{entries}
use Rattle.address_space.specs.Access.{IsGoodSpan}
use Rattle.address_space.specs.Runs.{rights_in}
use Rattle.address_space.specs.Seen.{tables_of}
use Rattle.address_space.proofs.Written.{written_kept, written_map}
use Rattle.address_space.proofs.Accessed.{granted_mapped}
use Rattle.address_space.proofs.space.Space.store.Goals as goal
use Rattle.std.specs.Prelude.{true}

pub invariant_of-self : goal.invariant_of-self
invariant_of-self c = record {
  kept = written_kept (tables_of c.args.self.now) c.write_bytes.new.frames c.args.at c.args.bytes.now c.args.self.now.kept
      c.write_bytes.ensures.size c.write_bytes.ensures.tree c.write_bytes.ensures.walks c.write_bytes.ensures.larges;
}

pub returns-clause-ok : goal.returns-clause-ok
returns-clause-ok c =
    let span : IsGoodSpan c.args.at (length c.args.bytes.now) = search rules in
    record {
      map = written_map (tables_of c.args.self.now) c.write_bytes.new.frames c.args.at c.args.bytes.now c.args.self.now.kept c.write_bytes.ensures.bytes span
          (λ any h k. granted_mapped (rights_in (entries c.args.self.now.runs)) true c.args.user c.args.at
          (length c.args.bytes.now) any c.in_default.ensures.granted h k);
      free = refl;
      root = refl;
      runs = refl;
      size = c.write_bytes.ensures.size;
      met = c.write_bytes.ensures.walks;
      words = c.write_bytes.ensures.words;
    }
