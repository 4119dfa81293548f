use Rattle.std.proofs.Common.{◌+◌, ℕ, refl, subst}
use Rattle.paging_core.specs.Mapping.{IsRangeAdded}
use Rattle.meminterval.specs.Tree.{entries}
use Rattle.address_space.specs.Joining.{IsRunAdded}
use Rattle.address_space.specs.Seen.{tables_of}
use Rattle.address_space.proofs.Mapped.{clear_walks, mapped_kept, mapped_map}
use Rattle.address_space.proofs.space.Space.map_clear.Goals as goal

pub map_range-requires-clause-mappable : goal.map_range-requires-clause-mappable
map_range-requires-clause-mappable c = record {
  range = c.requires.range;
  unmapped = clear_walks (tables_of c.args.self.now) c.args.first c.args.pages c.args.self.now.kept c.requires.range c.requires.clear;
  room = c.requires.frames;
}

pub invariant_of-self-2 : goal.invariant_of-self-2
invariant_of-self-2 c = record {
  kept = mapped_kept (tables_of c.args.self.now) c.map_range.new.frames c.map_range.new.pool (entries c.add.new.runs) c.args.first c.args.pages c.args.rights
      (record {
        kept = c.args.self.now.kept;
        range = c.requires.range;
        added = subst (IsRangeAdded c.args.self.now.frames c.map_range.new.frames c.args.self.now.pool c.map_range.new.pool
            c.args.self.now.root c.args.first c.args.pages) c.bits.ensures c.map_range.ensures.added;
        known = c.map_range.ensures.known;
        elsewhere = c.map_range.ensures.clear.elsewhere;
        zeros = c.map_range.ensures.clear.zeros;
        bytes = c.map_range.ensures.clear.bytes;
        runs_added = subst (λ (n : ℕ). IsRunAdded (entries c.args.self.now.runs) (entries c.add.new.runs) n
            (n + c.args.pages)
            c.args.rights) c.number-number.ensures.value c.in_ok-add.ensures.ok;
      });
}

pub returns-clause-ok : goal.returns-clause-ok
returns-clause-ok c = record {
  map = mapped_map (tables_of c.args.self.now) c.map_range.new.frames c.map_range.new.pool (entries c.add.new.runs) c.args.first c.args.pages c.args.rights
      (record {
        kept = c.args.self.now.kept;
        range = c.requires.range;
        added = subst (IsRangeAdded c.args.self.now.frames c.map_range.new.frames c.args.self.now.pool c.map_range.new.pool
            c.args.self.now.root c.args.first c.args.pages) c.bits.ensures c.map_range.ensures.added;
        known = c.map_range.ensures.known;
        elsewhere = c.map_range.ensures.clear.elsewhere;
        zeros = c.map_range.ensures.clear.zeros;
        bytes = c.map_range.ensures.clear.bytes;
        runs_added = subst (λ (n : ℕ). IsRunAdded (entries c.args.self.now.runs) (entries c.add.new.runs) n
            (n + c.args.pages)
            c.args.rights) c.number-number.ensures.value c.in_ok-add.ensures.ok;
      });
  root = refl;
  added = subst (IsRangeAdded c.args.self.now.frames c.map_range.new.frames c.args.self.now.pool c.map_range.new.pool
      c.args.self.now.root c.args.first c.args.pages) c.bits.ensures c.map_range.ensures.added;
}
