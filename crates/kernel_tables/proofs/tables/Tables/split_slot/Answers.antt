use Rattle.std.proofs.Common.{ap, sym, ◌∙◌, arith}
use Rattle.paging_core.specs.Area.{in_area}
use Rattle.kernel_tables.proofs.Changed.{none_seen}
use Rattle.kernel_tables.proofs.RangeChanged.{split_stay}
use Rattle.kernel_tables.proofs.tables.Tables.split_slot.Goals as goal

pub invariant_of-self : goal.invariant_of-self
invariant_of-self c =
    let split = c.split_large.ensures.split.split in
    let size = split.size in
    record {
      root_in = omega (arith, c.self.invariant.root_in, size);
      tree = c.split_large.ensures.split.standing.tree;
      known = c.split_large.ensures.split.standing.known;
      apart = λ page place is kept. ap (λ a. in_area a place.frame) c.split_large.ensures.split.same_area
          ∙ c.self.invariant.apart page place (sym (c.split_large.ensures.split.walks page) ∙ is) kept;
      part = λ whole. c.self.invariant.part (sym c.split_large.ensures.split.same_area ∙ whole);
    }

pub returns-clause-none : goal.returns-clause-none
returns-clause-none c =
    let split = c.split_large.ensures.split.split in
    none_seen c.self.view_is c.split_large.ensures.split.same_area split.size
    (split_stay c.self.inside.memory.words c.split_large.new.frames.words c.self.inside.free c.split_large.new.pool
    c.self.inside.root c.args.slot split) c.split_large.ensures.split.walks
