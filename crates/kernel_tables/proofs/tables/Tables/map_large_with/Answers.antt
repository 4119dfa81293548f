use Rattle.std.proofs.Common.{rules, ◌*◌, ◌∙◌, ap, sym, subst, arith}
use Rattle.paging_core.specs.Area.{in_area}
use Rattle.kernel_tables.specs.Changes.{IsLargeMapped}
use Rattle.kernel_tables.specs.TableState.{TableState, leads}
use Rattle.kernel_tables.proofs.Changed.{only_seen, other_slot, made}
use Rattle.kernel_tables.proofs.Flushed.{stays_mapped}
use Rattle.kernel_tables.proofs.LargePages.{HasNoFault, no_large_fault, slot_empty, large_outside}
use Rattle.kernel_tables.proofs.tables.Tables.map_large_with.Goals as goal
use Rattle.kernel_tables.proofs.Sound.{part_run_unmet}

pub map_large-requires-clause-mappable : goal.map_large-requires-clause-mappable
map_large-requires-clause-mappable c =
    let f = subst (λ (s : TableState). HasNoFault s c.args.page c.args.frame c.args.bits.user) (sym c.self.view_is)
    (no_large_fault c.args.self.now c.args.page c.args.frame c.args.bits.user (sym c.in-None.ensures)) in
    record {
      empty = slot_empty c.self.inside.memory.words c.self.inside.root c.args.page f.small f.no_table;
      below = search rules;
      unmet = part_run_unmet c.self.inside.memory.area c.self.inside.memory.words c.self.inside.root (512 * c.args.frame) c.self.invariant.part;
    }

pub invariant_of-self : goal.invariant_of-self
invariant_of-self c =
    let f = subst (λ (s : TableState). HasNoFault s c.args.page c.args.frame c.args.bits.user) (sym c.self.view_is)
    (no_large_fault c.args.self.now c.args.page c.args.frame c.args.bits.user (sym c.in-None.ensures)) in
    let added = c.map_large.ensures.put.added in
    let size = added.size in
    record {
      root_in = omega (arith, c.self.invariant.root_in, size);
      tree = c.map_large.ensures.put.standing.tree;
      known = c.map_large.ensures.put.standing.known;
      apart = λ page place is kept.
          ap (λ a. in_area a place.frame) c.map_large.ensures.put.same_area
          ∙ large_outside c.self.inside.shared c.self.inside.memory.area c.self.inside.memory.words c.map_large.new.frames.words
          c.self.inside.free c.map_large.new.pool c.self.inside.root c.args.page c.args.frame c.args.bits
          added f.outside c.self.invariant.apart page place is kept;
      part = λ whole. c.self.invariant.part (sym c.map_large.ensures.put.same_area ∙ whole);
    }

pub returns-in-None-clause-mapped : goal.returns-in-None-clause-mapped
returns-in-None-clause-mapped c =
    let added = c.map_large.ensures.put.added in
    subst (λ (s : TableState). IsLargeMapped s (record {
      words = c.map_large.new.frames.words;
      area =
          c.map_large.new.frames.area;
      root = c.self.inside.root;
      free = c.map_large.new.pool;
      shared = c.self.inside.shared;
    }) c.args.page c.args.frame
    c.args.bits)
    c.self.view_is (record { mapped = added.there; added = added })

pub returns-in-None-clause-change : goal.returns-in-None-clause-change
returns-in-None-clause-change c =
    let added = c.map_large.ensures.put.added in
    made c.in-None.ensures (only_seen c.self.view_is c.map_large.ensures.put.same_area added.size (λ l n met lt is. added.stayed l n met (omega (arith, lt)) is)
    (λ other canonical not. c.map_large.ensures.put.others.elsewhere other canonical (other_slot c.args.page other not)))
    (λ other place canonical not is.
    stays_mapped c.self.inside.memory.words c.map_large.new.frames.words c.self.inside.free c.map_large.new.pool
    c.self.inside.root c.args.page c.args.frame c.args.bits
    c.map_large.ensures.put.added other place (ap (λ (s : TableState). leads s other) c.self.view_is ∙ is))
