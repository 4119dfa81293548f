use Rattle.std.proofs.Common.{rules, ◌*◌, ◌∙◌, ap, arith, sym}
use Rattle.paging_core.specs.Area.{in_area, area_meets}
use Rattle.kernel_tables.specs.TableState.{TableState, sees_area}
use Rattle.kernel_tables.proofs.LargePages.{large_outside}
use Rattle.kernel_tables.proofs.Changed.{only_seen, other_slot}
use Rattle.kernel_tables.proofs.KeptWords.{large_words_seen}
use Rattle.kernel_tables.proofs.tables.Tables.add_large.Goals as goal
use Rattle.kernel_tables.proofs.Sound.{part_run_unmet}

pub map_large-requires-clause-mappable : goal.map_large-requires-clause-mappable
map_large-requires-clause-mappable c = record {
  empty = search rules;
  below = search rules;
  unmet = part_run_unmet c.self.inside.memory.area c.self.inside.memory.words c.self.inside.root (512 * c.args.frame) c.self.invariant.part;
}

pub invariant_of-self : goal.invariant_of-self
invariant_of-self c =
    let added = c.map_large.ensures.put.added in
    let size = added.size in
    record {
      root_in = omega (arith, c.self.invariant.root_in, size);
      tree = c.map_large.ensures.put.standing.tree;
      known = c.map_large.ensures.put.standing.known;
      apart = λ page place is kept.
          ap (λ a. in_area a place.frame) c.map_large.ensures.put.same_area
          ∙ large_outside c.self.inside.shared c.self.inside.memory.area c.self.inside.memory.words c.map_large.new.frames.words
          c.self.inside.free c.map_large.new.pool c.self.inside.root c.args.page c.args.frame c.args.bits
          added
          (λ kept. ap (λ (s : TableState). area_meets s.area (512 * c.args.frame) 512) c.self.view_is ∙ c.requires.outside (sym (ap (λ (s : TableState). sees_area s c.args.bits.user) c.self.view_is) ∙ kept))
          c.self.invariant.apart page place is kept;
      part = λ whole. c.self.invariant.part (sym c.map_large.ensures.put.same_area ∙ whole);
    }

pub returns-clause-only : goal.returns-clause-only
returns-clause-only c =
    let added = c.map_large.ensures.put.added in
    only_seen c.self.view_is c.map_large.ensures.put.same_area added.size (λ l n met lt is. added.stayed l n met (omega (arith, lt)) is)
    (λ other canonical not. c.map_large.ensures.put.others.elsewhere other canonical (other_slot c.args.page other not))

pub returns-clause-words : goal.returns-clause-words
returns-clause-words c =
    let put = c.map_large.ensures.put in
    large_words_seen c.self.view_is c.args.page c.args.frame c.args.bits put.added put.standing.tree
