use Rattle.std.proofs.Common.{◌≡◌, false, ap, subst, ◌∙◌, arith, sym}
use Rattle.paging_core.specs.Area.{Whole, in_area}
use Rattle.paging_core.specs.Mapping.{IsPageAdded}
use Rattle.kernel_tables.specs.TableState.{TableState, sees_area}
use Rattle.kernel_tables.proofs.Sound.{added_outside}
use Rattle.kernel_tables.proofs.Changed.{only_seen, other_page}
use Rattle.kernel_tables.proofs.KeptWords.{added_words_seen}
use Rattle.kernel_tables.proofs.tables.Tables.add_page.Goals as goal
use Rattle.paging_core.specs.Pool.{is_frame_free}

pub invariant_of-self : goal.invariant_of-self
invariant_of-self c =
    let used : c.self.inside.memory.area ≡ Whole → is_frame_free c.self.inside.free c.args.frame ≡ false = λ whole. absurd (c.self.invariant.part whole) in
    let added = (c.map_at.ensures.mapped c.self.inside.free c.self.invariant.tree used).added in
    let size = added.size in
    record {
      root_in = omega (arith, c.self.invariant.root_in, size);
      tree = (c.map_at.ensures.mapped c.self.inside.free c.self.invariant.tree used).tree;
      known = c.map_at.ensures.known c.self.inside.free c.self.invariant.known;
      apart = λ page place is kept.
          ap (λ a. in_area a place.frame) c.map_at.ensures.area
          ∙ added_outside c.self.inside.shared c.self.inside.memory.area c.self.inside.memory.words c.map_at.new.frames.words c.self.inside.free
          c.self.inside.free c.self.inside.root c.args.page c.args.frame c.args.bits
          added
          (λ kept. ap (λ (s : TableState). in_area s.area c.args.frame) c.self.view_is ∙ c.requires.outside (sym (ap (λ (s : TableState). sees_area s c.args.bits.user) c.self.view_is) ∙ kept))
          c.self.invariant.apart page place is kept;
      part = λ whole. c.self.invariant.part (sym c.map_at.ensures.area ∙ whole);
    }

pub returns-in-Entry-clause-added : goal.returns-in-Entry-clause-added
returns-in-Entry-clause-added c =
    subst (λ (s : TableState). IsPageAdded s.words c.map_at.new.frames.words s.free c.self.inside.free s.root c.args.page
    c.args.frame c.args.bits) c.self.view_is
    (c.map_at.ensures.mapped c.self.inside.free c.self.invariant.tree
    (λ whole. absurd (c.self.invariant.part whole))).added

pub invariant_of-self-in_default : goal.invariant_of-self-in_default
invariant_of-self-in_default c =
    let added = c.map_page.ensures.put.added in
    let size = added.size in
    record {
      root_in = omega (arith, c.self.invariant.root_in, size);
      tree = c.map_page.ensures.put.standing.tree;
      known = c.map_page.ensures.put.standing.known;
      apart = λ page place is kept.
          ap (λ a. in_area a place.frame) c.map_page.ensures.put.same_area
          ∙ added_outside c.self.inside.shared c.self.inside.memory.area c.self.inside.memory.words c.map_page.new.frames.words
          c.self.inside.free c.map_page.new.pool c.self.inside.root c.args.page c.args.frame c.args.bits
          added
          (λ kept. ap (λ (s : TableState). in_area s.area c.args.frame) c.self.view_is ∙ c.requires.outside (sym (ap (λ (s : TableState). sees_area s c.args.bits.user) c.self.view_is) ∙ kept))
          c.self.invariant.apart page place is kept;
      part = λ whole. c.self.invariant.part (sym c.map_page.ensures.put.same_area ∙ whole);
    }

pub returns-in-Entry-clause-only : goal.returns-in-Entry-clause-only
returns-in-Entry-clause-only c =
    let used : c.self.inside.memory.area ≡ Whole → is_frame_free c.self.inside.free c.args.frame ≡ false = λ whole. absurd (c.self.invariant.part whole) in
    let added = (c.map_at.ensures.mapped c.self.inside.free c.self.invariant.tree used).added in
    only_seen c.self.view_is c.map_at.ensures.area added.size added.stayed
    (λ other canonical not. (c.map_at.ensures.mapped c.self.inside.free c.self.invariant.tree used).elsewhere other canonical (other_page c.args.page other not))

pub returns-in_default-clause-only : goal.returns-in_default-clause-only
returns-in_default-clause-only c =
    let added = c.map_page.ensures.put.added in
    only_seen c.self.view_is c.map_page.ensures.put.same_area added.size added.stayed
    (λ other canonical not. c.map_page.ensures.put.elsewhere other canonical (other_page c.args.page other not))

pub returns-in-Entry-clause-words : goal.returns-in-Entry-clause-words
returns-in-Entry-clause-words c =
    let used : c.self.inside.memory.area ≡ Whole → is_frame_free c.self.inside.free c.args.frame ≡ false = λ whole. absurd (c.self.invariant.part whole) in
    let put = c.map_at.ensures.mapped c.self.inside.free c.self.invariant.tree used in
    added_words_seen c.self.view_is c.args.page c.args.frame c.args.bits put.added put.tree

pub returns-in_default-clause-words : goal.returns-in_default-clause-words
returns-in_default-clause-words c =
    let put = c.map_page.ensures.put in
    added_words_seen c.self.view_is c.args.page c.args.frame c.args.bits put.added put.standing.tree
