use Rattle.std.proofs.Common.{◌*◌, ◌∙◌, ap, subst, arith, sym}
use Rattle.paging_core.specs.Area.{in_area}
use Rattle.paging_core.specs.Memory.{frame_count}
use Rattle.paging_core.proofs.Areas.{free_stays, known_moved}
use Rattle.kernel_tables.specs.Changes.{IsLargeUnmapped}
use Rattle.kernel_tables.specs.TableState.{TableState}
use Rattle.kernel_tables.proofs.LargePages.{gone_outside}
use Rattle.kernel_tables.proofs.Changed.{only_seen, flush_of, other_slot}
use Rattle.kernel_tables.proofs.tables.Tables.unmap_large.Goals as goal

pub invariant_of-self : goal.invariant_of-self
invariant_of-self c =
    let gone = (c.unmap_large.ensures.cleared.gone c.self.inside.free c.self.invariant.tree).removed in
    let size = gone.size in
    record {
      root_in = omega (arith, c.self.invariant.root_in, size);
      tree = (c.unmap_large.ensures.cleared.gone c.self.inside.free c.self.invariant.tree).tree;
      known = known_moved c.self.inside.memory.area c.unmap_large.new.frames.area c.self.inside.free
          (frame_count c.unmap_large.new.frames.words) c.unmap_large.ensures.cleared.same_area
          (free_stays c.self.inside.memory.area c.self.inside.free c.self.inside.free
          (frame_count c.self.inside.memory.words) (frame_count c.unmap_large.new.frames.words) c.self.invariant.known
          (omega arith) (λ f e. e));
      apart = λ page place is kept.
          ap (λ a. in_area a place.frame) c.unmap_large.ensures.cleared.same_area
          ∙ gone_outside c.self.inside.shared c.self.inside.memory.area c.self.inside.memory.words c.unmap_large.new.frames.words
          c.self.inside.root c.args.page gone c.self.invariant.apart page place is kept;
      part = λ whole. c.self.invariant.part (sym c.unmap_large.ensures.cleared.same_area ∙ whole);
    }

pub returns-clause-only : goal.returns-clause-only
returns-clause-only c =
    let gone = (c.unmap_large.ensures.cleared.gone c.self.inside.free c.self.invariant.tree).removed in
    only_seen c.self.view_is c.unmap_large.ensures.cleared.same_area gone.size (λ l n met lt is.
    gone.others l n (omega (arith, lt)) (λ e _. absurd (omega (arith, lt, e))) ∙ is)
    (λ other canonical not. (c.unmap_large.ensures.cleared.gone c.self.inside.free c.self.invariant.tree).elsewhere other canonical (other_slot c.args.page other not))

pub returns-clause-flush : goal.returns-clause-flush
returns-clause-flush c = flush_of (returns-clause-only c)

pub returns-clause-unmapped : goal.returns-clause-unmapped
returns-clause-unmapped c =
    let gone = (c.unmap_large.ensures.cleared.gone c.self.inside.free c.self.invariant.tree).removed in
    subst (λ (s : TableState). IsLargeUnmapped s (record {
      words = c.unmap_large.new.frames.words;
      area =
          c.unmap_large.new.frames.area;
      root = c.self.inside.root;
      free = c.self.inside.free;
      shared = c.self.inside.shared;
    }) c.args.page
    (512 * c.unmap_large.result))
    c.self.view_is (record { led = c.unmap_large.ensures.frame; unmapped = gone.gone; cleared = c.unmap_large.ensures.cleared.cleared })
