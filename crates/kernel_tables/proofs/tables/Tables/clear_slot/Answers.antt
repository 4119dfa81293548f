use Rattle.std.proofs.Common.{ap, ◌∙◌, arith, sym}
use Rattle.paging_core.specs.Area.{in_area}
use Rattle.paging_core.specs.Memory.{frame_count}
use Rattle.paging_core.proofs.Areas.{free_stays, known_moved}
use Rattle.kernel_tables.proofs.LargePages.{gone_outside}
use Rattle.kernel_tables.proofs.EntryChanges.{slot_cleared}
use Rattle.kernel_tables.proofs.tables.Tables.clear_slot.Goals as goal

pub invariant_of-self : goal.invariant_of-self
invariant_of-self c =
    let all = (c.unmap_large.ensures.cleared.gone c.self.inside.free c.self.invariant.tree).removed in
    let size = all.size in
    record {
      root_in = omega (arith, c.self.invariant.root_in, size);
      tree = (c.unmap_large.ensures.cleared.gone c.self.inside.free c.self.invariant.tree).tree;
      known = known_moved c.self.inside.memory.area c.unmap_large.new.frames.area c.self.inside.free
          (frame_count c.unmap_large.new.frames.words) c.unmap_large.ensures.cleared.same_area
          (free_stays c.self.inside.memory.area c.self.inside.free c.self.inside.free
          (frame_count c.self.inside.memory.words) (frame_count c.unmap_large.new.frames.words) c.self.invariant.known
          (omega arith) (λ f e. e));
      apart = λ page place is kept.
          ap (λ a. in_area a place.frame) c.unmap_large.ensures.cleared.same_area
          ∙ gone_outside c.self.inside.shared c.self.inside.memory.area c.self.inside.memory.words c.unmap_large.new.frames.words
          c.self.inside.root c.args.slot all c.self.invariant.apart page place is kept;
      part = λ whole. c.self.invariant.part (sym c.unmap_large.ensures.cleared.same_area ∙ whole);
    }

pub returns : goal.returns
returns c = slot_cleared c.self.view_is c.unmap_large.ensures.cleared.same_area (c.unmap_large.ensures.cleared.gone c.self.inside.free c.self.invariant.tree) c.unmap_large.ensures.cleared.cleared
