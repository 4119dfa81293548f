use Rattle.std.proofs.Common.{◌∙◌, sym, ap, arith}
use Rattle.paging_core.specs.Area.{in_area}
use Rattle.paging_core.specs.Memory.{frame_count}
use Rattle.paging_core.specs.Walk.{walk_of, mapped_place}
use Rattle.paging_core.proofs.Areas.{free_stays, known_moved}
use Rattle.kernel_tables.specs.Grants.{given_by}
use Rattle.kernel_tables.specs.TableState.{TableState, leads, place_in}
use Rattle.kernel_tables.proofs.Sound.{regranted_outside, hidden_of, given_outside, given_none}
use Rattle.kernel_tables.proofs.EntryChanges.{entry_granted}
use Rattle.kernel_tables.proofs.Granted.{one_place}
use Rattle.kernel_tables.proofs.tables.Tables.grant_at.Goals as goal
use Rattle.kernel_tables.proofs.tables.Tables.grant_at.Goals.{else-bits-via-then-bits+else-contains, else-bits-via-else-bits}

pub invariant_of-self : goal.invariant_of-self
invariant_of-self c =
    let all = (c.protect_at.ensures.granted.granted c.self.inside.free c.self.invariant.tree).pages in
    let size = all.size in
    let led = ap (λ (s : TableState). leads s c.args.page) c.self.view_is ∙ c.requires.met in
    record {
      root_in = omega (arith, c.self.invariant.root_in, size);
      tree = (c.protect_at.ensures.granted.granted c.self.inside.free c.self.invariant.tree).tree;
      known = known_moved c.self.inside.memory.area c.protect_at.new.frames.area c.self.inside.free
          (frame_count c.protect_at.new.frames.words) c.protect_at.ensures.granted.same_area
          (free_stays c.self.inside.memory.area c.self.inside.free c.self.inside.free
          (frame_count c.self.inside.memory.words) (frame_count c.protect_at.new.frames.words) c.self.invariant.known
          (omega arith) (λ f e. e));
      apart = λ page place is kept.
          ap (λ a. in_area a place.frame) c.protect_at.ensures.granted.same_area
          ∙ regranted_outside c.self.inside.shared c.self.inside.memory.area c.self.inside.memory.words c.protect_at.new.frames.words
          c.self.inside.root c.args.page c.bits-bits.result all
          (hidden_of c.self.inside.shared c.self.inside.memory.area c.self.inside.memory.words c.self.inside.root c.args.page c.bits-bits.result.user
          c.self.invariant.apart
          (elim c.else-bits.branch [
            | else-bits-via-then-bits+else-contains w ↦ given_outside c.self.inside.memory.area c.self.inside.memory.words c.self.inside.root c.args.page
                c.bits-bits.result.user (mapped_place c.args.met) led (sym w.contains.ensures ∙ w.if-contains.false)
            | else-bits-via-else-bits w ↦ given_none c.bits-bits.result.user
                (place_in c.self.inside.memory.area (walk_of c.self.inside.memory.words c.self.inside.root c.args.page)) w.if-bits.false
          ]))
          c.self.invariant.apart page place is kept;
      part = λ whole. c.self.invariant.part (sym c.protect_at.ensures.granted.same_area ∙ whole);
    }

pub returns-clause-granted : goal.returns-clause-granted
returns-clause-granted c = λ _.
    let changed = c.protect_at.ensures.granted.changed in
    let led = ap (λ (s : TableState). leads s c.args.page) c.self.view_is ∙ c.requires.met in
    entry_granted c.self.view_is c.protect_at.ensures.granted.same_area (given_by c.args.grant)
    (c.protect_at.ensures.granted.granted c.self.inside.free c.self.invariant.tree) changed
    (c.bits-bits.ensures.value ∙ ap (given_by c.args.grant) (one_place led changed.was))
