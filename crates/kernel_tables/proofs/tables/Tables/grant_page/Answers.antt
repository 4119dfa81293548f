use Rattle.std.proofs.Common.{ap, ◌∙◌, ◌&&◌, arith, sym}
use Rattle.paging_core.specs.Area.{in_area}
use Rattle.paging_core.specs.Memory.{frame_count}
use Rattle.paging_core.proofs.Areas.{free_stays, known_moved}
use Rattle.kernel_tables.proofs.Sound.{regranted_outside, hidden_of}
use Rattle.kernel_tables.proofs.EntryChanges.{entry_granted}
use Rattle.kernel_tables.proofs.Granted.{one_place}
use Rattle.kernel_tables.proofs.tables.Tables.grant_page.Goals as goal
use Rattle.kernel_tables.specs.Grants.{given_by, user_of}
use Rattle.paging_core.specs.Walk.{walk_of}
use Rattle.kernel_tables.specs.TableState.{TableState, place_in, gives_area}

pub invariant_of-self : goal.invariant_of-self
invariant_of-self c =
    let all = (c.protect_page.ensures.granted.granted c.self.inside.free c.self.invariant.tree).pages in
    let size = all.size in
    record {
      root_in = omega (arith, c.self.invariant.root_in, size);
      tree = (c.protect_page.ensures.granted.granted c.self.inside.free c.self.invariant.tree).tree;
      known = known_moved c.self.inside.memory.area c.protect_page.new.frames.area c.self.inside.free
          (frame_count c.protect_page.new.frames.words) c.protect_page.ensures.granted.same_area
          (free_stays c.self.inside.memory.area c.self.inside.free c.self.inside.free
          (frame_count c.self.inside.memory.words) (frame_count c.protect_page.new.frames.words) c.self.invariant.known
          (omega arith) (λ f e. e));
      apart = λ page place is kept.
          ap (λ a. in_area a place.frame) c.protect_page.ensures.granted.same_area
          ∙ regranted_outside c.self.inside.shared c.self.inside.memory.area c.self.inside.memory.words c.protect_page.new.frames.words
          c.self.inside.root c.args.page c.bits.result all
          (hidden_of c.self.inside.shared c.self.inside.memory.area c.self.inside.memory.words c.self.inside.root c.args.page c.bits.result.user
          c.self.invariant.apart
          (ap (λ user. user && place_in c.self.inside.memory.area (walk_of c.self.inside.memory.words c.self.inside.root c.args.page)) c.bits.ensures.user
          ∙ (ap (λ (s : TableState). gives_area s c.args.page (user_of c.args.grant)) c.self.view_is ∙ c.requires.hidden)))
          c.self.invariant.apart page place is kept;
      part = λ whole. c.self.invariant.part (sym c.protect_page.ensures.granted.same_area ∙ whole);
    }

pub returns : goal.returns
returns c =
    let changed = c.protect_page.ensures.granted.changed in
    let led = sym c.in-Some.ensures.found in
    entry_granted c.self.view_is c.protect_page.ensures.granted.same_area (given_by c.args.grant)
    (c.protect_page.ensures.granted.granted c.self.inside.free c.self.invariant.tree) changed
    (c.bits.ensures.value ∙ ap (given_by c.args.grant) (one_place led changed.was))
