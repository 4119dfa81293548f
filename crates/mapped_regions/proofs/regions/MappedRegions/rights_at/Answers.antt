use Rattle.std.proofs.Common.{◌/◌, refl, ap, ◌∙◌, option_map, Bool}
use Rattle.paging_core.specs.Walk.{walk_of}
use Rattle.paging_core.specs.declared.page_table.Rights.{Rights}
use Rattle.machine_model.specs.Machine.{rights_of}
use Rattle.mapped_regions.specs.Regions.{kind_at}
use Rattle.mapped_regions.specs.Shown.{paged_view}
use Rattle.mapped_regions.proofs.Looked.{found_at, walked_none, walked_some}
use Rattle.mapped_regions.proofs.regions.MappedRegions.rights_at.Goals as goal

pub returns-in_default : goal.returns-in_default
returns-in_default c =
    let words = c.args.self.now.frames in
    let root = c.args.self.now.root in
    let place = walk_of words root (c.args.address / 4096) in
    let walked = c.walk.ensures.found ∙ ap (walk_of words root) (c.containing_address-page.ensures ∙ ap (λ a. a / 4096) c.new.ensures) in
    let region = option_map (λ (kind : Bool × Rights). kind.1) (kind_at c.args.self.now.regions c.args.address) in
    record {
      region = walked_none c.walk.result place region walked (found_at (paged_view c.args.self.now) c.args.address
          c.args.self.now.mapped c.requires) c.in_default.is;
      walk = walked_none c.walk.result place (option_map rights_of place) walked refl c.in_default.is;
    }

pub returns : goal.returns
returns c =
    let words = c.args.self.now.frames in
    let root = c.args.self.now.root in
    let place = walk_of words root (c.args.address / 4096) in
    let walked = c.walk.ensures.found ∙ ap (walk_of words root) (c.containing_address-page.ensures ∙ ap (λ a. a / 4096) c.new.ensures) in
    let region = option_map (λ (kind : Bool × Rights). kind.1) (kind_at c.args.self.now.regions c.args.address) in
    record {
      region = walked_some c.walk.result c.in-Some.mapped place region walked
          (found_at (paged_view c.args.self.now) c.args.address c.args.self.now.mapped c.requires) c.in-Some.is;
      walk = walked_some c.walk.result c.in-Some.mapped place (option_map rights_of place) walked refl c.in-Some.is;
    }
