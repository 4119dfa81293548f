use Rattle.std.proofs.Common.{rules, ◌∙◌, ap, option_map, sym, subst}
use Rattle.std.specs.Prelude.{IsSome}
use Rattle.paging_core.specs.Walk.{walk_of, mapped_place}
use Rattle.paging_core.proofs.PageChanged.{some_place}
use Rattle.address_space.proofs.Mapped.{by_table}
use Rattle.address_space.proofs.Unmapped.{not_there}
use Rattle.address_space.proofs.Written.{walk_same}
use Rattle.address_space.proofs.Duplicated.{one_copied}
use Rattle.address_space.proofs.copying.copy_to.Goals as goal

pub protect_page-requires-clause-page : goal.protect_page-requires-clause-page
protect_page-requires-clause-page c = record {
  rooted = search rules;
  mapped = let t = c.requires.tables.tree in
      subst IsSome (sym (walk_same c.args.frames.now c.copy_page.new.frames c.args.root c.args.target (c.copy_page.ensures.kept.walks t.0 t.1))) c.requires.target;
  small = let t = c.requires.tables.tree in
      by_table c.copy_page.new.frames c.args.root c.args.target (λ slot. c.copy_page.ensures.kept.larges t.0 t.1 slot ∙ c.requires.tables.no_large slot)
      (subst IsSome (sym (walk_same c.args.frames.now c.copy_page.new.frames c.args.root c.args.target
      (c.copy_page.ensures.kept.walks t.0 t.1))) c.requires.target);
}

pub unreachable-requires : goal.unreachable-requires
unreachable-requires c =
    let t = c.requires.tables.tree in
    let one = c.copy_page.new.frames in
    not_there (walk_of one c.args.root c.args.source) (sym c.walk.ensures.found
    ∙ ap (option_map mapped_place) c.in_default.is)
    (subst IsSome (sym (walk_same c.args.frames.now one c.args.root c.args.source (c.copy_page.ensures.kept.walks t.0 t.1))) c.requires.source)

pub returns : goal.returns
returns c =
    let t = c.requires.tables.tree in
    let tree = c.copy_page.ensures.kept.tree t.0 t.1 in
    let walks = c.copy_page.ensures.kept.walks t.0 t.1 in
    let target = some_place (walk_of c.args.frames.now c.args.root c.args.target) c.requires.target in
    one_copied c.args.frames.now c.copy_page.new.frames c.protect_page.new.frames c.args.root c.args.source c.args.target (mapped_place c.in-Some.place)
    (record {
      there = sym c.in-Some.ensures.found;
      mapped = subst IsSome (sym (walk_same c.args.frames.now c.copy_page.new.frames c.args.root c.args.target walks)) c.requires.target;
      size = c.copy_page.ensures.kept.size;
      walks = walks;
      larges = c.copy_page.ensures.kept.larges t.0 t.1;
      tree = c.copy_page.ensures.kept.tree;
      tree_on = λ free tree. (c.protect_page.ensures.granted.granted free tree).tree;
      copied = c.copy_page.ensures.bytes t.0 t.1;
      others = c.copy_page.ensures.others t.0 t.1;
      changed = (c.protect_page.ensures.granted.granted t.0 tree).pages;
      gave = (c.protect_page.ensures.granted.granted t.0 tree).granted;
      elsewhere = (c.protect_page.ensures.granted.granted t.0 tree).elsewhere;
      bytes = (c.protect_page.ensures.granted.granted t.0 tree).bytes;
      free = t.0;
      was = t.1;
      at_source = sym (walk_same c.args.frames.now c.copy_page.new.frames c.args.root c.args.source walks) ∙ sym c.in-Some.ensures.found;
      to = target.0;
      at_target = target.1;
      frames = c.copy_page.ensures.words;
    })
