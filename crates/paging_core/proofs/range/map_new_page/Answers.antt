use Rattle.std.proofs.Common.{◌<◌, ◌∙◌, arith}
use Rattle.paging_core.specs.Pool.{free_count}
use Rattle.paging_core.proofs.Made.{some_free}
use Rattle.paging_core.proofs.FreshFrame.{fresh_in, fresh_size, fresh_known, fresh_used, fresh_count}
use Rattle.paging_core.proofs.NewPage.{mid_tree, mid_walk, mid_unmet_now, mid_missing, new_page}
use Rattle.paging_core.proofs.range.map_new_page.Goals as goal

pub unreachable-requires : goal.unreachable-requires
unreachable-requires c =
    let t = rw c.in_default.is at c.allocate_frame.ensures.taken in
    let some : 0 < free_count c.args.pool.now = omega (arith, c.requires.room) in
    some_free c.args.pool.now some t.1

pub map_page-requires-clause-standing : goal.map_page-requires-clause-standing
map_page-requires-clause-standing c = record {
  rooted = let s = fresh_size c.args.frames.now c.clear_frame.new.self c.args.pool.now c.allocate_frame.new.self c.in-Some.frame
      c.requires.standing.known c.in-Some.ensures.taken.0 c.in-Some.ensures.taken.1 c.clear_frame.ensures in
      omega (arith, c.requires.standing.rooted);
  tree = mid_tree c.args.frames.now c.clear_frame.new.self c.args.pool.now c.allocate_frame.new.self c.args.root c.in-Some.frame
      c.requires.standing.rooted c.requires.standing.known c.requires.standing.tree c.in-Some.ensures.taken.0 c.in-Some.ensures.lowest
      c.in-Some.ensures.taken.1 c.clear_frame.ensures;
  known = fresh_known c.args.frames.now c.clear_frame.new.self c.args.pool.now c.allocate_frame.new.self c.in-Some.frame
      c.requires.standing.known c.in-Some.ensures.taken.0 c.in-Some.ensures.taken.1 c.clear_frame.ensures;
}

pub map_page-requires-clause-mappable : goal.map_page-requires-clause-mappable
map_page-requires-clause-mappable c = record {
  unmapped = mid_walk c.args.frames.now c.clear_frame.new.self c.args.pool.now c.allocate_frame.new.self c.args.root c.in-Some.frame
      c.requires.standing.rooted c.requires.standing.known c.requires.standing.tree c.in-Some.ensures.taken.0 c.in-Some.ensures.lowest
      c.in-Some.ensures.taken.1 c.clear_frame.ensures c.args.page
      ∙ c.requires.unmapped;
  below = let s = fresh_size c.args.frames.now c.clear_frame.new.self c.args.pool.now c.allocate_frame.new.self c.in-Some.frame
      c.requires.standing.known c.in-Some.ensures.taken.0 c.in-Some.ensures.taken.1 c.clear_frame.ensures in
      let f = fresh_in c.args.frames.now c.clear_frame.new.self c.args.pool.now c.allocate_frame.new.self c.in-Some.frame
      c.requires.standing.known c.in-Some.ensures.taken.0 c.in-Some.ensures.taken.1 c.clear_frame.ensures in
      omega arith;
  unmet = mid_unmet_now c.args.frames.now c.clear_frame.new.self c.args.pool.now c.allocate_frame.new.self c.args.root
      c.in-Some.frame c.requires.standing.rooted c.requires.standing.known c.requires.standing.tree c.in-Some.ensures.taken.0 c.in-Some.ensures.lowest
      c.in-Some.ensures.taken.1 c.clear_frame.ensures;
}

pub map_page-requires-clause-used : goal.map_page-requires-clause-used
map_page-requires-clause-used c = λ _.
    fresh_used c.args.frames.now c.clear_frame.new.self c.args.pool.now c.allocate_frame.new.self c.in-Some.frame
    c.requires.standing.known c.in-Some.ensures.taken.0 c.in-Some.ensures.taken.1 c.clear_frame.ensures

pub map_page-requires-clause-room : goal.map_page-requires-clause-room
map_page-requires-clause-room c =
    let m = mid_missing c.args.frames.now c.clear_frame.new.self c.args.pool.now c.allocate_frame.new.self c.args.root
    c.in-Some.frame c.requires.standing.rooted c.requires.standing.known c.requires.standing.tree c.in-Some.ensures.taken.0 c.in-Some.ensures.lowest
    c.in-Some.ensures.taken.1 c.clear_frame.ensures c.args.page in
    let n = fresh_count c.args.frames.now c.clear_frame.new.self c.args.pool.now c.allocate_frame.new.self c.in-Some.frame
    c.requires.standing.known c.in-Some.ensures.taken.0 c.in-Some.ensures.taken.1 c.clear_frame.ensures in
    omega (arith, c.requires.room)

pub returns : goal.returns
returns c =
    new_page c.args.frames.now c.clear_frame.new.self c.args.pool.now c.allocate_frame.new.self c.args.root c.in-Some.frame
    c.requires.standing.rooted c.requires.standing.known c.requires.standing.tree c.in-Some.ensures.taken.0 c.in-Some.ensures.lowest
    c.in-Some.ensures.taken.1 c.clear_frame.ensures
    c.map_page.new.frames c.map_page.new.pool c.args.page c.args.rights c.requires.unmapped c.map_page.ensures.put.added c.map_page.ensures.put.standing.tree
