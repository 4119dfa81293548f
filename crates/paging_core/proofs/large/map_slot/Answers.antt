use Rattle.std.proofs.Common.{◌∙◌, ℕ, ◌+◌, ◌*◌, arith, subst}
use Rattle.paging_core.specs.Large.{AreFramesCleared}
use Rattle.paging_core.proofs.RunTaken.{run_in, run_known, run_tree, run_walk, run_empty, run_missing, run_missing_of, run_used, run_unmet, slot_bytes, slot_zeros}
use Rattle.paging_core.proofs.large.map_slot.Goals as goal

pub clear_frames-requires-clause-inside : goal.clear_frames-requires-clause-inside
clear_frames-requires-clause-inside c =
    let e = c.first_frame.ensures.first in
    let b = c.requires.standing.known (512 * c.in-Some.run' + 511) (c.in-Some.ensures.run.0 (512 * c.in-Some.run' + 511) (omega arith)) in
    omega arith

pub clear_frames-requires-clause-bounded : goal.clear_frames-requires-clause-bounded
clear_frames-requires-clause-bounded c = let e = c.first_frame.ensures.fits in omega arith

pub map_large-requires-clause-standing : goal.map_large-requires-clause-standing
map_large-requires-clause-standing c = record {
  rooted = let s = c.clear_frames.ensures.size in omega (arith, c.requires.standing.rooted);
  tree = run_tree c.args.frames.now c.clear_frames.new.frames c.args.pool.now
      c.allocate_frame-run.new.self c.args.root c.in-Some.run' c.requires.standing.known c.requires.standing.tree c.in-Some.ensures.run.0
      c.in-Some.ensures.run.1 (let P : ℕ → Type 0 = λ f. AreFramesCleared c.args.frames.now c.clear_frames.new.frames f 512 in
      subst P c.first_frame.ensures.first c.clear_frames.ensures);
  known = run_known c.args.frames.now c.clear_frames.new.frames c.args.pool.now
      c.allocate_frame-run.new.self c.args.root c.in-Some.run' c.requires.standing.known c.requires.standing.tree c.in-Some.ensures.run.0
      c.in-Some.ensures.run.1 (let P : ℕ → Type 0 = λ f. AreFramesCleared c.args.frames.now c.clear_frames.new.frames f 512 in
      subst P c.first_frame.ensures.first c.clear_frames.ensures);
}

pub map_large-requires-clause-mappable : goal.map_large-requires-clause-mappable
map_large-requires-clause-mappable c = record {
  empty = run_empty c.args.frames.now c.clear_frames.new.frames c.args.pool.now
      c.allocate_frame-run.new.self c.args.root c.in-Some.run' c.requires.standing.known c.requires.standing.tree c.in-Some.ensures.run.0
      c.in-Some.ensures.run.1 (let P : ℕ → Type 0 = λ f. AreFramesCleared c.args.frames.now c.clear_frames.new.frames f 512 in
      subst P c.first_frame.ensures.first c.clear_frames.ensures) c.args.page c.requires.empty;
  below = let b = run_in c.args.frames.now c.clear_frames.new.frames c.args.pool.now c.allocate_frame-run.new.self c.args.root
      c.in-Some.run' c.requires.standing.known c.requires.standing.tree c.in-Some.ensures.run.0 c.in-Some.ensures.run.1
      (let P : ℕ → Type 0 = λ f. AreFramesCleared c.args.frames.now c.clear_frames.new.frames f 512 in
      subst P c.first_frame.ensures.first c.clear_frames.ensures) in
      let s = c.clear_frames.ensures.size in
      omega arith;
  unmet = run_unmet c.args.frames.now c.clear_frames.new.frames c.args.pool.now
      c.allocate_frame-run.new.self c.args.root c.in-Some.run' c.requires.standing.known c.requires.standing.tree c.in-Some.ensures.run.0
      c.in-Some.ensures.run.1 (let P : ℕ → Type 0 = λ f. AreFramesCleared c.args.frames.now c.clear_frames.new.frames f 512 in
      subst P c.first_frame.ensures.first c.clear_frames.ensures);
}

pub map_large-requires-clause-used : goal.map_large-requires-clause-used
map_large-requires-clause-used c = λ _. run_used c.args.frames.now c.clear_frames.new.frames c.args.pool.now
    c.allocate_frame-run.new.self c.args.root c.in-Some.run' c.requires.standing.known c.requires.standing.tree c.in-Some.ensures.run.0
    c.in-Some.ensures.run.1 (let P : ℕ → Type 0 = λ f. AreFramesCleared c.args.frames.now c.clear_frames.new.frames f 512 in
    subst P c.first_frame.ensures.first c.clear_frames.ensures)

pub map_large-requires-clause-room : goal.map_large-requires-clause-room
map_large-requires-clause-room c =
    let m = run_missing c.args.frames.now c.clear_frames.new.frames c.args.pool.now c.allocate_frame-run.new.self
    c.args.root c.in-Some.run' c.requires.standing.known c.requires.standing.tree c.in-Some.ensures.run.0 c.in-Some.ensures.run.1
    (let P : ℕ → Type 0 = λ f. AreFramesCleared c.args.frames.now c.clear_frames.new.frames f 512 in
    subst P c.first_frame.ensures.first c.clear_frames.ensures) c.args.page in
    let n = c.in-Some.ensures.count in
    omega (arith, c.requires.room)

pub returns-clause-others : goal.returns-clause-others
returns-clause-others c =
    let old = c.args.frames.now in
    let blank = c.clear_frames.new.frames in
    let taken = c.in-Some.ensures.run in
    let P : ℕ → Type 0 = λ f. AreFramesCleared old blank f 512 in
    let cleared = subst P c.first_frame.ensures.first c.clear_frames.ensures in
    record {
      elsewhere = λ other canonical ne. c.map_large.ensures.put.others.elsewhere other canonical ne
          ∙ run_walk old blank c.args.pool.now c.allocate_frame-run.new.self c.args.root c.in-Some.run' c.requires.standing.known
          c.requires.standing.tree taken.0 taken.1 cleared other;
      bytes = slot_bytes old blank c.args.pool.now c.allocate_frame-run.new.self c.args.root c.in-Some.run' c.requires.standing.known
          c.requires.standing.tree taken.0 taken.1 cleared c.map_large.new.frames c.map_large.new.pool c.args.page c.args.rights
          c.map_large.ensures.put.added c.map_large.ensures.put.standing.tree c.map_large.ensures.put.others.bytes;
    }

pub returns-clause-mapped : goal.returns-clause-mapped
returns-clause-mapped c = λ _.
    let old = c.args.frames.now in
    let blank = c.clear_frames.new.frames in
    let taken = c.in-Some.ensures.run in
    let P : ℕ → Type 0 = λ f. AreFramesCleared old blank f 512 in
    let cleared = subst P c.first_frame.ensures.first c.clear_frames.ensures in
    let missed = run_missing old blank c.args.pool.now c.allocate_frame-run.new.self c.args.root c.in-Some.run' c.requires.standing.known
    c.requires.standing.tree taken.0 taken.1 cleared c.args.page in
    record {
      added = record {
        run = c.in-Some.run';
        left = c.allocate_frame-run.new.self;
        blank = blank;
        taken = taken;
        cleared = cleared;
        added = c.map_large.ensures.put.added;
      };
      missing = λ first pages range lo hi.
          let a = c.map_large.ensures.put.missing first pages range lo hi in
          let b = run_missing_of old blank c.args.pool.now c.allocate_frame-run.new.self c.args.root c.in-Some.run' c.requires.standing.known
          c.requires.standing.tree taken.0 taken.1 cleared first pages in
          omega (arith, missed);
      count = let n = c.in-Some.ensures.count in let k = c.map_large.ensures.put.added.count in omega (arith, missed);
      zeros = slot_zeros old blank c.args.pool.now c.allocate_frame-run.new.self c.args.root c.in-Some.run' c.requires.standing.known
          c.requires.standing.tree taken.0 taken.1 cleared c.map_large.new.frames c.map_large.new.pool c.args.page c.args.rights
          c.map_large.ensures.put.added c.map_large.ensures.put.standing.tree;
    }
