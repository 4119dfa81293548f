use Rattle.std.proofs.Common.{◌≡◌, rules, ◌<◌, Some, None, arith, length, ap, ◌∙◌, sym, refl}
use Rattle.paging_core.specs.Area.{in_area}
use Rattle.paging_core.specs.Memory.{frame_count}
use Rattle.paging_core.specs.Walk.{step, top, mapped_place}
use Rattle.paging_core.proofs.Areas.{free_below, free_inside}
use Rattle.paging_core.proofs.Made.{some_free}
use Rattle.paging_core.proofs.Words.{length_cleared}
use Rattle.paging_core.proofs.tables.ensure_table.Goals as goal

pub unreachable-requires : goal.unreachable-requires
unreachable-requires g c =
    let s : step (g.M.PhysicalMemory.words c.args.frames.now) c.args.level (top c.args.table) c.args.index ≡ None =
    ap (λ m. step (g.M.PhysicalMemory.words c.args.frames.now) c.args.level (mapped_place m) c.args.index) (sym c.full.ensures) ∙ sym c.in-None.ensures.step in
    let t = rw c.in_default.is at c.take_frame.ensures.taken in
    some_free (g.P.TableFrames.free c.args.pool.now) (c.requires.room s) t.1

pub clear_frame-requires-clause-inside : goal.clear_frame-requires-clause-inside
clear_frame-requires-clause-inside g c = free_inside (g.M.PhysicalMemory.area c.args.frames.now)
    (g.P.TableFrames.free c.args.pool.now) (frame_count (g.M.PhysicalMemory.words c.args.frames.now)) c.requires.ready.known
    c.in-Some-take_frame.frame c.in-Some-take_frame.ensures.taken.0

pub clear_frame-requires-clause-frame : goal.clear_frame-requires-clause-frame
clear_frame-requires-clause-frame g c = free_below (g.M.PhysicalMemory.area c.args.frames.now)
    (g.P.TableFrames.free c.args.pool.now) (frame_count (g.M.PhysicalMemory.words c.args.frames.now)) c.requires.ready.known
    c.in-Some-take_frame.frame c.in-Some-take_frame.ensures.taken.0

pub set_word-requires-clause-entry : goal.set_word-requires-clause-entry
set_word-requires-clause-entry g c = record {
  inside = ap (λ a. in_area a c.args.table) c.clear_frame.ensures.area ∙ c.requires.ready.entry.inside;
  below = let b : c.in-Some-take_frame.frame < frame_count (g.M.PhysicalMemory.words c.args.frames.now) =
      (free_below (g.M.PhysicalMemory.area c.args.frames.now) (g.P.TableFrames.free c.args.pool.now)
      (frame_count (g.M.PhysicalMemory.words c.args.frames.now)) c.requires.ready.known) c.in-Some-take_frame.frame
      c.in-Some-take_frame.ensures.taken.0 in
      let e : length (g.M.PhysicalMemory.words c.clear_frame.new.self) ≡ length (g.M.PhysicalMemory.words c.args.frames.now) =
      ap length c.clear_frame.ensures.words ∙ length_cleared (g.M.PhysicalMemory.words c.args.frames.now) c.in-Some-take_frame.frame b in
      omega (arith, c.requires.ready.entry.below);
  bounded = c.requires.ready.entry.bounded;
}

pub returns-in-Some-clause-ensured : goal.returns-in-Some-clause-ensured
returns-in-Some-clause-ensured g c =
    let s : step (g.M.PhysicalMemory.words c.args.frames.now) c.args.level (top c.args.table) c.args.index ≡ Some (mapped_place c.in-Some.met) =
    ap (λ m. step (g.M.PhysicalMemory.words c.args.frames.now) c.args.level (mapped_place m) c.args.index) (sym c.full.ensures) ∙ sym c.in-Some.ensures.step in
    rw s (refl, refl, refl)

pub returns-in-Some-take_frame-clause-ensured : goal.returns-in-Some-take_frame-clause-ensured
returns-in-Some-take_frame-clause-ensured g c =
    let s : step (g.M.PhysicalMemory.words c.args.frames.now) c.args.level (top c.args.table) c.args.index ≡ None =
    ap (λ m. step (g.M.PhysicalMemory.words c.args.frames.now) c.args.level (mapped_place m) c.args.index) (sym c.full.ensures) ∙ sym c.in-None.ensures.step in
    rw s (search rules)

pub returns-in-Some-take_frame-clause-area : goal.returns-in-Some-take_frame-clause-area
returns-in-Some-take_frame-clause-area g c = c.set_word.ensures.area ∙ c.clear_frame.ensures.area
