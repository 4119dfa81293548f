use Rattle.std.proofs.Common.{◌≢◌, ◌+◌, ◌≤◌, ◌^◌, ◌≡◌, ◌-◌, ◌<◌, ◌∙◌, ℕ, List, true, sym, rules, arith}
use Rattle.dlmalloc_chunks.specs.Head.{size_of}
use Rattle.bins.specs.Index.{IsIn}
use Rattle.bins.specs.Below.{IsHeld}
use Rattle.bins.specs.Tries.{low_at, width, IsInRange}
use Rattle.bins.proofs.Taking.{t_levels, t_slot, t_head, t_here}
use Rattle.bins.proofs.Scaled.{half_scaled, next_is}
use Rattle.bins.proofs.LeaveBelow.{LeavesBelow, rest, b_in, b_real, b_fits, b_held, b_kept, b_left}
use Rattle.bins.proofs.leave.+unlink_under.Goals as goal
use Rattle.bins.proofs.leave.+unlink_under.Goals.{After-load_counted-child}

-- the chunk leaves below the child that was loaded
leaves : (g : _) (t : _) (c : After-load_counted-child g t) (index : ℕ → List ℕ) (parent : ℕ) →
    IsHeld (g.M.Links.regions c.args.memory.now) (g.M.Links.word c.args.memory.now) index c.args.bin parent c.args.low c.args.levels c.args.at →
    IsIn c.args.chunk (index c.args.size) →
    LeavesBelow (g.M.Links.regions c.args.memory.now) (g.M.Links.word c.args.memory.now) index c.args.bin parent c.args.low c.args.levels c.args.at
    c.args.size c.args.chunk c.is_in_upper-is_upper.result c.half_width-half.result c.slot_of-place.result c.load_counted-child.result
leaves g t c index parent held chunk_in = record {
  some = c.requires.some;
  held = held;
  chunk_in = chunk_in;
  step = record {
    other = c.requires.other;
    half_is = c.half_width-half.ensures;
    place_is = c.slot_of-place.ensures;
    child_is = c.load_counted-child.ensures.value;
    above = c.is_in_upper-is_upper.ensures.above;
    below = c.is_in_upper-is_upper.ensures.below;
  };
}

pub slot_of-place-requires : goal.slot_of-place-requires
slot_of-place-requires g t c = let r = c.requires.held in (t_slot c.requires.some r.1.1.0 true).small

pub load_counted-child-requires : goal.load_counted-child-requires
load_counted-child-requires g t c = let r = c.requires.held in rw c.slot_of-place.ensures ((t_slot c.requires.some r.1.1.0 c.is_in_upper-is_upper.result).word)

pub size-below-requires : goal.size-below-requires
size-below-requires g t c =
    let r = c.requires.held in
    let l = leaves g t (goal.at.size-below-requires g t c).After-load_counted-child r.0 r.1.0 r.1.1.0 r.1.1.1 in
    t_head (b_real l) (b_held l)

pub unlink_under-requires : goal.unlink_under-requires
unlink_under-requires g t c κs within =
    let r = c.requires.held in
    let l = leaves g t (goal.at.unlink_under-requires g t c).After-load_counted-child r.0 r.1.0 r.1.1.0 r.1.1.1 in
    let real : 0 < c.load_counted-child.result = b_real l in
    let levels : 0 < c.args.levels = t_levels c.requires.some r.1.1.0 in
    let above = c.is_in_upper-is_upper.ensures.above in
    let below = c.is_in_upper-is_upper.ensures.below in
    let low = c.low_of-child_low.ensures in
    let half = c.half_width-half.ensures in
    let bits = next_is c.args.low c.args.size c.args.levels c.is_in_upper-is_upper.result levels c.requires.range.few half
    c.requires.range.above c.requires.range.below c.requires.bits low above below c.next_bits.ensures in
    let fits = b_fits l in
    let held = b_held l in
    let under : c.args.size < c.low_of-child_low.result + width (c.args.levels - 1) = omega (arith, low, below, half) in
    let room : c.low_of-child_low.result + width (c.args.levels - 1) ≤ 2 ^ 64 = omega (arith, low, fits, c.requires.range.fits) in
    let in_range : IsInRange c.low_of-child_low.result (c.args.levels - 1) c.args.size =
    record { few = omega arith; above = rw low above; below = under; fits = room } in
    let other : size_of (g.M.Links.word c.args.memory.now (c.load_counted-child.result + 8)) ≢ c.args.size =
    λ e. c.if-below-size.true (c.size-below.ensures.value ∙ e) in (
      omega (arith, c.decreases, levels),
      (
        search rules,
        (
          search rules,
          (
            real,
            (in_range, (bits, (other, (rest l, (c.args.at, (rw low held, b_in l)))))),
          ),
        ),
      ),
    )

pub returns-then-below-size-clause-left : goal.returns-then-below-size-clause-left
returns-then-below-size-clause-left g t c = λ index parent held chunk_in.
    let l = leaves g t (goal.at.returns-then-below-size-clause-left g t c).After-load_counted-child index parent held chunk_in in
    let done = c.unlink_under.ensures in
    let low = c.low_of-child_low.ensures in
    let kept = b_kept l (g.M.Links.word c.unlink_under.new.memory) low (λ i. done.left i c.args.at) in
    b_left l low (λ i. done.left i c.args.at) kept

pub unlink_here-left-requires-clause-some : goal.unlink_here-left-requires-clause-some
unlink_here-left-requires-clause-some g t c =
    let r = c.requires.held in
    b_real (leaves g t (goal.at.unlink_here-left-requires-clause-some g t c).After-load_counted-child r.0 r.1.0 r.1.1.0 r.1.1.1)

pub unlink_here-left-requires-clause-held : goal.unlink_here-left-requires-clause-held
unlink_here-left-requires-clause-held g t c =
    let r = c.requires.held in
    let l = leaves g t (goal.at.unlink_here-left-requires-clause-held g t c).After-load_counted-child r.0 r.1.0 r.1.1.0 r.1.1.1 in
    let same : c.size-below.result ≡ c.args.size = omega (arith, c.if-below-size.false) in
    let here = t_here (b_real l) (b_held l) (sym c.size-below.ensures.value ∙ same) in
    (rest l, (low_at c.is_in_upper-is_upper.result c.args.low c.half_width-half.result, (c.args.size, (b_held l, (here, b_in l)))))

pub store_counted-requires : goal.store_counted-requires
store_counted-requires g t c =
    let r = c.requires.held in
    rw (c.unlink_here-left.ensures.work.regions, c.slot_of-place.ensures) ((t_slot c.requires.some r.1.1.0 c.is_in_upper-is_upper.result).word)

pub returns-else-below-size-clause-left : goal.returns-else-below-size-clause-left
returns-else-below-size-clause-left g t c = λ index parent held chunk_in.
    let l = leaves g t (goal.at.returns-else-below-size-clause-left g t c).After-load_counted-child index parent held chunk_in in
    let same : c.size-below.result ≡ c.args.size = omega (arith, c.if-below-size.false) in
    let is = sym c.size-below.ensures.value ∙ same in
    let done = c.unlink_here-left.ensures in
    let low = c.low_of-child_low.result in
    let stored = rw done.work.regions at c.store_counted.ensures.stored in
    b_left l c.low_of-child_low.ensures (λ i h. done.left i low c.args.size h (t_here (b_real l) h is)) stored

pub is_in_upper-is_upper-requires-clause-bits : goal.is_in_upper-is_upper-requires-clause-bits
is_in_upper-is_upper-requires-clause-bits g t c =
    let levels = t_levels c.requires.some c.requires.held.1.1.0 in
    (2 ^ (61 - c.args.levels), (half_scaled c.args.levels levels c.requires.range.few c.half_width-half.ensures, c.requires.bits))
