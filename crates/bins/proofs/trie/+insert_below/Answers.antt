use Rattle.std.proofs.Common.{◌+◌, ◌≤◌, ◌-◌, ◌^◌, ◌<◌, ◌∙◌, true, sym, subst, rules, arith}
use Rattle.bins.specs.Tries.{width, IsInRange}
use Rattle.bins.specs.Stores.{IsWordPlace}
use Rattle.bins.proofs.Descent.{IsDescent}
use Rattle.bins.proofs.Taking.{t_levels, t_head, t_slot, t_rest}
use Rattle.bins.proofs.TrieEntry.{e_ring, e_new, e_joined, e_leaf, e_fits, e_held, e_fresh, e_child}
use Rattle.bins.proofs.Scaled.{half_scaled, next_is}
use Rattle.bins.proofs.trie.+insert_below.Goals as goal
use Rattle.bins.proofs.trie.+insert_below.Goals.{After-load_counted-child}

-- the step to the child that was loaded
step : (g : _) (t : _) (c : After-load_counted-child g t) → IsDescent (g.M.Links.word c.args.memory.now) c.args.low c.args.levels c.args.at c.args.size
    c.is_in_upper-is_upper.result c.half_width-half.result c.slot_of-place.result c.load_counted-child.result
step g t c = record {
  other = λ e. c.if-here-size.false (c.size-here.ensures.value ∙ e);
  half_is = c.half_width-half.ensures;
  place_is = c.slot_of-place.ensures;
  child_is = c.load_counted-child.ensures.value;
  above = c.is_in_upper-is_upper.ensures.above;
  below = c.is_in_upper-is_upper.ensures.below;
}

pub size-here-requires : goal.size-here-requires
size-here-requires g t c = t_head c.requires.some c.requires.held.1.1.0

pub join_ring-requires : goal.join_ring-requires
join_ring-requires g t c = let r = c.requires.held in e_ring c.requires.some r.1.1.0 r.1.1.1 c.requires.large

pub returns-then-here-size-clause-gained : goal.returns-then-here-size-clause-gained
returns-then-here-size-clause-gained g t c = λ index parent held fresh.
    e_joined c.requires.some held fresh c.requires.large (sym c.size-here.ensures.value ∙ c.if-here-size.true) c.join_ring.ensures.joined

pub slot_of-place-requires : goal.slot_of-place-requires
slot_of-place-requires g t c = (t_slot c.requires.some c.requires.held.1.1.0 true).small

pub load_counted-child-requires : goal.load_counted-child-requires
load_counted-child-requires g t c = let r = c.requires.held in
    (subst (λ p. IsWordPlace (g.M.Links.regions c.args.memory.now) p) (sym c.slot_of-place.ensures)
    (t_slot c.requires.some r.1.1.0 c.is_in_upper-is_upper.result)).word

pub make_leaf-requires : goal.make_leaf-requires
make_leaf-requires g t c = let r = c.requires.held in
    rw c.slot_of-place.ensures (e_new c.requires.some r.1.1.0 r.1.1.1 c.requires.large c.is_in_upper-is_upper.result)

pub insert_below-requires : goal.insert_below-requires
insert_below-requires g t c κs within =
    let r = c.requires.held in
    let step = step g t (goal.at.insert_below-requires g t c).After-load_counted-child in
    let real : 0 < c.load_counted-child.result = omega arith in
    let levels : 0 < c.args.levels = t_levels c.requires.some r.1.1.0 in
    let fits = e_fits c.requires.some r.1.1.0 r.1.1.1 c.requires.large step in
    let held = e_held c.requires.some r.1.1.0 r.1.1.1 c.requires.large step real in
    let fresh = e_fresh c.requires.some r.1.1.0 r.1.1.1 c.requires.large step in
    let low = c.low_of.ensures in
    let bits = next_is c.args.low c.args.size c.args.levels c.is_in_upper-is_upper.result levels c.requires.range.few step.half_is
    c.requires.range.above c.requires.range.below c.requires.bits low step.above step.below c.next_bits.ensures in
    let below : c.args.size < c.low_of.result + width (c.args.levels - 1) = omega (arith, low, step.below, step.half_is) in
    let room : c.low_of.result + width (c.args.levels - 1) ≤ 2 ^ 64 = omega (arith, low, fits, c.requires.range.fits) in
    let in_range : IsInRange c.low_of.result (c.args.levels - 1) c.args.size =
    record { few = omega arith; above = rw low step.above; below = below; fits = room } in (
      omega (arith, c.decreases, levels),
      (
        search rules,
        (
          search rules,
          (
            real,
            (in_range, (bits, (c.requires.large, (t_rest c.requires.some r.1.1.0, (c.args.at, (rw low held, fresh)))))),
          ),
        ),
      ),
    )

pub returns-then-child-eq0-clause-gained : goal.returns-then-child-eq0-clause-gained
returns-then-child-eq0-clause-gained g t c = λ index parent held fresh.
    let step = step g t (goal.at.returns-then-child-eq0-clause-gained g t c).After-load_counted-child in
    e_leaf c.requires.some held fresh c.requires.large step c.if-child-eq0.true c.make_leaf.ensures.leaf

pub returns-else-child-eq0-clause-gained : goal.returns-else-child-eq0-clause-gained
returns-else-child-eq0-clause-gained g t c = λ index parent held fresh.
    let step = step g t (goal.at.returns-else-child-eq0-clause-gained g t c).After-load_counted-child in
    e_child c.requires.some held fresh c.requires.large step (g.M.Links.word c.insert_below.new.memory) c.low_of.ensures (omega arith)
    c.insert_below.ensures.gained

pub is_in_upper-is_upper-requires-clause-bits : goal.is_in_upper-is_upper-requires-clause-bits
is_in_upper-is_upper-requires-clause-bits g t c =
    let levels : 0 < c.args.levels = t_levels c.requires.some c.requires.held.1.1.0 in
    (2 ^ (61 - c.args.levels), (half_scaled c.args.levels levels c.requires.range.few c.half_width-half.ensures, c.requires.bits))
