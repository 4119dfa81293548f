use Rattle.std.proofs.Common.{◌+◌, ◌≤◌, ◌-◌, ◌^◌, ◌<◌, ◌∙◌, inl, inr, true, refl, sym, ap, rules, arith}
use Rattle.bins.specs.Index.{without_size}
use Rattle.bins.specs.Tries.{width, IsInRange}
use Rattle.bins.proofs.Descent.{IsDescent}
use Rattle.bins.proofs.Opened.{none_in}
use Rattle.bins.proofs.Searching.{s_levels, q, s_head, s_slot, s_child, s_high, high_fits}
use Rattle.bins.proofs.Scaled.{half_scaled, next_is}
use Rattle.bins.proofs.Lesser.{IsCarried, IsNext, fit_search, exact_search, next_read}
use Rattle.bins.proofs.search.+fit_below.Goals as goal
use Rattle.bins.proofs.search.+fit_below.Goals.{After-load_counted-child, After-behind-next, After-or_less-lesser}

pub least_of-requires : goal.least_of-requires
least_of-requires g t c = record { readable = c.requires.beside }

pub returns-then-at-eq0-clause-fit : goal.returns-then-at-eq0-clause-fit
returns-then-at-eq0-clause-fit g t c = λ index read other beside_low beside_read apart.
    inl (
      (λ m a b. none_in (g.M.Links.word c.args.memory.now) index read.bin read.parent c.args.low c.args.levels c.if-at-eq0.true read.trie m
          (omega (arith, c.requires.range.above)) b),
      c.least_of.ensures.fit other beside_low beside_read,
    )

pub size-requires : goal.size-requires
size-requires g t c =
    let read = c.requires.readable.1 in
    let real : 0 < c.args.at = omega arith in
    s_head real read

pub returns-then-own-size-clause-fit : goal.returns-then-own-size-clause-fit
returns-then-own-size-clause-fit g t c = λ index read other beside_low beside_read apart.
    let real : 0 < c.args.at = omega arith in
    inr (exact_search real read c.args.known_size c.args.known (sym c.if-own-size.true ∙ c.size.ensures.value) c.requires.known)

pub slot_of-requires : goal.slot_of-requires
slot_of-requires g t c =
    let read = c.requires.readable.1 in
    let real : 0 < c.args.at = omega arith in
    (s_slot real read true).small

pub load_counted-child-requires : goal.load_counted-child-requires
load_counted-child-requires g t c =
    let read = c.requires.readable.1 in
    let real : 0 < c.args.at = omega arith in
    rw c.slot_of.ensures ((s_slot real read c.is_in_upper-is_upper.result).word)

pub overflow_add-at : goal.overflow_add-at
overflow_add-at g t c =
    let read = c.requires.readable.1 in
    let real : 0 < c.args.at = omega arith in
    let h = (s_slot real read true).small in omega (arith, h)

pub load_counted-requires : goal.load_counted-requires
load_counted-requires g t c =
    let read = c.requires.readable.1 in
    let real : 0 < c.args.at = omega arith in
    (s_slot real read true).word

-- the step to the child that was loaded, what is carried on, and the next trie beside the path
step : (g : _) (t : _) (c : After-load_counted-child g t) → IsDescent (g.M.Links.word c.args.memory.now) c.args.low c.args.levels c.args.at c.args.size
    c.is_in_upper-is_upper.result c.half_width-half.result c.slot_of.result c.load_counted-child.result
step g t c = record {
  other = λ e. c.if-own-size.false (c.size.ensures.value ∙ e);
  half_is = c.half_width-half.ensures;
  place_is = c.slot_of.ensures;
  child_is = c.load_counted-child.ensures.value;
  above = c.is_in_upper-is_upper.ensures.above;
  below = c.is_in_upper-is_upper.ensures.below;
}

carried : (g : _) (t : _) (c : After-or_less-lesser g t) →
    IsCarried (g.M.Links.word c.args.memory.now) c.args.at c.args.size (record { size = c.size.result; chunk = c.args.at })
    (record { size = c.args.known_size; chunk = c.args.known }) c.or_less-lesser.result
carried g t c = record { size_is = c.size.ensures.value; chunk_is = refl; other = c.or_less-lesser.ensures.other; same = c.or_less-lesser.ensures.same }

next : (g : _) (t : _) (c : After-behind-next g t) →
    IsNext (g.M.Links.word c.args.memory.now) c.args.levels c.args.at c.is_in_upper-is_upper.result c.load_counted.result
    c.args.beside c.args.beside_levels c.behind-next.result
next g t c = record { right_is = c.load_counted.ensures.value; turns = c.behind-next.ensures.right; goes_on = c.behind-next.ensures.so_far }

pub fit_below-requires : goal.fit_below-requires
fit_below-requires g t c κs within =
    let r = c.requires.readable in
    let read = r.1 in
    let real : 0 < c.args.at = omega arith in
    let levels : 0 < c.args.levels = s_levels real read in
    let step = step g t (goal.at.fit_below-requires g t c).After-load_counted-child in
    let low = c.low_of.ensures in
    let side = c.is_in_upper-is_upper.result in
    let bits = next_is c.args.low c.args.size c.args.levels side levels c.requires.range.few step.half_is
    c.requires.range.above c.requires.range.below c.requires.bits low step.above step.below c.next_bits.ensures in
    let next = next_read real read (next g t (goal.at.fit_below-requires g t c).After-behind-next) c.requires.deep c.requires.beside in
    let high = s_high real read in
    let below : c.args.size < c.low_of.result + width (c.args.levels - 1) = omega (arith, low, step.below, step.half_is) in
    let room : c.low_of.result + width (c.args.levels - 1) ≤ 2 ^ 64 =
    omega (arith, low, step.half_is, high, high_fits side c.args.low c.half_width-half.result, c.requires.range.fits) in
    let in_range : IsInRange c.low_of.result (c.args.levels - 1) c.args.size =
    record { few = omega arith; above = rw low step.above; below = below; fits = room } in
    let child = s_child real read side (step.child_is ∙ ap (g.M.Links.word c.args.memory.now) step.place_is) step.half_is in
    let known = c.or_less-lesser.ensures.enough c.requires.known in
    let rest = without_size (q real read).node.size r.0 in (
      omega (arith, c.decreases, levels),
      (
        search rules,
        (
          search rules,
          (in_range, (bits, (known, (next.0, ((rest, rw low child), next.1.1))))),
        ),
      ),
    )

pub returns-clause-fit : goal.returns-clause-fit
returns-clause-fit g t c = λ index read other beside_low beside_read apart.
    let real : 0 < c.args.at = omega arith in
    let step = step g t (goal.at.returns-clause-fit g t c).After-load_counted-child in
    let carried = carried g t (goal.at.returns-clause-fit g t c).After-or_less-lesser in
    let next = next g t (goal.at.returns-clause-fit g t c).After-behind-next in
    fit_search real read carried c.fit_below.result c.requires.range.above step c.low_of.ensures next c.fit_below.ensures.fit beside_read apart

pub returns-clause-counted : goal.returns-clause-counted
returns-clause-counted g t c =
    let read = c.requires.readable.1 in
    let real : 0 < c.args.at = omega arith in
    let levels : 0 < c.args.levels = s_levels real read in
    let next = next_read real read (next g t (goal.at.returns-clause-counted g t c).After-behind-next) c.requires.deep c.requires.beside in
    let deep = next.1.0 in
    omega (arith, levels, deep, c.size.ensures.counted, c.load_counted-child.ensures.counted, c.load_counted.ensures.counted, c.fit_below.ensures.counted)

pub is_in_upper-is_upper-requires-clause-bits : goal.is_in_upper-is_upper-requires-clause-bits
is_in_upper-is_upper-requires-clause-bits g t c =
    let read = c.requires.readable.1 in
    let real : 0 < c.args.at = omega arith in
    let levels = s_levels real read in
    (2 ^ (61 - c.args.levels), (half_scaled c.args.levels levels c.requires.range.few c.half_width-half.ensures, c.requires.bits))
