use Rattle.std.proofs.Common.{◌-◌, ◌<◌, inl, true, false, refl, rules, arith}
use Rattle.bins.specs.Index.{without_size}
use Rattle.bins.specs.Tries.{width, low_at}
use Rattle.bins.proofs.Opened.{none_in}
use Rattle.bins.proofs.Searching.{s_levels, q, s_head, s_slot, s_child}
use Rattle.bins.proofs.Lesser.{IsCarried, least_search}
use Rattle.bins.proofs.search.+least_of.Goals as goal
use Rattle.bins.proofs.search.+least_of.Goals.{After-or_less-lesser}

pub returns-then-at-eq0-clause-fit : goal.returns-then-at-eq0-clause-fit
returns-then-at-eq0-clause-fit g t c = λ index low read.
    inl (none_in (g.M.Links.word c.args.memory.now) index read.bin read.parent low c.args.levels c.if-at-eq0.true read.trie, refl)

pub size-requires : goal.size-requires
size-requires g t c =
    let read = c.requires.readable.1.1 in
    let real : 0 < c.args.at = omega arith in
    s_head real read

pub first_child-child-requires : goal.first_child-child-requires
first_child-child-requires g t c =
    let read = c.requires.readable.1.1 in
    let real : 0 < c.args.at = omega arith in
    record { left = s_slot real read false; right = s_slot real read true }

pub least_of-requires : goal.least_of-requires
least_of-requires g t c κs within =
    let r = c.requires.readable in
    let read = r.1.1 in
    let real : 0 < c.args.at = omega arith in
    let levels : 0 < c.args.levels = s_levels real read in
    let side = c.first_child-child.result.is_upper in
    let child = s_child real read side c.first_child-child.ensures.first.is refl in (
      omega (arith, c.decreases, levels),
      (
        search rules,
        (
          search rules,
          (without_size (q real read).node.size r.0, (low_at side r.1.0 (width (c.args.levels - 1)), child)),
        ),
      ),
    )

-- what is carried on
carried : (g : _) (t : _) (c : After-or_less-lesser g t) →
    IsCarried (g.M.Links.word c.args.memory.now) c.args.at 0 (record { size = c.size.result; chunk = c.args.at })
    (record { size = c.args.known_size; chunk = c.args.known }) c.or_less-lesser.result
carried g t c = record { size_is = c.size.ensures.value; chunk_is = refl; other = c.or_less-lesser.ensures.other; same = c.or_less-lesser.ensures.same }

pub returns-clause-fit : goal.returns-clause-fit
returns-clause-fit g t c = λ index low read.
    let real : 0 < c.args.at = omega arith in
    let carried = carried g t (goal.at.returns-clause-fit g t c).After-or_less-lesser in
    let child = c.first_child-child in
    let side = child.result.is_upper in
    let below_read = s_child real read side child.ensures.first.is refl in
    let below = c.least_of.ensures.fit (without_size (q real read).node.size index) (low_at side low (width (c.args.levels - 1))) below_read in
    least_search real read carried c.least_of.result refl side child.ensures.first.is child.ensures.first.lower child.ensures.first.upper below
