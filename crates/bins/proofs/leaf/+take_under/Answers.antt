use Rattle.std.proofs.Common.{◌+◌, ◌-◌, ◌<◌, ◌≤◌, true, false, refl, rules, arith}
use Rattle.bins.specs.Tries.{low_at, slot, width}
use Rattle.bins.proofs.Taking.{t_levels, t_rest, t_slot, all_taken, sub_held, cleared_now, left_alone, leaf_not_at, child_taken}
use Rattle.bins.proofs.leaf.+take_under.Goals as goal

pub first_child-next-requires : goal.first_child-next-requires
first_child-next-requires g t c =
    let held = c.requires.held.1.1.1.1.1.1 in
    let child = sub_held c.requires.child.some held c.args.is_upper c.requires.child.named c.requires.child.real in
    record { left = t_slot c.requires.child.real child false; right = t_slot c.requires.child.real child true }

pub slot_of-requires : goal.slot_of-requires
slot_of-requires g t c = (t_slot c.requires.child.some c.requires.held.1.1.1.1.1.1 true).small

pub store_counted-requires : goal.store_counted-requires
store_counted-requires g t c = rw c.slot_of.ensures ((t_slot c.requires.child.some c.requires.held.1.1.1.1.1.1 c.args.is_upper).word)

-- ---- the child is the leaf, and its word is cleared
pub returns-then-next-eq0-clause-taken : goal.returns-then-next-eq0-clause-taken
returns-then-next-eq0-clause-taken g t c = λ index bin parent low deep less held.
    let child = sub_held c.requires.child.some held c.args.is_upper c.requires.child.named c.requires.child.real in
    let leaf = all_taken c.requires.child.real child (c.first_child-next.ensures.first.left c.if-next-eq0.true) (c.first_child-next.ensures.first.right c.if-next-eq0.true) in
    let stored = rw c.slot_of.ensures at c.store_counted.ensures.stored in
    child_taken c.requires.child.some held c.args.is_upper c.requires.child.named c.requires.child.real refl leaf (cleared_now stored) (λ e. refl) (λ e. absurd (e refl))

pub returns-then-next-eq0-clause-other : goal.returns-then-next-eq0-clause-other
returns-then-next-eq0-clause-other g t c =
    let held = c.requires.held.1.1.1.1.1.1 in
    let child = sub_held c.requires.child.some held c.args.is_upper c.requires.child.named c.requires.child.real in
    let leaf = all_taken c.requires.child.real child (c.first_child-next.ensures.first.left c.if-next-eq0.true) (c.first_child-next.ensures.first.right c.if-next-eq0.true) in
    let stored = rw c.slot_of.ensures at c.store_counted.ensures.stored in
    leaf_not_at c.requires.child.some held c.args.is_upper c.requires.child.named c.requires.child.real refl leaf (cleared_now stored) (λ e. refl) (λ e. absurd (e refl))

pub returns-then-next-eq0-clause-counted : goal.returns-then-next-eq0-clause-counted
returns-then-next-eq0-clause-counted g t c =
    let r = c.requires.held in
    let held = r.1.1.1.1.1.1 in
    let levels : 0 < r.1.1.1.1.0 = t_levels c.requires.child.some held in
    let deep : 0 < r.1.1.1.1.0 - 1 = t_levels c.requires.child.real (sub_held c.requires.child.some held c.args.is_upper c.requires.child.named c.requires.child.real) in
    omega (arith, levels, deep, r.1.1.1.1.1.0, c.first_child-next.ensures.counted, c.store_counted.ensures.counted)

-- ---- the leaf stands below the child
pub take_under-requires : goal.take_under-requires
take_under-requires g t c κs within =
    let r = c.requires.held in
    let deep = r.1.1.1.1.0 in
    let held = r.1.1.1.1.1.1 in
    let real : 0 < c.first_child-next.result.at = omega arith in
    let levels : 0 < deep = t_levels c.requires.child.some held in
    let less : deep - 1 ≤ c.args.levels - 1 = omega (arith, levels, r.1.1.1.1.1.0) in
    let low = low_at c.args.is_upper r.1.1.1.0 (width (deep - 1)) in
    let child = sub_held c.requires.child.some held c.args.is_upper c.requires.child.named c.requires.child.real in (
      omega (arith, c.decreases, levels, r.1.1.1.1.1.0),
      (
        search rules,
        (
          search rules,
          (
            record { some = c.requires.child.real; real = real; named = c.first_child-next.ensures.first.is },
            (t_rest c.requires.child.some held, (r.1.0, (c.args.at, (low, (deep - 1, (less, child)))))),
          ),
        ),
      ),
    )

pub returns-clause-taken : goal.returns-clause-taken
returns-clause-taken g t c = λ index bin parent low deep less held.
    let child = sub_held c.requires.child.some held c.args.is_upper c.requires.child.named c.requires.child.real in
    let leaf = c.take_under.ensures.taken (t_rest c.requires.child.some held) bin c.args.at
    (low_at c.args.is_upper low (width (deep - 1))) (deep - 1) (omega arith) child in
    let kept = left_alone (g.M.Links.regions c.args.memory.now) (g.M.Links.word c.take_under.new.memory) (c.args.at + slot c.args.is_upper) in
    child_taken c.requires.child.some held c.args.is_upper c.requires.child.named c.requires.child.real refl leaf kept (λ e. absurd (c.take_under.ensures.other e)) (λ e. refl)

pub returns-clause-other : goal.returns-clause-other
returns-clause-other g t c =
    let r = c.requires.held in
    let deep = r.1.1.1.1.0 in
    let less = r.1.1.1.1.1.0 in
    let held = r.1.1.1.1.1.1 in
    let child = sub_held c.requires.child.some held c.args.is_upper c.requires.child.named c.requires.child.real in
    let leaf = c.take_under.ensures.taken (t_rest c.requires.child.some held) r.1.0 c.args.at
    (low_at c.args.is_upper r.1.1.1.0 (width (deep - 1))) (deep - 1) (omega arith) child in
    let kept = left_alone (g.M.Links.regions c.args.memory.now) (g.M.Links.word c.take_under.new.memory) (c.args.at + slot c.args.is_upper) in
    leaf_not_at c.requires.child.some held c.args.is_upper c.requires.child.named c.requires.child.real refl leaf kept (λ e. absurd (c.take_under.ensures.other e)) (λ e. refl)
