use Rattle.std.proofs.Common.{◌≡◌, refl, sym, subst, ◌∙◌, rules, arith}
use Rattle.meminterval.specs.declared.node.Subtree.TheVariants.{Fork}
use Rattle.meminterval.specs.Insertion.{IsPresent, IsInsertRefused}
use Rattle.meminterval.specs.Interval.{by_ends}
use Rattle.meminterval.specs.Tree.{entries}
use Rattle.meminterval.specs.Subtree.{tree_of}
use Rattle.meminterval.proofs.Insertions.{added_left, added_right, present_here, present_left, present_right, refused_left, refused_right}
use Rattle.meminterval.proofs.Ordered.{with_entry_length}
use Rattle.meminterval.proofs.Parts.{sound_left, sound_right}
use Rattle.meminterval.proofs.Trees.{length_fork}
use Rattle.meminterval.proofs.insertion.+insert_below.Goals as goal

pub insert_below-requires : goal.insert_below-requires
insert_below-requires g t c =
    let s = rw c.in-Fork.is at c.requires.sound in
    let few = rw (c.in-Fork.is, length_fork) at c.requires.room in
    let higher = rw c.in-Fork.is at c.decreases in
    λ κs h. rw (c.replace-left.ensures.value, c.deref_mut.ensures.value) (
      omega (arith, higher),
      (search rules, (search rules, (c.requires.clones, (sound_left g.T.Ord.cmp c.in-Fork.node s, omega (arith, few))))),
    )

pub insert_below-requires-in-Greater : goal.insert_below-requires-in-Greater
insert_below-requires-in-Greater g t c =
    let s = rw c.in-Fork.is at c.requires.sound in
    let few = rw (c.in-Fork.is, length_fork) at c.requires.room in
    let higher = rw c.in-Fork.is at c.decreases in
    λ κs h. rw (c.replace-right.ensures.value, c.deref_mut-in-Greater.ensures.value) (
      omega (arith, higher),
      (search rules, (search rules, (c.requires.clones, (sound_right g.T.Ord.cmp c.in-Fork.node s, omega (arith, few))))),
    )

pub balance-requires-clause-sides : goal.balance-requires-clause-sides
balance-requires-clause-sides g t c =
    let s = rw c.in-Fork.is at c.requires.sound in
    let few = rw (c.in-Fork.is, length_fork) at c.requires.room in
    let a = rw (c.replace-left.ensures.value, c.deref_mut.ensures.value) at c.in-Added.ensures in
    let pairs = a.pairs in
    let one = with_entry_length (by_ends g.T.Ord.cmp) (c.args.interval, c.args.value) (entries (tree_of c.in-Fork.node.value.left)) in
    let right : c.split-node.result.2 ≡ c.in-Fork.node.value.right = rw (c.split-node.ensures.right, c.deref_mut.ensures.value) refl in
    record { left = (a.recorded, a.balanced); right = rw right (s.recorded.1, s.balanced.1); room = rw (pairs, right) (omega (arith, few, one)) }

pub balance-requires-in-Added-insert_below-clause-sides : goal.balance-requires-in-Added-insert_below-clause-sides
balance-requires-in-Added-insert_below-clause-sides g t c =
    let s = rw c.in-Fork.is at c.requires.sound in
    let few = rw (c.in-Fork.is, length_fork) at c.requires.room in
    let a = rw (c.replace-right.ensures.value, c.deref_mut-in-Greater.ensures.value) at c.in-Added-insert_below.ensures in
    let pairs = a.pairs in
    let one = with_entry_length (by_ends g.T.Ord.cmp) (c.args.interval, c.args.value) (entries (tree_of c.in-Fork.node.value.right)) in
    let left : c.split-left.result.0 ≡ c.in-Fork.node.value.left = rw (c.split-left.ensures.left, c.deref_mut-in-Greater.ensures.value) refl in
    record { left = rw left (s.recorded.0, s.balanced.0); right = (a.recorded, a.balanced); room = rw (pairs, left) (omega (arith, few, one)) }

pub returns-in-Added : goal.returns-in-Added
returns-in-Added g t c =
    let s = rw c.in-Fork.is at c.requires.sound.ordered in
    let h = rw c.deref.ensures at (sym c.cmp.ensures ∙ c.in-Less.is) in
    let a = rw (c.replace-left.ensures.value, c.deref_mut.ensures.value) at c.in-Added.ensures in
    let restored = rw (
      c.split-node.ensures.interval,
      c.split-node.ensures.value,
      c.split-node.ensures.right,
      c.deref_mut.ensures.value,
    ) at c.balance.ensures in
    rw c.in-Fork.is (added_left g.T.Ord.cmp g.met.T.Ord.total (c.args.interval, c.args.value) c.in-Fork.node s
    c.in-Added.left c.balance.result h (rw c.in-Fork.is at c.requires.sound.balanced) a restored)

pub returns-in-Present : goal.returns-in-Present
returns-in-Present g t c =
    let s = rw c.in-Fork.is at c.requires.sound.ordered in
    let h = rw c.deref.ensures at (sym c.cmp.ensures ∙ c.in-Less.is) in
    let a = rw (c.replace-left.ensures.value, c.deref_mut.ensures.value) at c.in-Present.ensures in
    let same = a.same in
    rw c.in-Fork.is (subst (λ u. IsPresent g.T.Ord.cmp (c.args.interval, c.args.value) (Fork c.in-Fork.node) u)
    (search (rules, same)) (present_left g.T.Ord.cmp g.met.T.Ord.total (c.args.interval, c.args.value) c.in-Fork.node s
    (Fork c.in-Fork.node) h a.there refl))

pub returns-in-NoMemory : goal.returns-in-NoMemory
returns-in-NoMemory g t c =
    let s = rw c.in-Fork.is at c.requires.sound.ordered in
    let h = rw c.deref.ensures at (sym c.cmp.ensures ∙ c.in-Less.is) in
    let a = rw (c.replace-left.ensures.value, c.deref_mut.ensures.value) at c.in-NoMemory.ensures in
    let same = a.same in
    rw c.in-Fork.is (subst (λ u. IsInsertRefused g.T.Ord.cmp (c.args.interval, c.args.value) (Fork c.in-Fork.node) u)
    (search (rules, same)) (refused_left g.T.Ord.cmp g.met.T.Ord.total (c.args.interval, c.args.value) c.in-Fork.node s
    c.in-NoMemory.left (Fork c.in-Fork.node) h a refl))

pub returns-in-Equal : goal.returns-in-Equal
returns-in-Equal g t c =
    let s = rw c.in-Fork.is at c.requires.sound.ordered in
    let h = rw c.deref.ensures at (sym c.cmp.ensures ∙ c.in-Equal.is) in
    rw c.in-Fork.is (present_here g.T.Ord.cmp g.met.T.Ord.total (c.args.interval, c.args.value) c.in-Fork.node s h)

pub returns-in-Added-insert_below : goal.returns-in-Added-insert_below
returns-in-Added-insert_below g t c =
    let s = rw c.in-Fork.is at c.requires.sound.ordered in
    let h = rw c.deref.ensures at (sym c.cmp.ensures ∙ c.in-Greater.is) in
    let a = rw (c.replace-right.ensures.value, c.deref_mut-in-Greater.ensures.value) at c.in-Added-insert_below.ensures in
    let restored = rw (
      c.split-left.ensures.interval,
      c.split-left.ensures.value,
      c.split-left.ensures.left,
      c.deref_mut-in-Greater.ensures.value,
    ) at c.balance-in-Added-insert_below.ensures in
    rw c.in-Fork.is (added_right g.T.Ord.cmp g.met.T.Ord.total (c.args.interval, c.args.value) c.in-Fork.node s
    c.in-Added-insert_below.right c.balance-in-Added-insert_below.result h (rw c.in-Fork.is at c.requires.sound.balanced) a
    restored)

pub returns-in-Present-insert_below : goal.returns-in-Present-insert_below
returns-in-Present-insert_below g t c =
    let s = rw c.in-Fork.is at c.requires.sound.ordered in
    let h = rw c.deref.ensures at (sym c.cmp.ensures ∙ c.in-Greater.is) in
    let a = rw (c.replace-right.ensures.value, c.deref_mut-in-Greater.ensures.value) at c.in-Present-insert_below.ensures in
    let same = a.same in
    rw c.in-Fork.is (subst (λ u. IsPresent g.T.Ord.cmp (c.args.interval, c.args.value) (Fork c.in-Fork.node) u)
    (search (rules, same)) (present_right g.T.Ord.cmp g.met.T.Ord.total (c.args.interval, c.args.value) c.in-Fork.node s
    (Fork c.in-Fork.node) h a.there refl))

pub returns-in-NoMemory-insert_below : goal.returns-in-NoMemory-insert_below
returns-in-NoMemory-insert_below g t c =
    let s = rw c.in-Fork.is at c.requires.sound.ordered in
    let h = rw c.deref.ensures at (sym c.cmp.ensures ∙ c.in-Greater.is) in
    let a = rw (c.replace-right.ensures.value, c.deref_mut-in-Greater.ensures.value) at c.in-NoMemory-insert_below.ensures in
    let same = a.same in
    rw c.in-Fork.is (subst (λ u. IsInsertRefused g.T.Ord.cmp (c.args.interval, c.args.value) (Fork c.in-Fork.node) u)
    (search (rules, same)) (refused_right g.T.Ord.cmp g.met.T.Ord.total (c.args.interval, c.args.value) c.in-Fork.node s
    c.in-NoMemory-insert_below.right (Fork c.in-Fork.node) h a refl))
